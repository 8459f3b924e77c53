use Rattle.std.proofs.Common.{◌∙◌, ◌++◌, List, ap}
use Rattle.std.specs.Prelude.{◌&&◌, filter}
use Rattle.rdf_model.specs.declared.ids.Ids.{Ids}
use Rattle.overlay_view.specs.Overlays.{is_left}
use Rattle.overlay_view.proofs.Patterns.{pattern_laid}
use Rattle.overlay_view.proofs.pattern.Overlay+Index.find_pattern.Goals as goal

pub returns : goal.returns
returns c = pattern_laid c.args.subject c.args.predicate c.args.object c.args.self.now.base.now c.args.self.now.added c.args.self.now.removed c.in_ok-beneath.beneath.items c.in_ok-found.found.items c.in_ok-more.more.items c.extend_from_slice.new.self.items
    c.in_ok-beneath.ensures c.in_ok-more.ensures
    (c.in_ok-found.ensures ∙ ap (λ (ts : List Ids). filter (λ (t : Ids). is_left c.args.self.now.removed t && is_left c.args.self.now.added t) ts) c.deref.ensures.value)
    (c.in_ok-extend_from_slice.ensures.items ∙ ap (λ (ts : List Ids). c.in_ok-found.found.items ++ ts) c.deref-2.ensures.value)
