use Rattle.std.proofs.Common.{◌∙◌, [], ap}
use Rattle.triple_index.specs.Changes.{after_ids}
use Rattle.overlay_view.proofs.Layers.{overlay_after}
use Rattle.overlay_view.proofs.overlay.Overlay.new.Goals as goal

pub returns : goal.returns
returns g c = overlay_after (g.R.Triples.triples c.args.base.now) c.args.net.now c.in_ok-added.added c.in_ok-removed.removed c.in_ok-added.ensures (c.in_ok-removed.ensures ∙ ap (after_ids []) (c.deref.ensures.value ∙ c.in_ok-opposites.ensures))
