use Rattle.std.proofs.Common.{◌≡◌, ◌∙◌, List, [], sym, ap, subst}
use Rattle.std.specs.Prelude.{filter}
use Rattle.rdf_model.specs.Graphs.{with_each}
use Rattle.rdf_model.specs.Matching.{is_found}
use Rattle.rdf_model.specs.Numbers.{AreNumbered, graph_of}
use Rattle.store_model.specs.Store.{first_matching}
use Rattle.numbered_patterns.specs.declared.pattern.NumberedPattern.{NumberedPattern}
use Rattle.snapshot_store.specs.Asking.{is_asked}
use Rattle.snapshot_store.specs.Named.{NamedFinds}
use Rattle.snapshot_store.proofs.Sooner.{first_asked, first_match, found_numbered}
use Rattle.snapshot_store.proofs.finds.FindSet.first_found.Goals as goal

pub first_triple-requires : goal.first_triple-requires
first_triple-requires c =
    let numbered = subst (λ (s : NamedFinds). AreNumbered s.names c.args.changed.now) (sym c.self.view_is) c.requires in
    found_numbered c.self.inside.names.now.terms (is_asked c.deref.result.now) c.args.changed.now c.deref-2.result.now numbered (c.deref-2.ensures.value ∙ c.in_ok-found.ensures)

pub returns : goal.returns
returns c =
    let names = c.self.inside.names.now.terms in
    let ps = c.self.inside.patterns.now in
    let ids = c.args.changed.now in
    let numbered = subst (λ (s : NamedFinds). AreNumbered s.names ids) (sym c.self.view_is) c.requires in
    let found : c.deref-2.result.now ≡ filter (is_asked c.self.inside.asked.items) ids =
    c.deref-2.ensures.value ∙ c.in_ok-found.ensures ∙ ap (λ (asked : List NumberedPattern). filter (is_asked asked) ids) c.deref.ensures.value in
    c.in_ok-first.ensures ∙ first_asked (is_found ps) names (is_asked c.self.inside.asked.items) c.self.invariant ids c.deref-2.result.now numbered found ∙ first_match ps (with_each [] (graph_of names ids))
    ∙ ap (λ (s : NamedFinds). first_matching s.finds (with_each [] (graph_of s.names ids))) c.self.view_is
