use Rattle.std.proofs.Common.{◌≡◌, ◌∙◌, [], sym, ap, subst}
use Rattle.std.specs.Prelude.{filter}
use Rattle.rdf_model.specs.Graphs.{with_each}
use Rattle.rdf_model.specs.Matching.{is_read}
use Rattle.rdf_model.specs.Numbers.{AreNumbered, graph_of}
use Rattle.store_model.specs.Store.{first_read}
use Rattle.snapshot_store.specs.Asking.{is_looked_at}
use Rattle.snapshot_store.specs.Named.{NamedLooks}
use Rattle.snapshot_store.proofs.Sooner.{first_asked, first_look, found_numbered}
use Rattle.snapshot_store.proofs.looks.LookSet.first_touched.Goals as goal

pub first_triple-requires : goal.first_triple-requires
first_triple-requires c =
    let numbered = subst (λ (s : NamedLooks). AreNumbered s.names c.args.changed.now) (sym c.self.view_is) c.requires in
    found_numbered c.self.inside.names.now.terms (is_looked_at c.self.inside.numbers) c.args.changed.now c.deref.result.now numbered (c.deref.ensures.value ∙ c.in_ok-found.ensures)

pub returns : goal.returns
returns c =
    let names = c.self.inside.names.now.terms in
    let ls = c.self.inside.looks.now in
    let ids = c.args.changed.now in
    let numbered = subst (λ (s : NamedLooks). AreNumbered s.names ids) (sym c.self.view_is) c.requires in
    let found : c.deref.result.now ≡ filter (is_looked_at c.self.inside.numbers) ids = c.deref.ensures.value ∙ c.in_ok-found.ensures in
    c.in_ok-first.ensures ∙ first_asked (is_read ls) names (is_looked_at c.self.inside.numbers) c.self.invariant.0 ids c.deref.result.now numbered found ∙ first_look ls (with_each [] (graph_of names ids))
    ∙ ap (λ (s : NamedLooks). first_read s.looks (with_each [] (graph_of s.names ids))) c.self.view_is
