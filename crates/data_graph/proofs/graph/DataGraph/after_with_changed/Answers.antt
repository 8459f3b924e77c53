use Rattle.std.proofs.Common.{◌≡◌, ◌∙◌, List, map, subst, sym, ap}
use Rattle.std.specs.List.{AllByRecursion}
use Rattle.rdf_model.specs.declared.change.Change.{Change}
use Rattle.rdf_model.specs.Graphs.{after, differing}
use Rattle.rdf_model.specs.Numbers.{AreNumbered}
use Rattle.triple_index.specs.Changes.{IsNumberedChange, after_ids, change_at}
use Rattle.triple_index.specs.declared.change.NumberedChange.{NumberedChange}
use Rattle.data_graph.specs.DataGraphs.{AreNamedChanges, KeepsIndex, NamedGraph, triples_at}
use Rattle.data_graph.proofs.Differing.{kept_index}
use Rattle.data_graph.proofs.Listed.{listed_after, numbered_after}
use Rattle.data_graph.proofs.graph.DataGraph.after_with_changed.Goals as goal

pub number_changes-requires : goal.number_changes-requires
number_changes-requires c = subst (λ (d : NamedGraph). AreNamedChanges d.terms c.args.net.now) (sym c.self.view_is) c.requires

pub ids_differing-requires-clause-index : goal.ids_differing-requires-clause-index
ids_differing-requires-clause-index c = c.self.invariant.1

pub ids_differing-requires-clause-changes : goal.ids_differing-requires-clause-changes
ids_differing-requires-clause-changes c =
    subst (λ (cs : List NumberedChange). AllByRecursion (IsNumberedChange c.self.inside.names.terms) cs) (sym c.deref-2.ensures.value) c.in_ok-changes.ensures.0

pub ids_differing-requires-clause-later : goal.ids_differing-requires-clause-later
ids_differing-requires-clause-later c = c.in_ok-numbers.ensures ∙ ap (after_ids c.self.inside.numbers) (c.deref.ensures.value ∙ sym c.deref-2.ensures.value)

pub with_numbers-requires : goal.with_numbers-requires
with_numbers-requires c =
    let terms = c.self.inside.names.terms in
    let ids = c.self.inside.numbers in
    let net = c.args.net.now in
    let cs = c.in_ok-changes.changes.items in
    let later = c.in_ok-numbers.numbers in
    let l : later ≡ after_ids ids cs = c.in_ok-numbers.ensures ∙ ap (after_ids ids) c.deref.ensures.value in
    let kept = kept_index terms c.recall_numbering.ensures ids later cs c.self.invariant.1 c.recall_ascending.ensures c.in_ok-changes.ensures.0 l in
    let whole = subst (λ (ds : List Change). KeepsIndex terms ids ds later) c.in_ok-changes.ensures.1 kept in
    subst (λ (d : NamedGraph). AreNumbered d.terms later) c.self.view_is (numbered_after terms ids later net c.self.invariant.1 whole)

pub returns-clause-next : goal.returns-clause-next
returns-clause-next c =
    let terms = c.self.inside.names.terms in
    let ids = c.self.inside.numbers in
    let net = c.args.net.now in
    let cs = c.in_ok-changes.changes.items in
    let later = c.in_ok-numbers.numbers in
    let l : later ≡ after_ids ids cs = c.in_ok-numbers.ensures ∙ ap (after_ids ids) c.deref.ensures.value in
    let kept = kept_index terms c.recall_numbering.ensures ids later cs c.self.invariant.1 c.recall_ascending.ensures c.in_ok-changes.ensures.0 l in
    let whole = subst (λ (ds : List Change). KeepsIndex terms ids ds later) c.in_ok-changes.ensures.1 kept in
    let x = c.args.self.now in
    let listed = listed_after terms ids later net c.self.invariant.1 whole in
    let own : triples_at x.terms later ≡ after x.triples net = subst (λ (d : NamedGraph). triples_at d.terms later ≡ after d.triples net) c.self.view_is listed in
    c.in_ok-next.ensures ∙ (λ k. record { triples = own k; shapes = x.shapes; terms = x.terms; limit = x.limit })

pub returns-clause-changed : goal.returns-clause-changed
returns-clause-changed c =
    let terms = c.self.inside.names.terms in
    let ids = c.self.inside.numbers in
    let net = c.args.net.now in
    let cs = c.in_ok-changes.changes.items in
    let later = c.in_ok-numbers.numbers in
    let found = c.in_ok-changed.changed.items in
    let l : later ≡ after_ids ids cs = c.in_ok-numbers.ensures ∙ ap (after_ids ids) c.deref.ensures.value in
    let kept = kept_index terms c.recall_numbering.ensures ids later cs c.self.invariant.1 c.recall_ascending.ensures c.in_ok-changes.ensures.0 l in
    let whole = subst (λ (ds : List Change). KeepsIndex terms ids ds later) c.in_ok-changes.ensures.1 kept in
    let listed = listed_after terms ids later net c.self.invariant.1 whole in
    let changed : triples_at terms found ≡ differing (triples_at terms ids) (after (triples_at terms ids) net) = c.in_ok-changed.ensures.differing ∙ ap (differing (triples_at terms ids)) listed in (
      subst (λ (d : NamedGraph). triples_at d.terms found ≡ differing d.triples (after d.triples net)) c.self.view_is changed,
      subst (λ (d : NamedGraph). AreNumbered d.terms found) c.self.view_is c.in_ok-changed.ensures.numbered,
    )

pub returns-clause-net : goal.returns-clause-net
returns-clause-net c =
    let cs = c.in_ok-changes.changes.items in (
      subst (λ (d : NamedGraph). map (change_at d.terms) cs ≡ c.args.net.now) c.self.view_is c.in_ok-changes.ensures.1,
      subst (λ (d : NamedGraph). AllByRecursion (IsNumberedChange d.terms) cs) c.self.view_is c.in_ok-changes.ensures.0,
    )
