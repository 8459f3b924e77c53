use Rattle.std.proofs.Common.{◌≡◌, ◌∙◌, List, map, ap, refl, sym, subst}
use Rattle.std.specs.Prelude.{◌↔◌}
use Rattle.std.specs.List.{AllByRecursion, Contains}
use Rattle.rdf_model.specs.declared.change.Change.{Change}
use Rattle.rdf_model.specs.declared.ids.Ids.{Ids}
use Rattle.rdf_model.specs.declared.look.Look.{Look}
use Rattle.rdf_model.specs.declared.term.Term.{Term}
use Rattle.rdf_model.specs.declared.triple.Triple.{Triple}
use Rattle.overlay_view.specs.Overlays.{IsAfter, overlaid}
use Rattle.path_eval.specs.Naming.{look_of}
use Rattle.shape_model.specs.ShapeSyntax.{IsShape}
use Rattle.rdf_model.specs.Graphs.{after}
use Rattle.store_model.specs.Store.{AreNamed, looked_at}
use Rattle.triple_index.specs.Changes.{IsNumberedChange, change_at}
use Rattle.triple_index.specs.declared.change.NumberedChange.{NumberedChange}
use Rattle.change_laws.specs.Pairs.{IsCheckFootprint}
use Rattle.parallel_validate.specs.Counting.{GrowsByCount}
use Rattle.parallel_validate.specs.Verdicts.{AreBoundLooks, IsEvaluated}
use Rattle.kept_rows.specs.declared.pair_rows.PairRows.{PairRows}
use Rattle.kept_rows.specs.Laws.{ChecksPairs}
use Rattle.data_graph.specs.declared.changes.PairedChanges.{PairedChanges}
use Rattle.data_graph.specs.DataGraphs.{AreNamedChanges, IsIndexOf, NamedGraph}
use Rattle.data_graph.proofs.NamedLooks.{looks_named}
use Rattle.data_graph.proofs.Keeping.{none_checked}
use Rattle.data_graph.proofs.NoChecks.{no_checks, no_looks}
use Rattle.data_graph.proofs.Overlaid.{index_overlaid}
use Rattle.std.proofs.Crossing.{crosses}
use denote.Param.Send.{sendable}
use Rattle.data_graph.proofs.Crossing.{keys_sync}
use Rattle.data_graph.proofs.graph.DataGraph.paired_after.Goals as goal

pub returns-then-is_without_shapes-clause-checks : goal.returns-then-is_without_shapes-clause-checks
returns-then-is_without_shapes-clause-checks g c =
    let x = c.args.self.now in
    let same : c.graph.result.now ≡ x.shapes = c.graph.ensures ∙ ap (λ (d : NamedGraph). d.shapes) c.self.view_is in
    let none = subst (λ (ts : List Triple). (shape : Term) → IsShape ts shape → ⊥) same (c.is_without_shapes.ensures.0 c.if-is_without_shapes.true) in
    subst (λ (found : PairedChanges). ChecksPairs x.terms x.triples x.shapes c.args.net.now found.pairs) (sym c.empty.ensures) (none_checked x.terms x.triples x.shapes c.args.net.now none)

pub returns-then-is_without_shapes-clause-looks : goal.returns-then-is_without_shapes-clause-looks
returns-then-is_without_shapes-clause-looks g c =
    let x = c.args.self.now in
    let same : c.graph.result.now ≡ x.shapes = c.graph.ensures ∙ ap (λ (d : NamedGraph). d.shapes) c.self.view_is in
    let none = subst (λ (ts : List Triple). (shape : Term) → IsShape ts shape → ⊥) same (c.is_without_shapes.ensures.0 c.if-is_without_shapes.true) in
    subst (λ (found : PairedChanges). IsCheckFootprint x.triples x.shapes c.args.net.now found.looks) (sym c.empty.ensures) (no_looks x.triples x.shapes c.args.net.now none)

pub returns-then-is_without_shapes-clause-named : goal.returns-then-is_without_shapes-clause-named
returns-then-is_without_shapes-clause-named g c =
    let terms = c.args.self.now.terms in
    subst (λ (found : PairedChanges). AllByRecursion (λ look. AreNamed terms (looked_at look)) found.looks) (sym c.empty.ensures) tt

pub returns-then-is_without_shapes-clause-steps : goal.returns-then-is_without_shapes-clause-steps
returns-then-is_without_shapes-clause-steps g c =
    let s = c.args.self.now.shapes in
    let same : c.graph.result.now ≡ s = c.graph.ensures ∙ ap (λ (d : NamedGraph). d.shapes) c.self.view_is in
    let none = subst (λ (ts : List Triple). (shape : Term) → IsShape ts shape → ⊥) same (c.is_without_shapes.ensures.0 c.if-is_without_shapes.true) in
    no_checks c.args.self.now.triples s c.args.net.now none c.args.steps.now

pub number_changes-requires : goal.number_changes-requires
number_changes-requires g c = subst (λ (d : NamedGraph). AreNamedChanges d.terms c.args.net.now) (sym c.self.view_is) c.requires

pub checked_after-requires-clause-changes : goal.checked_after-requires-clause-changes
checked_after-requires-clause-changes g c κs within =
    let named = subst (λ (cs : List NumberedChange). AllByRecursion (IsNumberedChange c.self.inside.names.terms) cs) (sym c.deref-2.ensures.value) c.in_ok-changes.ensures.0 in
    subst (λ (d : NamedGraph). AllByRecursion (IsNumberedChange d.terms) c.deref-2.result.now) c.self.view_is named

pub checked_after-requires-clause-later : goal.checked_after-requires-clause-later
checked_after-requires-clause-later g c κs within =
    let terms = c.self.inside.names.terms in
    let triples = c.args.self.now.triples in
    let base = c.index-index.result.now in
    let items = c.in_ok-changes.changes.items in
    let laid = overlaid c.in_ok-later.later.base.now c.in_ok-later.later.added c.in_ok-later.later.removed in
    let are_after = subst (λ (cs : List NumberedChange). (t : Ids) → Contains laid t ↔ IsAfter (Contains base) cs t) c.deref.ensures.value c.in_ok-later.ensures in
    let index = subst (λ (d : NamedGraph). IsIndexOf d.terms base triples) (sym c.self.view_is) c.index-index.ensures.index in
    let made = index_overlaid terms items (map (change_at terms) items) base laid triples c.recall_numbering.ensures c.in_ok-changes.ensures.0 refl are_after c.recall_ascending.ensures c.index-index.ensures.ascending index in
    let same = subst (λ (cs : List NumberedChange). IsIndexOf terms laid (after triples (map (change_at terms) cs))) (sym c.deref-2.ensures.value) made in
    subst (λ (d : NamedGraph). IsIndexOf d.terms laid (after triples (map (change_at d.terms) c.deref-2.result.now))) c.self.view_is same

pub paired_changes-requires : goal.paired_changes-requires
paired_changes-requires g c = subst (λ (d : NamedGraph). AreBoundLooks d.terms c.in_ok-checked.checked.looks) (sym c.self.view_is) c.in_ok-checked.ensures.checked.bound

pub returns-clause-checks : goal.returns-clause-checks
returns-clause-checks g c =
    let x = c.args.self.now in
    let found = c.in_ok-paired_changes.field-0 in
    let same = subst (λ (d : NamedGraph). map (change_at d.terms) c.deref-2.result.now ≡ c.args.net.now) c.self.view_is (ap (map (change_at c.self.inside.names.terms)) c.deref-2.ensures.value ∙ c.in_ok-changes.ensures.1) in
    subst (λ (net : List Change). ChecksPairs x.terms x.triples x.shapes net found.pairs) same
    (subst (λ (ps : List PairRows). ChecksPairs x.terms x.triples x.shapes (map (change_at x.terms) c.deref-2.result.now) ps) (sym c.in_ok-paired_changes.ensures.pairs) c.in_ok-checked.ensures.checked.checks)

pub returns-clause-looks : goal.returns-clause-looks
returns-clause-looks g c =
    let x = c.args.self.now in
    let found = c.in_ok-paired_changes.field-0 in
    let same = subst (λ (d : NamedGraph). map (change_at d.terms) c.deref-2.result.now ≡ c.args.net.now) c.self.view_is (ap (map (change_at c.self.inside.names.terms)) c.deref-2.ensures.value ∙ c.in_ok-changes.ensures.1) in
    let looks = subst (λ (d : NamedGraph). found.looks ≡ map (look_of d.terms) c.in_ok-checked.checked.looks) c.self.view_is c.in_ok-paired_changes.ensures.looks in
    subst (λ (net : List Change). IsCheckFootprint x.triples x.shapes net found.looks) same
    (subst (λ (ls : List (Look Term)). IsCheckFootprint x.triples x.shapes (map (change_at x.terms) c.deref-2.result.now) ls) (sym looks) c.in_ok-checked.ensures.checked.looks)

pub returns-clause-steps : goal.returns-clause-steps
returns-clause-steps g c =
    let x = c.args.self.now in
    let same = subst (λ (d : NamedGraph). map (change_at d.terms) c.deref-2.result.now ≡ c.args.net.now) c.self.view_is (ap (map (change_at c.self.inside.names.terms)) c.deref-2.ensures.value ∙ c.in_ok-changes.ensures.1) in
    subst (λ (net : List Change). GrowsByCount (IsEvaluated x.triples x.shapes net) c.args.steps.now c.checked_after.new.steps) same c.in_ok-checked.ensures.steps

pub returns-clause-named : goal.returns-clause-named
returns-clause-named g c =
    let x = c.args.self.now in
    let found = c.in_ok-paired_changes.field-0 in
    let looked = c.in_ok-checked.checked.looks in
    let looks = subst (λ (d : NamedGraph). found.looks ≡ map (look_of d.terms) looked) c.self.view_is c.in_ok-paired_changes.ensures.looks in
    looks_named x.terms looked found.looks c.in_ok-checked.ensures.checked.bound looks

pub checked_after-requires-sync-S : goal.checked_after-requires-sync-S
checked_after-requires-sync-S g c κs within = search (keys_sync, crosses, sendable) depth 60 fits 20000
