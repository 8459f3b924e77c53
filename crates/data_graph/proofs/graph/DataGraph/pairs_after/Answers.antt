use Rattle.std.proofs.Common.{◌≡◌, ◌∙◌, List, map, ap, sym, subst}
use Rattle.std.specs.List.{AllByRecursion}
use Rattle.rdf_model.specs.declared.change.Change.{Change}
use Rattle.rdf_model.specs.declared.term.Term.{Term}
use Rattle.rdf_model.specs.declared.triple.Triple.{Triple}
use Rattle.shape_model.specs.ShapeSyntax.{IsShape}
use Rattle.rdf_model.specs.Graphs.{after}
use Rattle.triple_index.specs.Changes.{IsNumberedChange, change_at}
use Rattle.triple_index.specs.declared.change.NumberedChange.{NumberedChange}
use Rattle.parallel_validate.specs.Counting.{GrowsByCount}
use Rattle.parallel_validate.specs.Verdicts.{IsEvaluated}
use Rattle.kept_rows.specs.declared.pair_rows.PairRows.{PairRows}
use Rattle.kept_rows.specs.Laws.{ChecksPairs}
use Rattle.data_graph.specs.DataGraphs.{AreNamedChanges, IsIndexOf, NamedGraph}
use Rattle.data_graph.proofs.Keeping.{none_checked}
use Rattle.data_graph.proofs.NoChecks.{no_checks}
use Rattle.std.proofs.Crossing.{crosses}
use denote.Param.Send.{sendable}
use Rattle.data_graph.proofs.Crossing.{keys_sync}
use Rattle.data_graph.proofs.graph.DataGraph.pairs_after.Goals as goal

pub returns-then-is_without_shapes-clause-checks : goal.returns-then-is_without_shapes-clause-checks
returns-then-is_without_shapes-clause-checks g c =
    let x = c.args.self.now in
    let same : c.graph.result.now ≡ x.shapes = c.graph.ensures ∙ ap (λ (d : NamedGraph). d.shapes) c.self.view_is in
    let none = subst (λ (ts : List Triple). (shape : Term) → IsShape ts shape → ⊥) same (c.is_without_shapes.ensures.0 c.if-is_without_shapes.true) in
    subst (λ (ps : List PairRows). ChecksPairs x.terms x.triples x.shapes c.args.net.now ps) (sym c.new.ensures) (none_checked x.terms x.triples x.shapes c.args.net.now none)

pub returns-then-is_without_shapes-clause-steps : goal.returns-then-is_without_shapes-clause-steps
returns-then-is_without_shapes-clause-steps g c =
    let s = c.args.self.now.shapes in
    let same : c.graph.result.now ≡ s = c.graph.ensures ∙ ap (λ (d : NamedGraph). d.shapes) c.self.view_is in
    let none = subst (λ (ts : List Triple). (shape : Term) → IsShape ts shape → ⊥) same (c.is_without_shapes.ensures.0 c.if-is_without_shapes.true) in
    no_checks c.args.self.now.triples s c.args.net.now none c.args.steps.now

pub number_changes-requires : goal.number_changes-requires
number_changes-requires g c = subst (λ (d : NamedGraph). AreNamedChanges d.terms c.args.net.now) (sym c.self.view_is) c.requires.net

pub checked_after-requires-clause-changes : goal.checked_after-requires-clause-changes
checked_after-requires-clause-changes g c κs within =
    let named = subst (λ (cs : List NumberedChange). AllByRecursion (IsNumberedChange c.self.inside.names.terms) cs) (sym c.deref.ensures.value) c.in_ok-changes.ensures.0 in
    subst (λ (d : NamedGraph). AllByRecursion (IsNumberedChange d.terms) c.deref.result.now) c.self.view_is named

pub checked_after-requires-clause-later : goal.checked_after-requires-clause-later
checked_after-requires-clause-later g c κs within =
    let x = c.args.self.now in
    let same = subst (λ (d : NamedGraph). map (change_at d.terms) c.deref.result.now ≡ c.args.net.now) c.self.view_is (ap (map (change_at c.self.inside.names.terms)) c.deref.ensures.value ∙ c.in_ok-changes.ensures.1) in
    subst (λ (net : List Change). IsIndexOf x.terms c.index.result.now (after x.triples net)) (sym same) (subst (λ (d : NamedGraph). IsIndexOf d.terms c.index.result.now d.triples) c.requires.next c.index.ensures.index)

pub returns-clause-checks : goal.returns-clause-checks
returns-clause-checks g c =
    let x = c.args.self.now in
    let same = subst (λ (d : NamedGraph). map (change_at d.terms) c.deref.result.now ≡ c.args.net.now) c.self.view_is (ap (map (change_at c.self.inside.names.terms)) c.deref.ensures.value ∙ c.in_ok-changes.ensures.1) in
    subst (λ (net : List Change). ChecksPairs x.terms x.triples x.shapes net c.in_ok-checked.checked.pairs) same c.in_ok-checked.ensures.checked.checks

pub returns-clause-steps : goal.returns-clause-steps
returns-clause-steps g c =
    let x = c.args.self.now in
    let same = subst (λ (d : NamedGraph). map (change_at d.terms) c.deref.result.now ≡ c.args.net.now) c.self.view_is (ap (map (change_at c.self.inside.names.terms)) c.deref.ensures.value ∙ c.in_ok-changes.ensures.1) in
    subst (λ (net : List Change). GrowsByCount (IsEvaluated x.triples x.shapes net) c.args.steps.now c.checked_after.new.steps) same c.in_ok-checked.ensures.steps

pub checked_after-requires-sync-S : goal.checked_after-requires-sync-S
checked_after-requires-sync-S g c κs within = search (keys_sync, crosses, sendable) depth 60 fits 20000
