use Rattle.std.proofs.Common.{◌≡◌, List, map, refl, sym, subst}
use Rattle.std.proofs.lemmas.Result.{IfOk-weaker, on_ok_weaker}
use Rattle.std.specs.List.{AllByRecursion}
use Rattle.rdf_model.specs.Graphs.{after}
use Rattle.rdf_model.specs.declared.ids.Ids.{Ids}
use Rattle.rdf_model.specs.Numbers.{AreNumbered, graph_of}
use Rattle.store_model.specs.Store.{changed_triple}
use Rattle.parallel_validate.specs.Counting.{GrowsByCount}
use Rattle.parallel_validate.specs.Verdicts.{IsEvaluated}
use Rattle.triple_index.specs.Changes.{IsNumberedChange, change_at}
use Rattle.data_graph.specs.Changes.{IsCheckByNumber, WhereChanged}
use Rattle.data_graph.specs.DataGraphs.{IsIndexOf, NamedGraph}
use Rattle.data_graph.proofs.ByPlaces.{ids_of_changes}
use Rattle.data_graph.proofs.graph.DataGraph.checked_after.Goals as goal

pub check_by_number-requires-clause-before : goal.check_by_number-requires-clause-before
check_by_number-requires-clause-before g c κs within = (subst (λ (d : NamedGraph). IsIndexOf d.terms c.index.result.now d.triples) (sym c.self.view_is) c.index.ensures.index).numbered

pub check_by_number-requires-clause-later : goal.check_by_number-requires-clause-later
check_by_number-requires-clause-later g c κs within =
    let cs = c.args.changes.now in
    let laid = g.S.Triples.triples c.args.later.now in
    (subst (λ (d : NamedGraph). IsIndexOf d.terms laid (after c.args.self.now.triples (map (change_at d.terms) cs))) (sym c.self.view_is) c.requires.later).numbered

pub check_by_number-requires-clause-shapes : goal.check_by_number-requires-clause-shapes
check_by_number-requires-clause-shapes g c κs within = c.self.invariant.2

pub check_by_number-requires-clause-changed : goal.check_by_number-requires-clause-changed
check_by_number-requires-clause-changed g c κs within =
    let terms = c.self.inside.names.terms in
    let cs = c.args.changes.now in
    let named = subst (λ (d : NamedGraph). AllByRecursion (IsNumberedChange d.terms) cs) (sym c.self.view_is) c.requires.changes in
    subst (λ (ids : List Ids). AreNumbered terms ids) (sym c.deref.ensures.value) (ids_of_changes terms cs (map (change_at terms) cs) c.in_ok-changed.changed.items named refl c.in_ok-changed.ensures).0

pub returns-clause-checked : goal.returns-clause-checked
returns-clause-checked g c =
    let cs = c.args.changes.now in
    let terms = c.self.inside.names.terms in
    let laid = g.S.Triples.triples c.args.later.now in
    let named = subst (λ (d : NamedGraph). AllByRecursion (IsNumberedChange d.terms) cs) (sym c.self.view_is) c.requires.changes in
    let ids = ids_of_changes terms cs (map (change_at terms) cs) c.in_ok-changed.changed.items named refl c.in_ok-changed.ensures in
    let before = subst (λ (d : NamedGraph). IsIndexOf d.terms c.index.result.now c.args.self.now.triples) (sym c.self.view_is) c.index.ensures.index in
    let own = subst (λ (d : NamedGraph). IsIndexOf d.terms laid (after c.args.self.now.triples (map (change_at d.terms) cs))) (sym c.self.view_is) c.requires.later in
    let numbers = subst (λ (is : List Ids). graph_of terms is ≡ map changed_triple (map (change_at terms) cs)) (sym c.deref.ensures.value) ids.1 in
    IfOk-weaker c.check_by_number.result
    (λ checked. WhereChanged terms c.deref.result.now c.index.result.now laid (λ net x. IsCheckByNumber terms x c.self.inside.shapes.graph net checked.pairs checked.looks))
    (λ checked. IsCheckByNumber c.args.self.now.terms c.args.self.now.triples c.args.self.now.shapes (map (change_at c.args.self.now.terms) cs) checked.pairs checked.looks)
    (λ checked f. subst (λ (d : NamedGraph). IsCheckByNumber d.terms c.args.self.now.triples d.shapes (map (change_at d.terms) cs) checked.pairs checked.looks) c.self.view_is
    (f (map (change_at terms) cs) numbers c.args.self.now.triples c.index.ensures.ascending before.members own.members))
    c.check_by_number.ensures.checked

pub returns-clause-steps : goal.returns-clause-steps
returns-clause-steps g c =
    let cs = c.args.changes.now in
    let terms = c.self.inside.names.terms in
    let laid = g.S.Triples.triples c.args.later.now in
    let named = subst (λ (d : NamedGraph). AllByRecursion (IsNumberedChange d.terms) cs) (sym c.self.view_is) c.requires.changes in
    let ids = ids_of_changes terms cs (map (change_at terms) cs) c.in_ok-changed.changed.items named refl c.in_ok-changed.ensures in
    let before = subst (λ (d : NamedGraph). IsIndexOf d.terms c.index.result.now c.args.self.now.triples) (sym c.self.view_is) c.index.ensures.index in
    let own = subst (λ (d : NamedGraph). IsIndexOf d.terms laid (after c.args.self.now.triples (map (change_at d.terms) cs))) (sym c.self.view_is) c.requires.later in
    let numbers = subst (λ (is : List Ids). graph_of terms is ≡ map changed_triple (map (change_at terms) cs)) (sym c.deref.ensures.value) ids.1 in
    on_ok_weaker c.check_by_number.result
    (λ f. subst (λ (d : NamedGraph). GrowsByCount (IsEvaluated c.args.self.now.triples d.shapes (map (change_at d.terms) cs)) c.args.steps.now c.check_by_number.new.steps) c.self.view_is
    (f (map (change_at terms) cs) numbers c.args.self.now.triples c.index.ensures.ascending before.members own.members))
    c.check_by_number.ensures.steps
