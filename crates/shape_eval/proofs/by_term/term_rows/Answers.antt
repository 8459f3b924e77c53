use Rattle.std.proofs.Common.{◌<◌, ℕ, Bool, List, length, sym, subst, IfOk}
use Rattle.std.proofs.lemmas.Result.{IfOk-weaker}
use Rattle.rdf_model.specs.declared.ids.Ids.{Ids}
use Rattle.rdf_model.specs.declared.term.Term.{Term}
use Rattle.rdf_model.specs.declared.triple.Triple.{Triple}
use Rattle.rdf_model.specs.Numbers.{AreNumbered, graph_of, term_at}
use Rattle.shape_model.specs.declared.component.Component.TheVariants as components
use Rattle.shape_model.specs.declared.result_row.ResultRow.{ResultRow}
use Rattle.shape_model.specs.Instances.{Instance}
use Rattle.component_rows.specs.Listed.{untold}
use Rattle.component_rows.specs.Sites.{ListsAt, Spot, at_values, site_row}
use Rattle.component_rows.proofs.Told.{refused_where}
use Rattle.pair_constraints.specs.Focus.{at_site}
use Rattle.value_constraints.specs.Answers.{answered_nodes}
use Rattle.shape_ast.specs.declared.component.TermComponent.{TermComponent}
use Rattle.shape_ast.specs.declared.component.TermComponent.TheVariants as by_term
use Rattle.shape_ast.specs.declared.shape.Shape.{Shape}
use Rattle.shape_ast.specs.Components.{term_component}
use Rattle.shape_ast.specs.Readings.{AreBound, HoldsOfShape, named_shapes, read_shape}
use Rattle.shape_ast.specs.Standing.{shape_reading}
use Rattle.shape_eval.specs.declared.told.Told.{Told}
use Rattle.shape_eval.specs.Around.{around}
use Rattle.shape_eval.specs.Looks.{AreInstanceAnswers}
use Rattle.shape_eval.specs.Settings.{Setting}
use Rattle.shape_eval.specs.Told.{CountAsks, HaveAnswers, WhereRight}
use Rattle.shape_eval.proofs.by_term.term_rows.Goals as goal

-- what the answers for sh:class say
abbrev Answered : List Triple → Spot → List Bool → TermComponent → Type 0
Answered graph x instances k = AreInstanceAnswers graph (term_component k) (term_at x.terms x.parameter) x.terms x.values instances

module _ (e : Setting) (x : Spot) (shape : Shape ℕ) (told : List Told) where
  -- the results of a component of the shape, whatever the shapes graph and the number of references
  abbrev Rows : List (Shape ℕ) → List Ids → TermComponent → List Triple → ℕ → List ResultRow → Type 0
  Rows shapes ids k s n = ListsAt (term_component k) (around x.terms ids s n x.values x.focus) (shape_reading (named_shapes x.terms shapes) (read_shape (term_at x.terms) shape)) x

  -- where the answers are right that they rest on
  abbrev Given : TermComponent → List ResultRow → Type 0
  Given k rows = WhereRight x.terms e.ids e.shapes x.values told (CountAsks shape k) (λ s n. Rows e.shapes e.ids k s n rows)

pub class-requires : goal.class-requires
class-requires g c = (subst (Answered (graph_of c.args.site.now.terms c.args.evaluation.now.ids) c.args.site.now c.args.instances.now) c.in-Class.is c.requires.instances).0

pub returns-in-Class : goal.returns-in-Class
returns-in-Class g c =
    let x = c.args.site.now in
    let graph = graph_of x.terms c.args.evaluation.now.ids in
    let instances = c.args.instances.now in
    let are = subst (Answered graph x instances) c.in-Class.is c.requires.instances in
    let Here = Given c.args.evaluation.now x c.args.shape.now c.args.told.now in
    subst (λ (k : TermComponent). IfOk c.class.result (λ rows. Here k rows.items)) (sym c.in-Class.is)
    (IfOk-weaker c.class.result (λ rows. ListsAt components.Class (answered_nodes x.terms x.values instances) untold x rows.items) (λ rows. Here by_term.Class rows.items)
    (λ rows h s n right. refused_where (λ v. Instance graph v (term_at x.terms x.parameter)) x.terms x.values instances are.1 (site_row components.Class x) rows.items h) c.class.ensures)

pub returns-in-Datatype : goal.returns-in-Datatype
returns-in-Datatype g c =
    let x = c.args.site.now in
    let Here = Given c.args.evaluation.now x c.args.shape.now c.args.told.now in
    subst (λ (k : TermComponent). IfOk c.datatype.result (λ rows. Here k rows.items)) (sym c.in-Datatype.is)
    (IfOk-weaker c.datatype.result (λ rows. ListsAt components.Datatype (at_values x) untold x rows.items) (λ rows. Here by_term.Datatype rows.items) (λ rows h s n right. h) c.datatype.ensures)

pub returns-in-NodeKind : goal.returns-in-NodeKind
returns-in-NodeKind g c =
    let x = c.args.site.now in
    let Here = Given c.args.evaluation.now x c.args.shape.now c.args.told.now in
    subst (λ (k : TermComponent). IfOk c.node_kind.result (λ rows. Here k rows.items)) (sym c.in-NodeKind.is)
    (IfOk-weaker c.node_kind.result (λ rows. ListsAt components.NodeKind (at_values x) untold x rows.items) (λ rows. Here by_term.NodeKind rows.items) (λ rows h s n right. h) c.node_kind.ensures)

pub returns-in-MinCount : goal.returns-in-MinCount
returns-in-MinCount g c =
    let x = c.args.site.now in
    let Here = Given c.args.evaluation.now x c.args.shape.now c.args.told.now in
    subst (λ (k : TermComponent). IfOk c.min_count.result (λ rows. Here k rows.items)) (sym c.in-MinCount.is)
    (IfOk-weaker c.min_count.result (λ rows. ListsAt components.MinCount (at_values x) untold x rows.items) (λ rows. Here by_term.MinCount rows.items) (λ rows h s n right. h) c.min_count.ensures)

pub returns-in-MaxCount : goal.returns-in-MaxCount
returns-in-MaxCount g c =
    let x = c.args.site.now in
    let Here = Given c.args.evaluation.now x c.args.shape.now c.args.told.now in
    subst (λ (k : TermComponent). IfOk c.max_count.result (λ rows. Here k rows.items)) (sym c.in-MaxCount.is)
    (IfOk-weaker c.max_count.result (λ rows. ListsAt components.MaxCount (at_values x) untold x rows.items) (λ rows. Here by_term.MaxCount rows.items) (λ rows h s n right. h) c.max_count.ensures)

pub returns-in-MinExclusive : goal.returns-in-MinExclusive
returns-in-MinExclusive g c =
    let x = c.args.site.now in
    let Here = Given c.args.evaluation.now x c.args.shape.now c.args.told.now in
    subst (λ (k : TermComponent). IfOk c.min_exclusive.result (λ rows. Here k rows.items)) (sym c.in-MinExclusive.is)
    (IfOk-weaker c.min_exclusive.result (λ rows. ListsAt components.MinExclusive (at_values x) untold x rows.items) (λ rows. Here by_term.MinExclusive rows.items) (λ rows h s n right. h) c.min_exclusive.ensures)

pub returns-in-MinInclusive : goal.returns-in-MinInclusive
returns-in-MinInclusive g c =
    let x = c.args.site.now in
    let Here = Given c.args.evaluation.now x c.args.shape.now c.args.told.now in
    subst (λ (k : TermComponent). IfOk c.min_inclusive.result (λ rows. Here k rows.items)) (sym c.in-MinInclusive.is)
    (IfOk-weaker c.min_inclusive.result (λ rows. ListsAt components.MinInclusive (at_values x) untold x rows.items) (λ rows. Here by_term.MinInclusive rows.items) (λ rows h s n right. h) c.min_inclusive.ensures)

pub returns-in-MaxExclusive : goal.returns-in-MaxExclusive
returns-in-MaxExclusive g c =
    let x = c.args.site.now in
    let Here = Given c.args.evaluation.now x c.args.shape.now c.args.told.now in
    subst (λ (k : TermComponent). IfOk c.max_exclusive.result (λ rows. Here k rows.items)) (sym c.in-MaxExclusive.is)
    (IfOk-weaker c.max_exclusive.result (λ rows. ListsAt components.MaxExclusive (at_values x) untold x rows.items) (λ rows. Here by_term.MaxExclusive rows.items) (λ rows h s n right. h) c.max_exclusive.ensures)

pub returns-in-MaxInclusive : goal.returns-in-MaxInclusive
returns-in-MaxInclusive g c =
    let x = c.args.site.now in
    let Here = Given c.args.evaluation.now x c.args.shape.now c.args.told.now in
    subst (λ (k : TermComponent). IfOk c.max_inclusive.result (λ rows. Here k rows.items)) (sym c.in-MaxInclusive.is)
    (IfOk-weaker c.max_inclusive.result (λ rows. ListsAt components.MaxInclusive (at_values x) untold x rows.items) (λ rows. Here by_term.MaxInclusive rows.items) (λ rows h s n right. h) c.max_inclusive.ensures)

pub returns-in-MinLength : goal.returns-in-MinLength
returns-in-MinLength g c =
    let x = c.args.site.now in
    let Here = Given c.args.evaluation.now x c.args.shape.now c.args.told.now in
    subst (λ (k : TermComponent). IfOk c.min_length.result (λ rows. Here k rows.items)) (sym c.in-MinLength.is)
    (IfOk-weaker c.min_length.result (λ rows. ListsAt components.MinLength (at_values x) untold x rows.items) (λ rows. Here by_term.MinLength rows.items) (λ rows h s n right. h) c.min_length.ensures)

pub returns-in-MaxLength : goal.returns-in-MaxLength
returns-in-MaxLength g c =
    let x = c.args.site.now in
    let Here = Given c.args.evaluation.now x c.args.shape.now c.args.told.now in
    subst (λ (k : TermComponent). IfOk c.max_length.result (λ rows. Here k rows.items)) (sym c.in-MaxLength.is)
    (IfOk-weaker c.max_length.result (λ rows. ListsAt components.MaxLength (at_values x) untold x rows.items) (λ rows. Here by_term.MaxLength rows.items) (λ rows h s n right. h) c.max_length.ensures)

pub returns-in-UniqueLang : goal.returns-in-UniqueLang
returns-in-UniqueLang g c =
    let x = c.args.site.now in
    let Here = Given c.args.evaluation.now x c.args.shape.now c.args.told.now in
    subst (λ (k : TermComponent). IfOk c.unique_lang.result (λ rows. Here k rows.items)) (sym c.in-UniqueLang.is)
    (IfOk-weaker c.unique_lang.result (λ rows. ListsAt components.UniqueLang (at_values x) untold x rows.items) (λ rows. Here by_term.UniqueLang rows.items) (λ rows h s n right. h) c.unique_lang.ensures)

pub returns-in-HasValue : goal.returns-in-HasValue
returns-in-HasValue g c =
    let x = c.args.site.now in
    let Here = Given c.args.evaluation.now x c.args.shape.now c.args.told.now in
    subst (λ (k : TermComponent). IfOk c.has_value.result (λ rows. Here k rows.items)) (sym c.in-HasValue.is)
    (IfOk-weaker c.has_value.result (λ rows. ListsAt components.HasValue (at_values x) untold x rows.items) (λ rows. Here by_term.HasValue rows.items) (λ rows h s n right. h) c.has_value.ensures)

pub equals-requires : goal.equals-requires
equals-requires g c = subst (λ (p : List Term × List Ids). AreNumbered p.0 p.1) (λ i. (sym c.requires.same i, sym c.graph-graph.ensures i)) c.recall.ensures.numbered

pub returns-in-Equals : goal.returns-in-Equals
returns-in-Equals g c =
    let x = c.args.site.now in
    let Here = Given c.args.evaluation.now x c.args.shape.now c.args.told.now in
    subst (λ (k : TermComponent). IfOk c.equals.result (λ rows. Here k rows.items)) (sym c.in-Equals.is)
    (IfOk-weaker c.equals.result (λ rows. ListsAt components.Equals (at_site c.args.evaluation.now.ids x) untold x rows.items) (λ rows. Here by_term.Equals rows.items) (λ rows h s n right. h)
    (subst (λ (ids : List Ids). IfOk c.equals.result (λ rows. ListsAt components.Equals (at_site ids x) untold x rows.items)) c.graph-graph.ensures c.equals.ensures))

pub disjoint-requires : goal.disjoint-requires
disjoint-requires g c = subst (λ (p : List Term × List Ids). AreNumbered p.0 p.1) (λ i. (sym c.requires.same i, sym c.graph-graph.ensures i)) c.recall.ensures.numbered

pub returns-in-Disjoint : goal.returns-in-Disjoint
returns-in-Disjoint g c =
    let x = c.args.site.now in
    let Here = Given c.args.evaluation.now x c.args.shape.now c.args.told.now in
    subst (λ (k : TermComponent). IfOk c.disjoint.result (λ rows. Here k rows.items)) (sym c.in-Disjoint.is)
    (IfOk-weaker c.disjoint.result (λ rows. ListsAt components.Disjoint (at_site c.args.evaluation.now.ids x) untold x rows.items) (λ rows. Here by_term.Disjoint rows.items) (λ rows h s n right. h)
    (subst (λ (ids : List Ids). IfOk c.disjoint.result (λ rows. ListsAt components.Disjoint (at_site ids x) untold x rows.items)) c.graph-graph.ensures c.disjoint.ensures))

pub less_than-requires : goal.less_than-requires
less_than-requires g c = subst (λ (p : List Term × List Ids). AreNumbered p.0 p.1) (λ i. (sym c.requires.same i, sym c.graph-graph.ensures i)) c.recall.ensures.numbered

pub returns-in-LessThan : goal.returns-in-LessThan
returns-in-LessThan g c =
    let x = c.args.site.now in
    let Here = Given c.args.evaluation.now x c.args.shape.now c.args.told.now in
    subst (λ (k : TermComponent). IfOk c.less_than.result (λ rows. Here k rows.items)) (sym c.in-LessThan.is)
    (IfOk-weaker c.less_than.result (λ rows. ListsAt components.LessThan (at_site c.args.evaluation.now.ids x) untold x rows.items) (λ rows. Here by_term.LessThan rows.items) (λ rows h s n right. h)
    (subst (λ (ids : List Ids). IfOk c.less_than.result (λ rows. ListsAt components.LessThan (at_site ids x) untold x rows.items)) c.graph-graph.ensures c.less_than.ensures))

pub less_than_or_equals-requires : goal.less_than_or_equals-requires
less_than_or_equals-requires g c = subst (λ (p : List Term × List Ids). AreNumbered p.0 p.1) (λ i. (sym c.requires.same i, sym c.graph-graph.ensures i)) c.recall.ensures.numbered

pub returns-in-LessThanOrEquals : goal.returns-in-LessThanOrEquals
returns-in-LessThanOrEquals g c =
    let x = c.args.site.now in
    let Here = Given c.args.evaluation.now x c.args.shape.now c.args.told.now in
    subst (λ (k : TermComponent). IfOk c.less_than_or_equals.result (λ rows. Here k rows.items)) (sym c.in-LessThanOrEquals.is)
    (IfOk-weaker c.less_than_or_equals.result (λ rows. ListsAt components.LessThanOrEquals (at_site c.args.evaluation.now.ids x) untold x rows.items) (λ rows. Here by_term.LessThanOrEquals rows.items) (λ rows h s n right. h)
    (subst (λ (ids : List Ids). IfOk c.less_than_or_equals.result (λ rows. ListsAt components.LessThanOrEquals (at_site ids x) untold x rows.items)) c.graph-graph.ensures c.less_than_or_equals.ensures))

pub qualified_min_rows-requires-clause-bound : goal.qualified_min_rows-requires-clause-bound
qualified_min_rows-requires-clause-bound g c = subst (λ (p : List Term × List (Shape ℕ)). AreBound p.0 p.1) (λ i. (sym c.requires.same i, sym c.shapes-shapes.ensures i)) c.recall.ensures.bound

pub qualified_min_rows-requires-clause-shape : goal.qualified_min_rows-requires-clause-shape
qualified_min_rows-requires-clause-shape g c = subst (λ (xs : List (Shape ℕ)). HoldsOfShape (λ n. n < length c.args.site.now.terms) (length xs) c.args.shape.now) (sym c.shapes-shapes.ensures) c.requires.shape

pub qualified_min_rows-requires-clause-told : goal.qualified_min_rows-requires-clause-told
qualified_min_rows-requires-clause-told g c =
    subst (λ (p : TermComponent × List (Shape ℕ)). HaveAnswers p.1 c.args.site.now.values c.args.told.now (CountAsks c.args.shape.now p.0)) (λ i. (c.in-QualifiedMinCount.is i, sym c.shapes-shapes.ensures i)) c.requires.told

pub returns-in-QualifiedMinCount : goal.returns-in-QualifiedMinCount
returns-in-QualifiedMinCount g c =
    let e = c.args.evaluation.now in
    let x = c.args.site.now in
    let Here = Given e x c.args.shape.now c.args.told.now in
    let There : List (Shape ℕ) → List ResultRow → Type 0 = λ shapes rows. (ids : List Ids) → WhereRight x.terms ids shapes x.values c.args.told.now (CountAsks c.args.shape.now by_term.QualifiedMinCount) (λ s n. Rows e x c.args.shape.now c.args.told.now shapes ids by_term.QualifiedMinCount s n rows) in
    subst (λ (k : TermComponent). IfOk c.qualified_min_rows.result (λ rows. Here k rows.items)) (sym c.in-QualifiedMinCount.is)
    (IfOk-weaker c.qualified_min_rows.result (λ rows. There e.shapes rows.items) (λ rows. Here by_term.QualifiedMinCount rows.items) (λ rows h. h e.ids)
    (subst (λ (shapes : List (Shape ℕ)). IfOk c.qualified_min_rows.result (λ rows. There shapes rows.items)) c.shapes-shapes.ensures c.qualified_min_rows.ensures))

pub qualified_max_rows-requires-clause-bound : goal.qualified_max_rows-requires-clause-bound
qualified_max_rows-requires-clause-bound g c = subst (λ (p : List Term × List (Shape ℕ)). AreBound p.0 p.1) (λ i. (sym c.requires.same i, sym c.shapes-shapes.ensures i)) c.recall.ensures.bound

pub qualified_max_rows-requires-clause-shape : goal.qualified_max_rows-requires-clause-shape
qualified_max_rows-requires-clause-shape g c = subst (λ (xs : List (Shape ℕ)). HoldsOfShape (λ n. n < length c.args.site.now.terms) (length xs) c.args.shape.now) (sym c.shapes-shapes.ensures) c.requires.shape

pub qualified_max_rows-requires-clause-told : goal.qualified_max_rows-requires-clause-told
qualified_max_rows-requires-clause-told g c =
    subst (λ (p : TermComponent × List (Shape ℕ)). HaveAnswers p.1 c.args.site.now.values c.args.told.now (CountAsks c.args.shape.now p.0)) (λ i. (c.in-QualifiedMaxCount.is i, sym c.shapes-shapes.ensures i)) c.requires.told

pub returns-in-QualifiedMaxCount : goal.returns-in-QualifiedMaxCount
returns-in-QualifiedMaxCount g c =
    let e = c.args.evaluation.now in
    let x = c.args.site.now in
    let Here = Given e x c.args.shape.now c.args.told.now in
    let There : List (Shape ℕ) → List ResultRow → Type 0 = λ shapes rows. (ids : List Ids) → WhereRight x.terms ids shapes x.values c.args.told.now (CountAsks c.args.shape.now by_term.QualifiedMaxCount) (λ s n. Rows e x c.args.shape.now c.args.told.now shapes ids by_term.QualifiedMaxCount s n rows) in
    subst (λ (k : TermComponent). IfOk c.qualified_max_rows.result (λ rows. Here k rows.items)) (sym c.in-QualifiedMaxCount.is)
    (IfOk-weaker c.qualified_max_rows.result (λ rows. There e.shapes rows.items) (λ rows. Here by_term.QualifiedMaxCount rows.items) (λ rows h. h e.ids)
    (subst (λ (shapes : List (Shape ℕ)). IfOk c.qualified_max_rows.result (λ rows. There shapes rows.items)) c.shapes-shapes.ensures c.qualified_max_rows.ensures))

pub returns-in-Closed : goal.returns-in-Closed
returns-in-Closed g c =
    let e = c.args.evaluation.now in
    let x = c.args.site.now in
    let Here = Given e x c.args.shape.now c.args.told.now in
    subst (λ (k : TermComponent). IfOk c.closed_rows.result (λ rows. Here k rows.items)) (sym c.in-Closed.is)
    (IfOk-weaker c.closed_rows.result (λ rows. (s : List Triple) (n : ℕ) → Rows e x c.args.shape.now c.args.told.now e.shapes e.ids by_term.Closed s n rows.items) (λ rows. Here by_term.Closed rows.items) (λ rows h s n right. h s n) c.closed_rows.ensures)
