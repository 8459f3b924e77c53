use Rattle.std.proofs.Common.{◌≡◌, ◌<◌, ℕ, List, IfOk, length, subst, sym}
use Rattle.std.specs.Prelude.{◌⊎◌}
use Rattle.std.specs.List.{All, Contains}
use Rattle.std.specs.Ordering.{nat_cmp}
use Rattle.std.proofs.lemmas.List.Elements.{All-contains}
use Rattle.std.proofs.lemmas.Result.{IfOk-weaker}
use Rattle.collections.specs.Listings.{IsListing}
use Rattle.rdf_model.specs.declared.ids.Ids.{Ids}
use Rattle.rdf_model.specs.declared.term.Term.{Term}
use Rattle.rdf_model.specs.declared.triple.Triple.{Triple}
use Rattle.rdf_model.specs.Numbers.{AreNumbered, term_at}
use Rattle.shape_model.specs.declared.component.Component.TheVariants as components
use Rattle.shape_model.specs.declared.result_row.ResultRow.{ResultRow}
use Rattle.shape_model.specs.Components.{RowsOf, Surroundings}
use Rattle.component_rows.specs.Listed.{with_allowed}
use Rattle.component_rows.specs.Nodes.{AreNodes, HasNode}
use Rattle.component_rows.specs.Sites.{ListsAt, site_row}
use Rattle.component_rows.proofs.Collecting.{lists_same}
use Rattle.value_constraints.specs.Closing.{in_graph}
use Rattle.shape_ast.specs.declared.shape.Shape.{Shape}
use Rattle.shape_ast.specs.Readings.{AreBound, named_shapes, read_shape}
use Rattle.shape_ast.specs.Standing.{shape_reading}
use Rattle.shape_eval.specs.Around.{around}
use Rattle.shape_eval.specs.Predicates.{IsPathAtSome}
use Rattle.shape_eval.proofs.Closings.{are_nodes, closed_same, path_bound}
use Rattle.shape_eval.proofs.by_term.closed_rows.Goals as goal

-- the allowed predicates are those of the shape, among the shapes of the evaluation
listed_here : (shape : Shape ℕ) (allowed : List ℕ) {got shapes : List (Shape ℕ)} {properties ignored : List ℕ} → got ≡ shapes → properties ≡ shape.properties → ignored ≡ shape.ignored
    → IsListing nat_cmp (λ p. IsPathAtSome got properties p ⊎ Contains ignored p) allowed → IsListing nat_cmp (λ p. IsPathAtSome shapes shape.properties p ⊎ Contains shape.ignored p) allowed
listed_here shape allowed {got} {shapes} {properties} {ignored} same own few listed =
    subst (λ (p : List (Shape ℕ) × List ℕ × List ℕ). IsListing nat_cmp (λ n. IsPathAtSome p.0 p.1 n ⊎ Contains p.2 n) allowed) (λ i. (same i, own i, few i)) listed

pub allowed_predicates-requires : goal.allowed_predicates-requires
allowed_predicates-requires g c = subst (λ (p : List (Shape ℕ) × List ℕ). All (λ n. n < length p.0) p.1) (λ i. (sym c.shapes-shapes.ensures i, sym c.as_slice-properties.ensures i)) c.requires.shape.properties

pub closed-requires-clause-graph : goal.closed-requires-clause-graph
closed-requires-clause-graph g c = subst (λ (p : List Term × List Ids). AreNumbered p.0 p.1) (λ i. (sym c.requires.same i, sym c.graph-graph.ensures i)) c.recall.ensures.numbered

pub closed-requires-clause-allowed : goal.closed-requires-clause-allowed
closed-requires-clause-allowed g c =
    let terms = c.args.site.now.terms in
    let shapes = c.args.evaluation.now.shapes in
    let shape = c.args.shape.now in
    let allowed = c.in_ok-allowed.allowed.items in
    let listed = listed_here shape allowed c.shapes-shapes.ensures c.as_slice-properties.ensures c.as_slice-ignored.ensures c.in_ok-allowed.ensures in
    let bound = subst (λ (ts : List Term). AreBound ts shapes) (sym c.requires.same) c.recall.ensures.bound in
    subst (λ (ns : List ℕ). AreNodes terms ns) (sym c.deref.ensures.value)
    (are_nodes terms shapes shape allowed listed (path_bound terms shapes bound shape.properties) (λ p i. All-contains (λ n. n < length terms) shape.ignored p c.requires.shape.ignored i))

pub returns : goal.returns
returns g c =
    let x = c.args.site.now in
    let terms = x.terms in
    let shapes = c.args.evaluation.now.shapes in
    let ids = c.args.evaluation.now.ids in
    let shape = c.args.shape.now in
    let allowed = c.in_ok-allowed.allowed.items in
    let listed = listed_here shape allowed c.shapes-shapes.ensures c.as_slice-properties.ensures c.as_slice-ignored.ensures c.in_ok-allowed.ensures in
    let q = term_at terms x.parameter in
    let row = site_row components.Closed x in
    let said = shape_reading (named_shapes terms shapes) (read_shape (term_at terms) shape) in
    let Here : List Triple → ℕ → Surroundings = λ s n. around terms ids s n x.values x.focus in
    let There : List Ids → List ℕ → List ResultRow → Type 0 = λ is ns rows. ListsAt components.Closed (in_graph terms is x.values) (with_allowed (HasNode terms ns)) x rows in
    IfOk-weaker c.closed.result (λ rows. There ids allowed rows.items) (λ rows. (s : List Triple) (n : ℕ) → ListsAt components.Closed (Here s n) said x rows.items)
    (λ rows h s n. lists_same (RowsOf components.Closed (Here s n) (with_allowed (HasNode terms allowed)) q row) (RowsOf components.Closed (Here s n) said q row) rows.items
    (closed_same terms shapes shape allowed listed (Here s n) said (λ p. (λ k. k, λ k. k)) q row) h)
    (subst (λ (p : List Ids × List ℕ). IfOk c.closed.result (λ rows. There p.0 p.1 rows.items)) (λ i. (c.graph-graph.ensures i, c.deref.ensures.value i)) c.closed.ensures)
