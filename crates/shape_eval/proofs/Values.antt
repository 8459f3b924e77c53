-- Value nodes by their numbers are the value nodes by terms.
use Rattle.std.proofs.Common.{◌≡◌, ◌∙◌, ℕ, ◌<◌, List, length, refl, sym, ap, subst, inl, inr}
use Rattle.std.specs.Prelude.{◌↔◌, false, Option, Some, None}
use Rattle.std.specs.Ordering.{nat_cmp}
use Rattle.collections.specs.Listings.{IsListing}
use Rattle.rdf_model.specs.declared.term.Term.{Term}
use Rattle.rdf_model.specs.declared.triple.Triple.{Triple}
use Rattle.rdf_model.specs.declared.ids.Ids.{Ids}
use Rattle.rdf_model.specs.Numbers.{term_at, graph_of}
use Rattle.shape_model.specs.Paths.{Path as DefinedPath}
use Rattle.shape_model.specs.Readings.{Reading, SameReading, ValueNode}
use Rattle.shape_model.specs.Walks.{Walk}
use Rattle.path_ast.specs.declared.path.Path.{Path}
use Rattle.path_ast.specs.PathReadings.{path_of}
use Rattle.path_eval.specs.Naming.{AreValues}
use Rattle.component_rows.proofs.Collecting.{mapped_from, mapped_to}
use Rattle.component_rows.specs.Nodes.{HasNode}
use Rattle.shape_ast.specs.Readings.{ReadShape}
use Rattle.shape_ast.specs.Standing.{shape_reading}
use Rattle.shape_eval.specs.ValueNodes.{AreValueNodes, IsValueNode}

-- the focus node alone, where there is no path
pub alone_is : (terms : List Term) (ids : List Ids) (f : ℕ) (ns : List ℕ) → f < length terms → IsListing nat_cmp (λ n. f ≡ n) ns → AreValueNodes terms ids None f ns
alone_is terms ids f ns lt listing = record {
  nodes = record { ascending = listing.ascending; named = λ n c. subst (λ (m : ℕ). m < length terms) ((listing.members n).0 c) lt };
  each = λ v. (
    λ c. let k = mapped_from (term_at terms) ns v c in ap (term_at terms) ((listing.members k.0).0 k.1) ∙ k.2,
    λ e. subst (λ (w : Term). HasNode terms ns w) e (mapped_to (term_at terms) ns f ((listing.members f).1 refl)),
  );
}

-- the ends of the walks along the path
pub walked_are : (terms : List Term) (ids : List Ids) (path : Path ℕ) (f : ℕ) (ns : List ℕ) → AreValues terms ids false path f ns → AreValueNodes terms ids (Some path) f ns
walked_are terms ids path f ns values = record {
  nodes = record { ascending = values.listed.ascending; named = λ n c. ((values.listed.members n).0 c).0 };
  each = λ v. (
    λ c.
        let k = mapped_from (term_at terms) ns v c in
        subst (λ (w : Term). Walk (graph_of terms ids) (path_of terms path) (term_at terms f) w) k.2 ((values.listed.members k.0).0 k.1).1,
    λ w. values.every v w,
  );
}

-- the value nodes are those of the shape's reading
value_to : (shapes : List ReadShape) (g : List Triple) (c : ReadShape) (f v : Term) → ValueNode g (shape_reading shapes c) f v → IsValueNode g c.path f v
value_to shapes g c f v = elim [
  | inl i ↦ subst (λ (p : Option DefinedPath). IsValueNode g p f v) (sym i.0) i.1
  | inr i ↦ subst (λ (p : Option DefinedPath). IsValueNode g p f v) (sym i.1) i.2
]

value_from : (shapes : List ReadShape) (g : List Triple) (c : ReadShape) (path : Option DefinedPath) (f v : Term) → c.path ≡ path → IsValueNode g path f v → ValueNode g (shape_reading shapes c) f v
value_from shapes g c None f v e i = inl (e, i)
value_from shapes g c (Some p) f v e i = inr (p, e, i)

-- and of each reading that says the same
pub values_same : (shapes : List ReadShape) (g : List Triple) (c : ReadShape) (y : Reading) → SameReading y (shape_reading shapes c) → (f v : Term) → ValueNode g y f v ↔ IsValueNode g c.path f v
values_same shapes g c y e f v = (
  λ i. value_to shapes g c f v (elim i [ inl k ↦ inl (e.is_node_shape.0 k.0, k.1) | inr k ↦ inr (k.0, (e.path k.0).0 k.1, k.2) ]),
  λ i. elim (value_from shapes g c c.path f v refl i) [ inl k ↦ inl (e.is_node_shape.1 k.0, k.1) | inr k ↦ inr (k.0, (e.path k.0).1 k.1, k.2) ],
)
