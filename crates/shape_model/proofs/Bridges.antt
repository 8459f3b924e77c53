-- A compiled form that readings the same of each shape has the same results, looks and targets.
use Rattle.std.proofs.Common.{refl, ℕ, zero, suc, List, inl, inr, sym, subst}
use Rattle.std.specs.Prelude.{◌↔◌}
use Rattle.rdf_model.specs.declared.term.Term.{Term}
use Rattle.rdf_model.specs.declared.triple.Triple.{Triple}
use Rattle.shape_model.specs.CompiledShapes.{compiled_reading}
use Rattle.shape_model.specs.Laws.{BridgeLaw, CompiledLaw}
use Rattle.shape_model.specs.Looks.{LookRow}
use Rattle.shape_model.specs.Paths.{Path}
use Rattle.shape_model.specs.Readings.{Reading, SameReading, ValueNode, reading}
use Rattle.shape_model.specs.ShapeLooks.{ShapeLookDepth, ValueWay}
use Rattle.shape_model.specs.ShapeSyntax.{IsShape}
use Rattle.shape_model.specs.Targets.{HasTarget, Target, TargetOf}
use Rattle.shape_model.specs.Validation.{At, AtDepth, surroundings}
use Rattle.shape_model.specs.Vocabulary.{ShClass, ShClosed, ShDeactivated, ShTargetClass, ShTargetNode, ShTargetObjectsOf, ShTargetSubjectsOf, true_literal}
use Rattle.shape_model.specs.declared.result_row.ResultRow.{ResultRow}
use Rattle.shape_model.proofs.Fuel.{unfold_law}
use Rattle.shape_model.proofs.Covers.{has_target}
use Rattle.shape_model.proofs.Surroundings.{reading_back, compared_same, refers_same, at_same}

pub at_bridge : (g : List Triple) (a b : Term → Reading) → ((shape : Term) → SameReading (a shape) (b shape)) → (n : ℕ) (shape f : Term) (r : ResultRow) → AtDepth n g a shape f r ↔ AtDepth n g b shape f r
at_bridge g a b e zero shape f r = (λ k. k, λ k. k)
at_bridge g a b e (suc n) shape f r =
    at_same shape f (a shape) (b shape) (e shape) (surroundings (AtDepth n g a) g (a shape) f) (surroundings (AtDepth n g b) g (b shape) f) (record {
      value_node = λ v. (
        elim [ inl k ↦ inl ((e shape).is_node_shape.0 k.0, k.1) | inr k ↦ inr (k.0, ((e shape).path k.0).0 k.1, k.2) ],
        elim [ inl k ↦ inl ((e shape).is_node_shape.1 k.0, k.1) | inr k ↦ inr (k.0, ((e shape).path k.0).1 k.1, k.2) ],
      );
      instance = λ q v i w. (λ j. j, λ j. j);
      focus_value = λ q w i. (λ j. j, λ j. j);
      triple = λ i v p o w. (λ j. j, λ j. j);
      row = λ t v i w r. at_bridge g a b e n t v r;
    }) r

pub target_bridge : (g : List Triple) (y z : Reading) → SameReading y z → (shape f : Term) → TargetOf g y shape f → TargetOf g z shape f
target_bridge g y z e shape f = elim [
  | inl i ↦ inl ((e.has ShTargetNode f tt).0 i)
  | inr (inl i) ↦ inr (inl (i.0, (e.has ShTargetClass i.0 tt).0 i.1, i.2))
  | inr (inr (inl i)) ↦ inr (inr (inl (e.is_class.0 i.0, i.1)))
  | inr (inr (inr (inl i))) ↦ inr (inr (inr (inl (i.0, (e.has ShTargetSubjectsOf i.0 tt).0 i.1, i.2))))
  | inr (inr (inr (inr i))) ↦ inr (inr (inr (inr (i.0, (e.has ShTargetObjectsOf i.0 tt).0 i.1, i.2))))
]

way_bridge : (y z : Reading) → SameReading y z → (q w : List Path) → ValueWay y q w → ValueWay z q w
way_bridge y z e q w = elim [ inl i ↦ inl (e.is_node_shape.0 i.0, i.1) | inr i ↦ inr (i.0, (e.path i.0).0 i.1, i.2) ]

pub look_bridge : (a b : Term → Reading) → ((shape : Term) → SameReading (a shape) (b shape)) → (n : ℕ) (shape : Term) (q : List Path) (row : LookRow) → ShapeLookDepth n a shape q row → ShapeLookDepth n b shape q row
look_bridge a b e zero shape q row h = h
look_bridge a b e (suc n) shape q row h = (
  λ d. h.0 (((e shape).has ShDeactivated true_literal refl).1 d),
  elim h.1 [
    | inl i ↦ inl (i.0, ((e shape).path i.0).0 i.1, i.2)
    | inr (inl i) ↦ inr (inl (i.0, i.1, ((e shape).has ShClass i.0 tt).0 i.2, way_bridge (a shape) (b shape) (e shape) q i.1 i.3, i.4))
    | inr (inr (inl i)) ↦ inr (inr (inl (i.0, compared_same (a shape) (b shape) (e shape) i.0 i.1, i.2)))
    | inr (inr (inr (inl i))) ↦ inr (inr (inr (inl (((e shape).has ShClosed true_literal tt).0 i.0, (i.1.0, way_bridge (a shape) (b shape) (e shape) q i.1.0 i.1.1, i.1.2)))))
    | inr (inr (inr (inr i))) ↦ inr (inr (inr (inr (i.0, i.1, refers_same (a shape) (b shape) (e shape) i.0 i.2, way_bridge (a shape) (b shape) (e shape) q i.1 i.3, look_bridge a b e n i.0 i.1 row i.4))))
  ],
)

values_bridge : (g : List Triple) (y z : Reading) → SameReading y z → (f v : Term) → ValueNode g y f v ↔ ValueNode g z f v
values_bridge g y z e f v = (
  elim [ inl k ↦ inl (e.is_node_shape.0 k.0, k.1) | inr k ↦ inr (k.0, (e.path k.0).0 k.1, k.2) ],
  elim [ inl k ↦ inl (e.is_node_shape.1 k.0, k.1) | inr k ↦ inr (k.0, (e.path k.0).1 k.1, k.2) ],
)

pub bridge_law : BridgeLaw
bridge_law g s entries stands acyclic e i f r =
    let same = stands.each e i in
    let open_at = unfold_law g s acyclic e.shape f r in
    let next = at_same e.shape f (reading s e.shape) (compiled_reading e.compiled) same (surroundings (At g s) g (reading s e.shape) f) (surroundings (At g s) g (compiled_reading e.compiled) f) (record {
      value_node = values_bridge g (reading s e.shape) (compiled_reading e.compiled) same f;
      instance = λ q v i w. (λ j. j, λ j. j);
      focus_value = λ q w i. (λ j. j, λ j. j);
      triple = λ i v p o w. (λ j. j, λ j. j);
      row = λ t v i w r. (λ j. j, λ j. j);
    }) r in
    (λ a. next.0 (open_at.0 a), λ a. open_at.1 (next.1 a))

pub makes_shape : (s : List Triple) (shape : Term) → HasTarget (reading s shape) → IsShape s shape
makes_shape s shape = elim [
  | inl i ↦ inr (inr (inl (ShTargetNode, i.0, refl, i.1)))
  | inr (inl i) ↦ inr (inr (inl (ShTargetClass, i.0, refl, i.1)))
  | inr (inr (inl i)) ↦ i.0
  | inr (inr (inr (inl i))) ↦ inr (inr (inl (ShTargetSubjectsOf, i.0, refl, i.1)))
  | inr (inr (inr (inr i))) ↦ inr (inr (inl (ShTargetObjectsOf, i.0, refl, i.1)))
]

pub compiled_law : CompiledLaw
compiled_law g s entries stands acyclic r = (
  λ i.
      let k = stands.all i.0 (makes_shape s i.0 (has_target g s i.0 i.1 i.2)) in
      let aim : Target g s k.0.shape i.1 = subst (λ (shape : Term). Target g s shape i.1) (sym k.2) i.2 in
      let at : At g s k.0.shape i.1 r = subst (λ (shape : Term). At g s shape i.1 r) (sym k.2) i.3 in (
        k.0,
        i.1,
        k.1,
        target_bridge g (reading s k.0.shape) (compiled_reading k.0.compiled) (stands.each k.0 k.1) k.0.shape i.1 aim,
        (bridge_law g s entries stands acyclic k.0 k.1 i.1 r).0 at,
      ),
  λ i. (
    i.0.shape,
    i.1,
    target_bridge g (compiled_reading i.0.compiled) (reading s i.0.shape) (reading_back (reading s i.0.shape) (compiled_reading i.0.compiled) (stands.each i.0 i.2)) i.0.shape i.1 i.3,
    (bridge_law g s entries stands acyclic i.0 i.2 i.1 r).1 i.4,
  ),
)
