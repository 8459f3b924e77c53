-- Results are the same where the graphs agree on the looks of the shape.
use Rattle.std.proofs.Common.{ℕ, zero, suc, List, [], ◌∷◌, ◌++◌, length, refl, subst, inl, inr}
use Rattle.std.specs.Prelude.{◌↔◌, false}
use Rattle.rdf_model.specs.declared.term.Term.{Term}
use Rattle.rdf_model.specs.declared.triple.Triple.{Triple}
use Rattle.shape_model.specs.Agreement.{AgreesAt}
use Rattle.shape_model.specs.Components.{SameSurroundings}
use Rattle.shape_model.specs.Instances.{Instance, class_path}
use Rattle.shape_model.specs.Laws.{CoverLaw}
use Rattle.shape_model.specs.Looks.{ByIn, ByOut, ByOutAny, LookRow, PathLook}
use Rattle.shape_model.specs.Paths.{Path}
use Rattle.shape_model.specs.Readings.{IsDeactivated, Reading, ValueNode, reading}
use Rattle.shape_model.specs.ShapeLooks.{ResultLook, ShapeLookDepth, TargetLook, ValueWay}
use Rattle.shape_model.specs.Targets.{HasTarget, Target, TargetOf}
use Rattle.shape_model.specs.Validation.{At, AtDepth, surroundings}
use Rattle.shape_model.specs.Walks.{Walks}
use Rattle.shape_model.specs.declared.result_row.ResultRow.{ResultRow}
use Rattle.shape_model.proofs.Walks.{way_more, walk_same}
use Rattle.shape_model.proofs.Surroundings.{reading_itself, at_same}

-- each value node lies at the end of its way
pub value_way : (g : List Triple) (y : Reading) (f : Term) (q : List Path) (x v : Term) → Walks g q f x → ValueNode g y x v → (w : List Path) × ValueWay y q w × Walks g w f v
value_way g y f q x v w = elim [
  | inl n ↦ (q, inl (n.0, refl), subst (λ (a : Term). Walks g q f a) n.1 w)
  | inr n ↦ (q ++ n.0 ∷ [], inr (n.0, n.1, refl), way_more g q n.0 f x v w n.2)
]

module _ (g h : List Triple) (readings : Term → Reading) (f : Term) where
  -- the surroundings are the same where the answers of the shapes that it refers to are
  surroundings_same : (n : ℕ) (shape : Term) (q : List Path) (x : Term) → Walks g q f x → ((row : LookRow) → ShapeLookDepth (suc n) readings shape q row → AgreesAt g h f row)
      → ((m : Term) (e : List Path) (v : Term) → Walks g e f v → ((row : LookRow) → ShapeLookDepth n readings m e row → AgreesAt g h f row) → (r : ResultRow) → AtDepth n g readings m v r ↔ AtDepth n h readings m v r)
      → (IsDeactivated (readings shape) → ⊥) → SameSurroundings (readings shape) (surroundings (AtDepth n g readings) g (readings shape) x) (surroundings (AtDepth n h readings) h (readings shape) x)
  surroundings_same n shape q x w a deeper live = record {
    value_node = λ v. (
      elim [ inl y ↦ inl y | inr y ↦ inr (y.0, y.1, (walk_same g h f y.0 false q x w (λ row i. a row (live, inl (y.0, y.1, i))) v).0 y.2) ],
      elim [ inl y ↦ inl y | inr y ↦ inr (y.0, y.1, (walk_same g h f y.0 false q x w (λ row i. a row (live, inl (y.0, y.1, i))) v).1 y.2) ],
    );
    instance = λ c v i k. let e = value_way g (readings shape) f q x v w k in
        walk_same g h f class_path false e.0 v e.2 (λ row j. a row (live, inr (inl (c, e.0, i, e.1, j)))) c;
    focus_value = λ p y i. a (record { way = q; kind = ByOut p }) (live, inr (inr (inl (p, i, refl)))) x w (record { subject = x; predicate = p; object = y }) (refl, refl);
    triple = λ i v p o k. let e = value_way g (readings shape) f q x v w k in
        a (record { way = e.0; kind = ByOutAny }) (live, inr (inr (inr (inl (i, (e.0, e.1, refl)))))) v e.2 (record { subject = v; predicate = p; object = o }) refl;
    row = λ m v i k r. let e = value_way g (readings shape) f q x v w k in
        deeper m e.0 v e.2 (λ row j. a row (live, inr (inr (inr (inr (m, e.0, i, e.1, j)))))) r;
  }

  cover : (n : ℕ) (shape : Term) (q : List Path) (x : Term) → Walks g q f x → ((row : LookRow) → ShapeLookDepth n readings shape q row → AgreesAt g h f row) → (r : ResultRow) → AtDepth n g readings shape x r ↔ AtDepth n h readings shape x r
  cover zero shape q x w a r = (λ e. e, λ e. e)
  cover (suc n) shape q x w a r =
      let same = λ (live : IsDeactivated (readings shape) → ⊥). at_same shape x (readings shape) (readings shape) (reading_itself (readings shape)) (surroundings (AtDepth n g readings) g (readings shape) x) (surroundings (AtDepth n h readings) h (readings shape) x) (surroundings_same n shape q x w a (λ m e v u b r. cover n m e v u b r) live) r in
      (λ k. (same k.0).0 k, λ k. (same k.0).1 k)

  target : (shape : Term) → ((row : LookRow) → TargetLook (readings shape) row → AgreesAt g h f row) → TargetOf g (readings shape) shape f ↔ TargetOf h (readings shape) shape f
  target shape a = (
    elim [
      | inl i ↦ inl i
      | inr (inl i) ↦ inr (inl (i.0, i.1, (instance i.0 (λ row j. a row (inl (i.0, i.1, j)))).0 i.2))
      | inr (inr (inl i)) ↦ inr (inr (inl (i.0, (instance shape (λ row j. a row (inr (inl (i.0, j))))).0 i.1)))
      | inr (inr (inr (inl i))) ↦ inr (inr (inr (inl (i.0, i.1, (i.2.0, (a (record { way = []; kind = ByOut i.0 }) (inr (inr (inl (i.0, i.1, refl)))) f refl (record { subject = f; predicate = i.0; object = i.2.0 }) (refl, refl)).0 i.2.1)))))
      | inr (inr (inr (inr i))) ↦ inr (inr (inr (inr (i.0, i.1, (i.2.0, (a (record { way = []; kind = ByIn i.0 }) (inr (inr (inr (i.0, i.1, refl)))) f refl (record { subject = i.2.0; predicate = i.0; object = f }) (refl, refl)).0 i.2.1)))))
    ],
    elim [
      | inl i ↦ inl i
      | inr (inl i) ↦ inr (inl (i.0, i.1, (instance i.0 (λ row j. a row (inl (i.0, i.1, j)))).1 i.2))
      | inr (inr (inl i)) ↦ inr (inr (inl (i.0, (instance shape (λ row j. a row (inr (inl (i.0, j))))).1 i.1)))
      | inr (inr (inr (inl i))) ↦ inr (inr (inr (inl (i.0, i.1, (i.2.0, (a (record { way = []; kind = ByOut i.0 }) (inr (inr (inl (i.0, i.1, refl)))) f refl (record { subject = f; predicate = i.0; object = i.2.0 }) (refl, refl)).1 i.2.1)))))
      | inr (inr (inr (inr i))) ↦ inr (inr (inr (inr (i.0, i.1, (i.2.0, (a (record { way = []; kind = ByIn i.0 }) (inr (inr (inr (i.0, i.1, refl)))) f refl (record { subject = i.2.0; predicate = i.0; object = f }) (refl, refl)).1 i.2.1)))))
    ],
  )
    where
      instance : (c : Term) → ((row : LookRow) → PathLook false class_path [] row → AgreesAt g h f row) → Instance g f c ↔ Instance h f c
      instance c b = walk_same g h f class_path false [] f refl b c

pub target_cover : (g h s : List Triple) (shape f : Term) → ((row : LookRow) → TargetLook (reading s shape) row → AgreesAt g h f row) → Target g s shape f ↔ Target h s shape f
target_cover g h s shape f a = target g h (reading s) f shape a

pub result_cover : (g h s : List Triple) (shape f : Term) → ((row : LookRow) → ResultLook s shape row → AgreesAt g h f row) → (r : ResultRow) → At g s shape f r ↔ At h s shape f r
result_cover g h s shape f a = cover g h (reading s) f (suc (length s)) shape [] f refl a

pub cover_law : CoverLaw
cover_law g h s shape f a = (target_cover g h s shape f (λ row i. a row (inr i)), result_cover g h s shape f (λ row i. a row (inl i)))

-- a shape with a target node has a target declaration
pub has_target : (g s : List Triple) (shape f : Term) → Target g s shape f → HasTarget (reading s shape)
has_target g s shape f = elim [
  | inl i ↦ inl (f, i)
  | inr (inl i) ↦ inr (inl (i.0, i.1))
  | inr (inr (inl i)) ↦ inr (inr (inl i.0))
  | inr (inr (inr (inl i))) ↦ inr (inr (inr (inl (i.0, i.1))))
  | inr (inr (inr (inr i))) ↦ inr (inr (inr (inr (i.0, i.1))))
]
