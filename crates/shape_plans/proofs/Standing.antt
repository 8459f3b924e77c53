-- What the plans of compiled shapes are for a shapes graph that the shapes stand for.
use Rattle.std.proofs.Common.{◌≡◌, ◌∙◌, ℕ, ◌+◌, ◌<◌, Bool, true, false, List, [], ◌∷◌, ◌++◌, length, map, get_or, refl, sym, ap, subst, arith, inl, inr}
use Rattle.std.specs.Prelude.{◌⊎◌, ◌↔◌, IsTrue, Some, ltb, not, slice_get}
use Rattle.std.specs.List.{Contains}
use Rattle.std.proofs.lemmas.Bool.{ltb-false, ltb-true}
use Rattle.std.proofs.lemmas.List.Elements.{All-append, All-cons, All-nil, Contains-append_left, Contains-push, Contains-push_cases}
use Rattle.collections.proofs.Members.{has_head}
use Rattle.rdf_model.specs.declared.term.Term.{Term}
use Rattle.rdf_model.specs.declared.triple.Triple.{Triple}
use Rattle.rdf_model.specs.Numbers.{term_at}
use Rattle.shape_model.specs.Limits.{levels_limit}
use Rattle.shape_model.specs.Looks.{LookRow}
use Rattle.shape_model.specs.Readings.{IsAcyclic, IsShallow, Reading, reading}
use Rattle.shape_model.specs.ShapeLooks.{Looks}
use Rattle.shape_model.specs.Targets.{HasTarget}
use Rattle.shape_model.specs.Vocabulary.{ShTargetClass, ShTargetNode, ShTargetObjectsOf, ShTargetSubjectsOf}
use Rattle.shape_model.proofs.Bridges.{makes_shape}
use Rattle.path_ast.specs.PathReadings.{IsNamed}
use Rattle.shape_ast.specs.declared.shape.Shape.{Shape}
use Rattle.shape_ast.specs.declared.target.Target.{Target}
use Rattle.shape_ast.specs.declared.target.Target.TheVariants.{Node, Class, ImplicitClass, SubjectsOf, ObjectsOf}
use Rattle.shape_ast.specs.Readings.{AreNamed, ReadShape, read_shape, read_shapes, read_target}
use Rattle.shape_ast.specs.Standing.{SameShape, StandFor, shape_reading}
use Rattle.read_plans.specs.ShapeRows.{plan_rows}
use Rattle.read_plans.proofs.Plans.{all_within, of_place, plan_listed}
use Rattle.read_plans.proofs.ShapeSteps.{found_at, read_at}
use Rattle.focus_affected.specs.declared.plan.ShapePlan.{ShapePlan}
use Rattle.focus_affected.specs.Plans.{AreBoundPlans, IsBoundPlan, row_of}
use Rattle.shape_plans.specs.Planned.{AreFirstPlans, ArePlansOf, Declares, IsPlanOf}

-- two readings of a shape that agree as a validation asks declare targets alike
module _ (y z : Reading) (e : SameShape y z) where
  has_to : HasTarget y → HasTarget z
  has_to = elim [
    | inl i ↦ inl (i.0, (e.has ShTargetNode i.0 tt).0 i.1)
    | inr (inl i) ↦ inr (inl (i.0, (e.has ShTargetClass i.0 tt).0 i.1))
    | inr (inr (inl i)) ↦ inr (inr (inl (e.is_class.0 i)))
    | inr (inr (inr (inl i))) ↦ inr (inr (inr (inl (i.0, (e.has ShTargetSubjectsOf i.0 tt).0 i.1))))
    | inr (inr (inr (inr i))) ↦ inr (inr (inr (inr (i.0, (e.has ShTargetObjectsOf i.0 tt).0 i.1))))
  ]

  has_from : HasTarget z → HasTarget y
  has_from = elim [
    | inl i ↦ inl (i.0, (e.has ShTargetNode i.0 tt).1 i.1)
    | inr (inl i) ↦ inr (inl (i.0, (e.has ShTargetClass i.0 tt).1 i.1))
    | inr (inr (inl i)) ↦ inr (inr (inl (e.is_class.1 i)))
    | inr (inr (inr (inl i))) ↦ inr (inr (inr (inl (i.0, (e.has ShTargetSubjectsOf i.0 tt).1 i.1))))
    | inr (inr (inr (inr i))) ↦ inr (inr (inr (inr (i.0, (e.has ShTargetObjectsOf i.0 tt).1 i.1))))
  ]

module _ (shapes : List ReadShape) (c : ReadShape) where
  has_declared : (t : Target Term) → Contains c.targets t → HasTarget (shape_reading shapes c)
  has_declared (Node v) i = inl (v, i)
  has_declared (Class v) i = inr (inl (v, i))
  has_declared ImplicitClass i = inr (inr (inl i))
  has_declared (SubjectsOf v) i = inr (inr (inr (inl (v, i))))
  has_declared (ObjectsOf v) i = inr (inr (inr (inr (v, i))))

  declared_has : HasTarget (shape_reading shapes c) → (t : Target Term) × Contains c.targets t
  declared_has = elim [
    | inl i ↦ (Node i.0, i.1)
    | inr (inl i) ↦ (Class i.0, i.1)
    | inr (inr (inl i)) ↦ (ImplicitClass, i)
    | inr (inr (inr (inl i))) ↦ (SubjectsOf i.0, i.1)
    | inr (inr (inr (inr i))) ↦ (ObjectsOf i.0, i.1)
  ]

only_some : {X : Type 0} → (x y : X) → Some x ≡ Some y → x ≡ y
only_some x y e = cc

-- where a shape stands there is a place
place_of : {X : Type 0} → (xs : List X) (x : X) → Contains xs x → (n : ℕ) × (n < length xs) × (slice_get xs n ≡ Some x)
place_of xs x c = (c.0, c.1, found_at xs c.0 x c.1 (sym c.2))

module _ (terms : List Term) (shapes : List (Shape Term)) (plans : List ShapePlan) (named : AreNamed terms shapes) (first : AreFirstPlans terms (read_shapes shapes) (length (read_shapes shapes)) plans) where
  module _ (s : List Triple) (stand : StandFor (read_shapes shapes) s) (acyclic : IsAcyclic s) (shallow : IsShallow levels_limit s) where
    -- a shape by its node in the graph, and where it stands
    at_node : (plan : ShapePlan) → Contains plans plan → (c : ReadShape) × (slice_get (read_shapes shapes) plan.place ≡ Some c) × (c.node ≡ term_at terms plan.node)
    at_node plan i = (first.each plan i).at

    plan_has : (plan : ShapePlan) → Contains plans plan → HasTarget (reading s (term_at terms plan.node))
    plan_has plan i =
        let at = at_node plan i in
        let d = first.declare plan i in
        let same : d.0 ≡ at.0 = only_some d.0 at.0 (sym d.1 ∙ at.1) in
        let t = d.2.0 in
        let stands : Contains at.0.targets t = subst (λ (r : ReadShape). Contains r.targets t) same d.2.1 in
        let e = stand.each at.0 (of_place (read_shapes shapes) plan.place at.0 at.1) in
        subst (λ (n : Term). HasTarget (reading s n)) at.2
        (has_from (reading s at.0.node) (shape_reading (read_shapes shapes) at.0) e (has_declared (read_shapes shapes) at.0 t stands))

    plan_rows_are : (plan : ShapePlan) → Contains plans plan → (row : LookRow) → Contains (map (row_of terms) plan.looks) row ↔ Looks s (term_at terms plan.node) row
    plan_rows_are plan i row =
        let at = at_node plan i in
        let is = (first.each plan i).rows row in
        let listed : Contains (plan_rows (read_shapes shapes) plan.place) row ↔ Looks s (term_at terms plan.node) row =
        subst (λ (n : Term). Contains (plan_rows (read_shapes shapes) plan.place) row ↔ Looks s n row) at.2
        (plan_listed (read_shapes shapes) s stand (all_within (IsNamed terms) shapes named) acyclic shallow plan.place at.0 at.1 row) in
        (λ c. listed.0 (is.0 c), λ l. is.1 (listed.1 l))

    plan_of : (shape : Term) → HasTarget (reading s shape) → (plan : ShapePlan) × Contains plans plan × (term_at terms plan.node ≡ shape)
    plan_of shape h =
        let k = stand.all shape (makes_shape s shape h) in
        let c = k.0 in
        let here : HasTarget (reading s c.node) = subst (λ (n : Term). HasTarget (reading s n)) (sym k.2) h in
        let t = declared_has (read_shapes shapes) c (has_to (reading s c.node) (shape_reading (read_shapes shapes) c) (stand.each c k.1) here) in
        let place = place_of (read_shapes shapes) c k.1 in
        let p = first.all place.0 place.1 (c, place.2, t) in
        let at = at_node p.0 p.1 in
        let same : at.0 ≡ c = only_some at.0 c (sym at.1 ∙ (ap (slice_get (read_shapes shapes)) p.2 ∙ place.2)) in
        (p.0, p.1, sym at.2 ∙ (ap (λ (r : ReadShape). r.node) same ∙ k.2))

  pub plans_stand : ArePlansOf terms (read_shapes shapes) plans
  plans_stand = record {
    places = λ plan i. (first.each plan i).at;
    planned = λ s stand acyclic shallow. record {
      each = plan_has s stand acyclic shallow;
      rows = plan_rows_are s stand acyclic shallow;
      all = plan_of s stand acyclic shallow;
    };
  }

-- a number below the next is below or the same
below_next : (n k : ℕ) → n < k + 1 → (n < k) ⊎ (n ≡ k)
below_next n k lt = elim (ltb n k) as (λ (b : Bool). ltb n k ≡ b → (n < k) ⊎ (n ≡ k)) [
  | true ↦ λ e. inl (ltb-true n k e)
  | false ↦ λ e. inr (let le = ltb-false n k e in omega (arith, le, lt))
] refl

-- plan by plan
module _ (terms : List Term) (shapes : List ReadShape) where
  pub no_plans : (plans : List ShapePlan) → plans ≡ [] → AreFirstPlans terms shapes 0 plans
  no_plans plans e = subst (λ (ps : List ShapePlan). AreFirstPlans terms shapes 0 ps) (sym e) (record {
    each = λ plan c. absurd (omega (arith, c.1));
    declare = λ plan c. absurd (omega (arith, c.1));
    all = λ place lt d. absurd (omega (arith, lt));
  })

  pub next_plan : (k : ℕ) (plans later : List ShapePlan) (plan : ShapePlan) → later ≡ plans ++ plan ∷ [] → AreFirstPlans terms shapes k plans → Declares shapes k → plan.place ≡ k → IsPlanOf terms shapes plan
      → AreFirstPlans terms shapes (k + 1) later
  next_plan k plans later plan e before d at is = subst (λ (ps : List ShapePlan). AreFirstPlans terms shapes (k + 1) ps) (sym e) (record {
    each = λ p c. elim (Contains-push_cases plans plan p c) [ inl i ↦ before.each p i | inr q ↦ subst (λ (x : ShapePlan). IsPlanOf terms shapes x) q is ];
    declare = λ p c. elim (Contains-push_cases plans plan p c) [ inl i ↦ before.declare p i | inr q ↦ subst (λ (x : ShapePlan). Declares shapes x.place) q (subst (Declares shapes) (sym at) d) ];
    all = λ place lt h. elim (below_next place k lt) [
      | inl less ↦ let p = before.all place less h in (p.0, Contains-append_left plans (plan ∷ []) p.0 p.1, p.2)
      | inr same ↦ (plan, Contains-push plans plan, at ∙ sym same)
    ];
  })

  pub pushed_plans : (plans later : List ShapePlan) (plan : ShapePlan) → later ≡ plans ++ plan ∷ [] → IsBoundPlan (length terms) plan → AreBoundPlans (length terms) plans → AreBoundPlans (length terms) later
  pushed_plans plans later plan e bound before =
      subst (λ (ps : List ShapePlan). AreBoundPlans (length terms) ps) (sym e) (All-append (IsBoundPlan (length terms)) plans (plan ∷ []) before (All-cons (IsBoundPlan (length terms)) plan [] bound (All-nil (IsBoundPlan (length terms)))))

  pub none_here : (k : ℕ) (plans : List ShapePlan) → AreFirstPlans terms shapes k plans → (Declares shapes k → ⊥) → AreFirstPlans terms shapes (k + 1) plans
  none_here k plans before never = record {
    each = before.each;
    declare = before.declare;
    all = λ place lt h. elim (below_next place k lt) [ inl less ↦ before.all place less h | inr same ↦ absurd (never (subst (Declares shapes) same h)) ];
  }

-- whether a shape declares targets, by the list of its declarations
pub true_or_false : (b : Bool) → b ≡ true → b ≡ false → ⊥
true_or_false true e h = cc
true_or_false false e h = cc

not_both : (b : Bool) → b ≡ true → not b ≡ true → ⊥
not_both true e h = cc
not_both false e h = cc

some_declared : (ts : List (Target Term)) (b : Bool) → IsTrue b ↔ (ts ≡ []) → IsTrue (not b) → (t : Target Term) × Contains (map (read_target (λ t. t)) ts) t
some_declared [] b e h = absurd (not_both b (e.1 refl) h)
some_declared (t ∷ ts) b e h = (read_target (λ t. t) t, has_head (read_target (λ t. t) t) (map (read_target (λ t. t)) ts))

none_declared : (ts : List (Target Term)) (b : Bool) → IsTrue b ↔ (ts ≡ []) → (t : Target Term) → Contains (map (read_target (λ t. t)) ts) t → IsTrue (not b)
none_declared ts false e t c = refl
none_declared ts true e t c = absurd (omega (arith, (subst (λ (us : List (Target Term)). Contains (map (read_target (λ t. t)) us) t) (e.0 refl) c).1))

pub declares_is : (shapes : List (Shape Term)) (place : ℕ) (s : Shape Term) (b : Bool) → place < length shapes → s ≡ get_or shapes place s → IsTrue b ↔ (s.targets ≡ []) → IsTrue (not b) ↔ Declares (read_shapes shapes) place
declares_is shapes place s b lt is e =
    let at = read_at shapes place s (found_at shapes place s lt is) in (
      λ h. (read_shape (λ t. t) s, at, some_declared s.targets b e h),
      λ d. none_declared s.targets b e d.2.0 (subst (λ (c : ReadShape). Contains c.targets d.2.0) (only_some d.0 (read_shape (λ t. t) s) (sym d.1 ∙ at)) d.2.1),
    )

-- the plan of a shape that was looked up
pub plan_here : (terms : List Term) (shapes : List (Shape Term)) (place : ℕ) (s : Shape Term) (plan : ShapePlan) → place < length shapes → s ≡ get_or shapes place s → plan.place ≡ place → term_at terms plan.node ≡ s.node
    → ((row : LookRow) → Contains (map (row_of terms) plan.looks) row ↔ Contains (plan_rows (read_shapes shapes) place) row) → IsPlanOf terms (read_shapes shapes) plan
plan_here terms shapes place s plan lt is e node rows = record {
  at = (read_shape (λ t. t) s, subst (λ (n : ℕ). slice_get (read_shapes shapes) n ≡ Some (read_shape (λ t. t) s)) (sym e) (read_at shapes place s (found_at shapes place s lt is)), sym node);
  rows = λ row. subst (λ (n : ℕ). Contains (map (row_of terms) plan.looks) row ↔ Contains (plan_rows (read_shapes shapes) n) row) (sym e) (rows row);
}
