-- Shapes by number say the same, and have the same plans, when more terms are named behind those that were.
use Rattle.std.proofs.Common.{◌≡◌, ◌∙◌, ℕ, ◌+◌, ◌<◌, ◌≤◌, Option, Some, None, List, [], ◌∷◌, ◌++◌, length, map, refl, sym, ap, subst, arith}
use Rattle.std.specs.Prelude.{◌↔◌, MatchOption, slice_get}
use Rattle.std.specs.Arc.{arc_value}
use Rattle.std.specs.List.{All, Contains}
use Rattle.std.proofs.lemmas.List.{get_or_append_left, length-append}
use Rattle.std.proofs.lemmas.List.Elements.{All-cons, All-contains, All-head, All-nil, All-tail}
use Rattle.rdf_model.specs.declared.term.Term.{Term}
use Rattle.rdf_model.specs.declared.term.Term.TheVariants.{Blank}
use Rattle.rdf_model.specs.declared.triple.Triple.{Triple}
use Rattle.rdf_model.specs.Numbers.{term_at}
use Rattle.shape_model.specs.Looks.{LookRow}
use Rattle.shape_model.specs.Paths as defined
use Rattle.shape_model.specs.Patterns.{IsPatternOf}
use Rattle.shape_model.specs.Readings.{reading}
use Rattle.shape_model.specs.ShapeLooks.{Looks}
use Rattle.shape_model.specs.Targets.{HasTarget}
use Rattle.path_ast.specs.declared.path.Path.{Path, Predicate, Inverse', Sequence', Alternative', ZeroOrMore', OneOrMore', ZeroOrOne', Row_of-Path, end_of-Path, more_of-Path}
use Rattle.path_ast.specs.PathReadings.{HasEach, IsBoundOptional, IsBoundPath, RowHasEach, members, read_path, read_row}
use Rattle.path_eval.specs.declared.instances.ClassWords.{ClassWords}
use Rattle.path_eval.specs.Instances.{AreClassWords}
use Rattle.shape_ast.specs.declared.constraint.Constraint.{Constraint}
use Rattle.shape_ast.specs.declared.constraint.Constraint.TheVariants.{ByList, ByShape, ByShapes, ByTerm}
use Rattle.shape_ast.specs.declared.pattern.CompiledPattern.{CompiledPattern}
use Rattle.shape_ast.specs.declared.shape.Shape.{Shape}
use Rattle.shape_ast.specs.declared.target.Target.{Target}
use Rattle.shape_ast.specs.declared.target.Target.TheVariants.{Node, Class, ImplicitClass, SubjectsOf, ObjectsOf}
use Rattle.shape_ast.specs.Readings.{AreBound, HoldsOfConstraint, HoldsOfShape, HoldsOfTarget, ReadShape, named_shapes, read_constraint, read_optional, read_optional_path, read_pattern, read_shape, read_target}
use Rattle.shape_ast.specs.Standing.{HasFlagsText, IsBuilt}
use Rattle.focus_affected.specs.declared.plan.NumberedKind.{NumberedKind}
use Rattle.focus_affected.specs.declared.plan.NumberedKind.TheVariants.{Out, In, OutAny}
use Rattle.focus_affected.specs.declared.plan.NumberedLook.{NumberedLook}
use Rattle.focus_affected.specs.declared.plan.ShapePlan.{ShapePlan}
use Rattle.focus_affected.specs.Plans.{AreBoundPlans, AreBoundRows, IsBoundKind, IsBoundLookRow, IsBoundPlan, kind_of, row_of, way_of}
use Rattle.focus_affected.specs.Touched.{ArePlans}
use Rattle.shape_plans.specs.declared.planned.PlannedShapes.{PlannedShapes}
use Rattle.shape_plans.specs.Planned.{ArePlanned, ArePlansOf}

all_same : {X Y : Type 0} → (P : X → Type 0) (f g : X → Y) (xs : List X) → All P xs → ((x : X) → P x → f x ≡ g x) → map f xs ≡ map g xs
all_same P f g [] a e = refl
all_same P f g (x ∷ xs) a e = λ i. e x (All-head P x xs a) i ∷ all_same P f g xs (All-tail P x xs a) e i

all_more : {X : Type 0} → (P Q : X → Type 0) (xs : List X) → All P xs → ((x : X) → P x → Q x) → All Q xs
all_more P Q xs a more i d lt = more _ (a i d lt)

option_more : {X : Type 0} → (P Q : X → Type 0) (o : Option X) → MatchOption o (Unit {0}) P → ((x : X) → P x → Q x) → MatchOption o (Unit {0}) Q
option_more P Q None h more = tt
option_more P Q (Some x) h more = more x h

-- what holds of the numbers of parts holds of more
module _ (P Q : ℕ → Type 0) (more : (n : ℕ) → P n → Q n) where
  mutual
    path_more : (p : Path ℕ) → HasEach P p → HasEach Q p
    path_more (Predicate p) h = more p h
    path_more (Inverse' _ p) h = path_more p h
    path_more (Sequence' _ p _ ps) h = (path_more p h.0, row_more ps h.1)
    path_more (Alternative' _ p _ ps) h = (path_more p h.0, row_more ps h.1)
    path_more (ZeroOrMore' _ p) h = path_more p h
    path_more (OneOrMore' _ p) h = path_more p h
    path_more (ZeroOrOne' _ p) h = path_more p h

    row_more : {m : _} → (ps : Row_of-Path ℕ m) → RowHasEach P ps → RowHasEach Q ps
    row_more end_of-Path h = tt
    row_more (more_of-Path p ps) h = (path_more p h.0, row_more ps h.1)

  target_more : (t : Target ℕ) → HoldsOfTarget P t → HoldsOfTarget Q t
  target_more (Node t) h = more t h
  target_more (Class t) h = more t h
  target_more ImplicitClass h = h
  target_more (SubjectsOf t) h = more t h
  target_more (ObjectsOf t) h = more t h

  constraint_more : (count : ℕ) (k : Constraint ℕ) → HoldsOfConstraint P count k → HoldsOfConstraint Q count k
  constraint_more count (ByTerm component q) h = more q h
  constraint_more count (ByList component q members) h = (more q h.0, all_more P Q members h.1 more)
  constraint_more count (ByShape component q shape) h = (more q h.0, h.1)
  constraint_more count (ByShapes component q shapes) h = (more q h.0, h.1)

  shape_more : (count : ℕ) (s : Shape ℕ) → HoldsOfShape P count s → HoldsOfShape Q count s
  shape_more count s h = record {
    node = more s.node h.node;
    path = option_more (HasEach P) (HasEach Q) s.path h.path path_more;
    severity = option_more P Q s.severity h.severity more;
    messages = all_more P Q s.messages h.messages more;
    targets = all_more (HoldsOfTarget P) (HoldsOfTarget Q) s.targets h.targets target_more;
    constraints = all_more (HoldsOfConstraint P count) (HoldsOfConstraint Q count) s.constraints h.constraints (constraint_more count);
    pattern = option_more (λ (p : CompiledPattern ℕ). P p.parameter) (λ p. Q p.parameter) s.pattern h.pattern (λ p. more p.parameter);
    flags = option_more P Q s.flags h.flags more;
    properties = h.properties;
    qualified = h.qualified;
    siblings = h.siblings;
    ignored = all_more P Q s.ignored h.ignored more;
  }

-- two ways to read numbers that agree where something holds read parts of which it holds the same
module _ (P : ℕ → Type 0) (read other : ℕ → Term) (same : (n : ℕ) → P n → read n ≡ other n) where
  mutual
    path_same : (p : Path ℕ) → HasEach P p → read_path read p ≡ read_path other p
    path_same (Predicate p) h = ap defined.Predicate (same p h)
    path_same (Inverse' _ p) h = ap defined.Inverse (path_same p h)
    path_same (Sequence' _ p _ ps) h = λ i. defined.Sequence (members (path_same p h.0 i) (row_same ps h.1 i))
    path_same (Alternative' _ p _ ps) h = λ i. defined.Alternative (members (path_same p h.0 i) (row_same ps h.1 i))
    path_same (ZeroOrMore' _ p) h = ap defined.ZeroOrMore (path_same p h)
    path_same (OneOrMore' _ p) h = ap defined.OneOrMore (path_same p h)
    path_same (ZeroOrOne' _ p) h = ap defined.ZeroOrOne (path_same p h)

    row_same : {m : _} → (ps : Row_of-Path ℕ m) → RowHasEach P ps → read_row read ps ≡ read_row other ps
    row_same end_of-Path h = refl
    row_same (more_of-Path p ps) h = λ i. path_same p h.0 i ∷ row_same ps h.1 i

  target_same : (t : Target ℕ) → HoldsOfTarget P t → read_target read t ≡ read_target other t
  target_same (Node t) h = ap Node (same t h)
  target_same (Class t) h = ap Class (same t h)
  target_same ImplicitClass h = refl
  target_same (SubjectsOf t) h = ap SubjectsOf (same t h)
  target_same (ObjectsOf t) h = ap ObjectsOf (same t h)

  constraint_same : (count : ℕ) (k : Constraint ℕ) → HoldsOfConstraint P count k → read_constraint read k ≡ read_constraint other k
  constraint_same count (ByTerm component q) h = ap (λ (t : Term). ByTerm component t) (same q h)
  constraint_same count (ByList component q members) h = λ i. ByList component (same q h.0 i) (all_same P read other members h.1 same i)
  constraint_same count (ByShape component q shape) h = ap (λ (t : Term). ByShape component t shape) (same q h.0)
  constraint_same count (ByShapes component q shapes) h = ap (λ (t : Term). ByShapes component t shapes) (same q h.0)

  optional_same : (o : Option ℕ) → MatchOption o (Unit {0}) P → read_optional read o ≡ read_optional other o
  optional_same None h = refl
  optional_same (Some n) h = ap Some (same n h)

  optional_path_same : (o : Option (Path ℕ)) → MatchOption o (Unit {0}) (HasEach P) → read_optional_path read o ≡ read_optional_path other o
  optional_path_same None h = refl
  optional_path_same (Some p) h = ap Some (path_same p h)

  pattern_same : (o : Option (CompiledPattern ℕ)) → MatchOption o (Unit {0}) (λ p. P p.parameter) → read_pattern read o ≡ read_pattern other o
  pattern_same None h = refl
  pattern_same (Some p) h = ap Some (same p.parameter h)

  shape_same : (count : ℕ) (s : Shape ℕ) → HoldsOfShape P count s → read_shape read s ≡ read_shape other s
  shape_same count s h = λ i. record {
    node = same s.node h.node i;
    path = optional_path_same s.path h.path i;
    is_deactivated = s.is_deactivated;
    severity = optional_same s.severity h.severity i;
    messages = all_same P read other s.messages h.messages same i;
    targets = all_same (HoldsOfTarget P) (read_target read) (read_target other) s.targets h.targets target_same i;
    constraints = all_same (HoldsOfConstraint P count) (read_constraint read) (read_constraint other) s.constraints h.constraints (constraint_same count) i;
    pattern = pattern_same s.pattern h.pattern i;
    flags = optional_same s.flags h.flags i;
    properties = s.properties;
    qualified = s.qualified;
    siblings = s.siblings;
    ignored = all_same P read other s.ignored h.ignored same i;
  }

  built_same : (f g : Option Term) → f ≡ g → (o : Option (CompiledPattern ℕ)) → MatchOption o (Unit {0}) (λ p. P p.parameter)
      → MatchOption o (Unit {0}) (λ p. (text : List ℕ) × HasFlagsText f text × IsPatternOf (read p.parameter) text (arc_value p.regex))
      → MatchOption o (Unit {0}) (λ p. (text : List ℕ) × HasFlagsText g text × IsPatternOf (other p.parameter) text (arc_value p.regex))
  built_same f g e None h b = tt
  built_same f g e (Some p) h b = (b.0, subst (λ (o : Option Term). HasFlagsText o b.0) e b.1, subst (λ (t : Term). IsPatternOf t b.0 (arc_value p.regex)) (same p.parameter h) b.2)

  shape_built : (count : ℕ) (s : Shape ℕ) → HoldsOfShape P count s → IsBuilt read s → IsBuilt other s
  shape_built count s h b = built_same (read_optional read s.flags) (read_optional other s.flags) (optional_same s.flags h.flags) s.pattern h.pattern b

module _ (terms more : List Term) where
  abbrev longer : List Term
  longer = terms ++ more

  abbrev Within : ℕ → Type 0
  Within n = n < length terms

  reaches : (n : ℕ) → n < length terms → n < length longer
  reaches n lt = let e = length-append terms more in omega (arith, lt, e)

  same_term : (n : ℕ) → n < length terms → term_at terms n ≡ term_at longer n
  same_term n lt = sym (get_or_append_left terms more (Blank 0 0) n lt)

  shapes_same : (shapes : List (Shape ℕ)) → AreBound terms shapes → named_shapes terms shapes ≡ named_shapes longer shapes
  shapes_same shapes b = all_same (HoldsOfShape Within (length shapes)) (read_shape (term_at terms)) (read_shape (term_at longer)) shapes b (shape_same Within (term_at terms) (term_at longer) same_term (length shapes))

  way_same : (o : Option (Path ℕ)) → IsBoundOptional (length terms) o → way_of terms o ≡ way_of longer o
  way_same None h = refl
  way_same (Some (Sequence' b p c ps)) h = λ i. path_same Within (term_at terms) (term_at longer) same_term p h.0 i ∷ row_same Within (term_at terms) (term_at longer) same_term ps h.1 i
  way_same (Some (Predicate p)) h = λ i. path_same Within (term_at terms) (term_at longer) same_term (Predicate p) h i ∷ []
  way_same (Some (Inverse' b p)) h = λ i. path_same Within (term_at terms) (term_at longer) same_term (Inverse' b p) h i ∷ []
  way_same (Some (Alternative' b p c ps)) h = λ i. path_same Within (term_at terms) (term_at longer) same_term (Alternative' b p c ps) h i ∷ []
  way_same (Some (ZeroOrMore' b p)) h = λ i. path_same Within (term_at terms) (term_at longer) same_term (ZeroOrMore' b p) h i ∷ []
  way_same (Some (OneOrMore' b p)) h = λ i. path_same Within (term_at terms) (term_at longer) same_term (OneOrMore' b p) h i ∷ []
  way_same (Some (ZeroOrOne' b p)) h = λ i. path_same Within (term_at terms) (term_at longer) same_term (ZeroOrOne' b p) h i ∷ []

  kind_same : (k : NumberedKind) → IsBoundKind (length terms) k → kind_of terms k ≡ kind_of longer k
  kind_same (Out p) h = ap (λ (t : Term). kind_of (t ∷ []) (Out 0)) (same_term p h)
  kind_same (In p) h = ap (λ (t : Term). kind_of (t ∷ []) (In 0)) (same_term p h)
  kind_same OutAny h = refl

  rows_same : (looks : List NumberedLook) → AreBoundRows (length terms) looks → map (row_of terms) looks ≡ map (row_of longer) looks
  rows_same looks b = all_same (IsBoundLookRow (length terms)) (row_of terms) (row_of longer) looks b (λ l h i. record { way = way_same l.way h.way i; kind = kind_same l.kind h.kind i })

  kind_reaches : (k : NumberedKind) → IsBoundKind (length terms) k → IsBoundKind (length longer) k
  kind_reaches (Out p) h = reaches p h
  kind_reaches (In p) h = reaches p h
  kind_reaches OutAny h = h

  plans_reach : (plans : List ShapePlan) → AreBoundPlans (length terms) plans → AreBoundPlans (length longer) plans
  plans_reach plans b = all_more (IsBoundPlan (length terms)) (IsBoundPlan (length longer)) plans b (λ plan h. record {
    node = reaches plan.node h.node;
    looks = all_more (IsBoundLookRow (length terms)) (IsBoundLookRow (length longer)) plan.looks h.looks (λ l k. record {
      way = option_more (IsBoundPath (length terms)) (IsBoundPath (length longer)) l.way k.way (path_more Within (λ n. n < length longer) reaches);
      kind = kind_reaches l.kind k.kind;
    });
  })

  plans_same : (s : List Triple) (plans : List ShapePlan) → AreBoundPlans (length terms) plans → ArePlans terms s plans → ArePlans longer s plans
  plans_same s plans b are =
      let node : (plan : ShapePlan) → Contains plans plan → term_at terms plan.node ≡ term_at longer plan.node = λ plan c. same_term plan.node (All-contains (IsBoundPlan (length terms)) plans plan b c).node in
      record {
        each = λ plan c. subst (λ (t : Term). HasTarget (reading s t)) (node plan c) (are.each plan c);
        rows = λ plan c row.
            subst (λ (t : Term). Contains (map (row_of longer) plan.looks) row ↔ Looks s t row) (node plan c)
            (subst (λ (rows : List LookRow). Contains rows row ↔ Looks s (term_at terms plan.node) row) (rows_same plan.looks (All-contains (IsBoundPlan (length terms)) plans plan b c).looks) (are.rows plan c row));
        all = λ shape h. let p = are.all shape h in (p.0, p.1, sym (node p.0 p.1) ∙ p.2);
      }

  words_same : (words : ClassWords) → AreClassWords terms words → AreClassWords longer words
  words_same words w = record {
    types_bound = reaches words.rdf_type w.types_bound;
    types = sym (same_term words.rdf_type w.types_bound) ∙ w.types;
    above_bound = reaches words.sub_class_of w.above_bound;
    above = sym (same_term words.sub_class_of w.above_bound) ∙ w.above;
  }

  -- what is kept of shapes by number stays so
  pub planned_longer : (planned : PlannedShapes) → ArePlanned terms planned → ArePlanned longer planned
  planned_longer planned are =
      let shapes = planned.bound.shapes in
      let same = shapes_same shapes are.bound in
      record {
        words = words_same planned.words are.words;
        bound = all_more (HoldsOfShape Within (length shapes)) (HoldsOfShape (λ n. n < length longer) (length shapes)) shapes are.bound (shape_more Within (λ n. n < length longer) reaches (length shapes));
        built = λ i d lt. shape_built Within (term_at terms) (term_at longer) same_term (length shapes) _ (are.bound i d lt) (are.built i d lt);
        bound_plans = plans_reach planned.plans are.bound_plans;
        plans = subst (λ (cs : List ReadShape). ArePlansOf longer cs planned.plans) same (record {
          places = λ plan c. let k = are.plans.places plan c in (k.0, k.1, k.2 ∙ same_term plan.node (All-contains (IsBoundPlan (length terms)) planned.plans plan are.bound_plans c).node);
          planned = λ s stand acyclic shallow. plans_same s planned.plans are.bound_plans (are.plans.planned s stand acyclic shallow);
        });
      }

  -- and the shapes read the same
  pub shapes_longer : (planned : PlannedShapes) → ArePlanned terms planned → named_shapes longer planned.bound.shapes ≡ named_shapes terms planned.bound.shapes
  shapes_longer planned are = sym (shapes_same planned.bound.shapes are.bound)
