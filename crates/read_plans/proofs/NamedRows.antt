-- The rows of a plan have no other terms than the shapes and the words of classes.
use Rattle.std.proofs.Common.{◌≡◌, ℕ, zero, suc, Bool, true, false, List, [], ◌∷◌, ◌++◌, length, refl, subst}
use Rattle.std.specs.Prelude.{Option, Some, None, MatchOption, slice_get, if◌then◌else◌}
use Rattle.std.specs.List.{AllByRecursion, Contains, flat_map}
use Rattle.std.proofs.lemmas.List.Elements.{All-contains}
use Rattle.collections.proofs.Members.{has_head, has_tail}
use Rattle.rdf_model.specs.declared.term.Term.{Term}
use Rattle.rdf_model.specs.Matching.{same_term}
use Rattle.shape_model.specs.Instances.{class_path}
use Rattle.shape_model.specs.Looks.{ByOutAny, LookRow, directed, directed_all}
use Rattle.shape_model.specs.Paths.{Also, Alternative, Inverse, Last, OneOrMore, Path, Paths, Predicate, Sequence, ZeroOrMore, ZeroOrOne}
use Rattle.shape_model.specs.Limits.{levels_limit}
use Rattle.shape_model.specs.Vocabulary.{rdf_type, sub_class_of, true_literal}
use Rattle.path_ast.specs.declared.path.Path as compiled
use Rattle.path_ast.specs.PathReadings.{HasEach, HoldsOfAll, HoldsOfEach, IsNamed, RowHasEach, defined_path, members, read_row}
use Rattle.shape_ast.specs.declared.component.TermComponent.{TermComponent}
use Rattle.shape_ast.specs.declared.component.TermComponent.TheVariants as by_term
use Rattle.shape_ast.specs.declared.constraint.Constraint.{Constraint}
use Rattle.shape_ast.specs.declared.constraint.Constraint.TheVariants.{ByList, ByShape, ByShapes, ByTerm}
use Rattle.shape_ast.specs.declared.shape.Shape.{Shape}
use Rattle.shape_ast.specs.declared.target.Target.{Target}
use Rattle.shape_ast.specs.declared.target.Target.TheVariants as targets
use Rattle.shape_ast.specs.Readings.{HoldsOfConstraint, HoldsOfShape, HoldsOfTarget, ReadShape, parameter, read_constraint, read_optional_path, read_shape, read_shapes, read_target}
use Rattle.read_plans.specs.NamedRows.{AreNamedWith, HoldsOfRow}
use Rattle.read_plans.specs.PathRows.{path_rows, some_rows, through_rows}
use Rattle.read_plans.specs.ShapeRows.{all_target_rows, constraint_rows, optional_rows, own_rows, plan_rows, referred_places, rows_with, shape_rows, target_rows, term_rows, value_way}
use Rattle.read_plans.proofs.Lists.{mapped_from}
use Rattle.read_plans.proofs.Plans.{of_place}

all_both : {X : Type 0} → (P : X → Type 0) (xs ys : List X) → AllByRecursion P xs → AllByRecursion P ys → AllByRecursion P (xs ++ ys)
all_both P [] ys a b = b
all_both P (x ∷ xs) ys a b = (a.0, all_both P xs ys a.1 b)

all_flat : {X Y : Type 0} → (P : Y → Type 0) (f : X → List Y) (xs : List X) → ((x : X) → Contains xs x → AllByRecursion P (f x)) → AllByRecursion P (flat_map f xs)
all_flat P f [] h = tt
all_flat P f (x ∷ xs) h = all_both P (f x) (flat_map f xs) (h x (has_head x xs)) (all_flat P f xs (λ y c. h y (has_tail x xs y c)))

module _ (Q : Term → Type 0) where
  abbrev IsWay : List Path → Type 0
  IsWay q = AllByRecursion (HoldsOfEach Q) q

  abbrev AreHeld : List LookRow → Type 0
  AreHeld rows = AllByRecursion (HoldsOfRow Q) rows

  reversed_held : (reversed : Bool) (p : Path) → HoldsOfEach Q p → HoldsOfEach Q (directed reversed p)
  reversed_held false p h = h
  reversed_held true p h = h

  way_more : (q : List Path) (p : Path) → IsWay q → HoldsOfEach Q p → IsWay (q ++ p ∷ [])
  way_more q p w h = all_both (HoldsOfEach Q) q (p ∷ []) w (h, tt)

  mutual
    path_held : (p : Path) (reversed : Bool) (q : List Path) → HoldsOfEach Q p → IsWay q → AreHeld (path_rows reversed p q)
    path_held (Predicate p) false q h w = (record { way = w; kind = h }, tt)
    path_held (Predicate p) true q h w = (record { way = w; kind = h }, tt)
    path_held (Inverse p) false q h w = path_held p true q h w
    path_held (Inverse p) true q h w = path_held p false q h w
    path_held (Sequence ps) reversed q h w = through_held ps reversed q h w
    path_held (Alternative ps) reversed q h w = some_held ps reversed q h w
    path_held (ZeroOrMore p) reversed q h w = path_held p reversed (q ++ ZeroOrMore (directed reversed p) ∷ []) h (way_more q (ZeroOrMore (directed reversed p)) w (reversed_held reversed p h))
    path_held (OneOrMore p) reversed q h w = path_held p reversed (q ++ ZeroOrMore (directed reversed p) ∷ []) h (way_more q (ZeroOrMore (directed reversed p)) w (reversed_held reversed p h))
    path_held (ZeroOrOne p) reversed q h w = path_held p reversed q h w

    through_held : (ps : Paths) (reversed : Bool) (q : List Path) → HoldsOfAll Q ps → IsWay q → AreHeld (through_rows reversed ps q)
    through_held (Last p) reversed q h w = path_held p reversed q h w
    through_held (Also p ps) false q h w =
        all_both (HoldsOfRow Q) (path_rows false p q) (through_rows false ps (q ++ p ∷ [])) (path_held p false q h.0 w) (through_held ps false (q ++ p ∷ []) h.1 (way_more q p w h.0))
    through_held (Also p ps) true q h w =
        let back = q ++ directed_all true ps ∷ [] in
        all_both (HoldsOfRow Q) (path_rows true p back) (through_rows true ps q) (path_held p true back h.0 (way_more q (directed_all true ps) w h.1)) (through_held ps true q h.1 w)

    some_held : (ps : Paths) (reversed : Bool) (q : List Path) → HoldsOfAll Q ps → IsWay q → AreHeld (some_rows reversed ps q)
    some_held (Last p) reversed q h w = path_held p reversed q h w
    some_held (Also p ps) reversed q h w = all_both (HoldsOfRow Q) (path_rows reversed p q) (some_rows reversed ps q) (path_held p reversed q h.0 w) (some_held ps reversed q h.1 w)

  -- what holds of each term of a compiled path holds of each of the path that it is
  together : (p : Path) (ps : List Path) → HoldsOfEach Q p → IsWay ps → HoldsOfAll Q (members p ps)
  together p [] h w = h
  together p (q ∷ qs) h w = (h, together q qs w.0 w.1)

  mutual
    defined_held : (p : compiled.Path Term) → HasEach Q p → HoldsOfEach Q (defined_path p)
    defined_held (compiled.Predicate p) h = h
    defined_held (compiled.Inverse' _ p) h = defined_held p h
    defined_held (compiled.Sequence' _ p _ ps) h = together (defined_path p) (read_row (λ t. t) ps) (defined_held p h.0) (row_held ps h.1)
    defined_held (compiled.Alternative' _ p _ ps) h = together (defined_path p) (read_row (λ t. t) ps) (defined_held p h.0) (row_held ps h.1)
    defined_held (compiled.ZeroOrMore' _ p) h = defined_held p h
    defined_held (compiled.OneOrMore' _ p) h = defined_held p h
    defined_held (compiled.ZeroOrOne' _ p) h = defined_held p h

    row_held : {m : _} → (ps : compiled.Row_of-Path Term m) → RowHasEach Q ps → IsWay (read_row (λ t. t) ps)
    row_held compiled.end_of-Path h = tt
    row_held (compiled.more_of-Path p ps) h = (defined_held p h.0, row_held ps h.1)

  -- it holds of the terms of a shape by which its rows are made
  pub record IsHeld (c : ReadShape) : Type 0 where
    pub path : (p : Path) → c.path ≡ Some p → HoldsOfEach Q p
    pub constraints : (k : Constraint Term) → Contains c.constraints k → Q (parameter k)
    pub declared : (t : Target Term) → Contains c.targets t → HoldsOfTarget Q t

  path_read : (o : Option (compiled.Path Term)) → MatchOption o (Unit {0}) (HasEach Q) → (p : Path) → read_optional_path (λ t. t) o ≡ Some p → HoldsOfEach Q p
  path_read None h p e = cc
  path_read (Some r) h p e = let same : defined_path r ≡ p = (let k = e in cc) in subst (HoldsOfEach Q) same (defined_held r h)

  constraint_read : (n : ℕ) (k : Constraint Term) → HoldsOfConstraint Q n k → Q (parameter (read_constraint (λ t. t) k))
  constraint_read n (ByTerm component q) h = h
  constraint_read n (ByList component q members) h = h.0
  constraint_read n (ByShape component q shape) h = h.0
  constraint_read n (ByShapes component q shapes) h = h.0

  target_read : (t : Target Term) → HoldsOfTarget Q t → HoldsOfTarget Q (read_target (λ t. t) t)
  target_read (targets.Node t) h = h
  target_read (targets.Class t) h = h
  target_read targets.ImplicitClass h = h
  target_read (targets.SubjectsOf t) h = h
  target_read (targets.ObjectsOf t) h = h

  shape_read : (n : ℕ) (s : Shape Term) → HoldsOfShape Q n s → IsHeld (read_shape (λ t. t) s)
  shape_read n s h = record {
    path = path_read s.path h.path;
    constraints = λ k c.
        let x = mapped_from (read_constraint (λ t. t)) s.constraints k c in
        subst (λ (l : Constraint Term). Q (parameter l)) x.2 (constraint_read n x.0 (All-contains (HoldsOfConstraint Q n) s.constraints x.0 h.constraints x.1));
    declared = λ t c.
        let x = mapped_from (read_target (λ t. t)) s.targets t c in
        subst (λ (u : Target Term). HoldsOfTarget Q u) x.2 (target_read x.0 (All-contains (HoldsOfTarget Q) s.targets x.0 h.targets x.1));
  }

  -- rows that stand or not
  if_held : (b : Bool) (rows : List LookRow) → AreHeld rows → AreHeld (if b then rows else [])
  if_held true rows h = h
  if_held false rows h = tt

  unless_held : (b : Bool) (rows : List LookRow) → AreHeld rows → AreHeld (if b then [] else rows)
  unless_held true rows h = tt
  unless_held false rows h = h

  module _ (types : Q rdf_type) (supers : Q sub_class_of) where
    class_held : (w : List Path) → IsWay w → AreHeld (path_rows false class_path w)
    class_held w a = path_held class_path false w (types, supers) a

    term_held : (k : TermComponent) (p : Term) (q w : List Path) → Q p → IsWay q → IsWay w → AreHeld (term_rows k p q w)
    term_held by_term.Class p q w h a b = class_held w b
    term_held by_term.Equals p q w h a b = (record { way = a; kind = h }, tt)
    term_held by_term.Disjoint p q w h a b = (record { way = a; kind = h }, tt)
    term_held by_term.LessThan p q w h a b = (record { way = a; kind = h }, tt)
    term_held by_term.LessThanOrEquals p q w h a b = (record { way = a; kind = h }, tt)
    term_held by_term.Closed p q w h a b = if_held (same_term p true_literal) (record { way = w; kind = ByOutAny } ∷ []) (record { way = b; kind = tt }, tt)
    term_held by_term.Datatype p q w h a b = tt
    term_held by_term.NodeKind p q w h a b = tt
    term_held by_term.MinCount p q w h a b = tt
    term_held by_term.MaxCount p q w h a b = tt
    term_held by_term.MinExclusive p q w h a b = tt
    term_held by_term.MinInclusive p q w h a b = tt
    term_held by_term.MaxExclusive p q w h a b = tt
    term_held by_term.MaxInclusive p q w h a b = tt
    term_held by_term.MinLength p q w h a b = tt
    term_held by_term.MaxLength p q w h a b = tt
    term_held by_term.UniqueLang p q w h a b = tt
    term_held by_term.QualifiedMinCount p q w h a b = tt
    term_held by_term.QualifiedMaxCount p q w h a b = tt
    term_held by_term.HasValue p q w h a b = tt

    constraint_held : (k : Constraint Term) (q w : List Path) → Q (parameter k) → IsWay q → IsWay w → AreHeld (constraint_rows q w k)
    constraint_held (ByTerm component p) q w h a b = term_held component p q w h a b
    constraint_held (ByList component p members) q w h a b = tt
    constraint_held (ByShape component p shape) q w h a b = tt
    constraint_held (ByShapes component p shapes) q w h a b = tt

    values_held : (o : Option Path) (q : List Path) → ((p : Path) → o ≡ Some p → HoldsOfEach Q p) → IsWay q → IsWay (value_way o q)
    values_held None q h w = w
    values_held (Some p) q h w = way_more q p w (h p refl)

    optional_held : (o : Option Path) (q : List Path) → ((p : Path) → o ≡ Some p → HoldsOfEach Q p) → IsWay q → AreHeld (optional_rows o q)
    optional_held None q h w = tt
    optional_held (Some p) q h w = path_held p false q (h p refl) w

    own_held : (c : ReadShape) → IsHeld c → (q : List Path) → IsWay q → AreHeld (own_rows c q)
    own_held c h q a =
        let w = value_way c.path q in
        let b = values_held c.path q h.path a in
        all_both (HoldsOfRow Q) (optional_rows c.path q) (flat_map (constraint_rows q w) c.constraints) (optional_held c.path q h.path a)
        (all_flat (HoldsOfRow Q) (constraint_rows q w) c.constraints (λ k i. constraint_held k q w (h.constraints k i) a b))

    with_held : (below : ℕ → List Path → List LookRow) → ((n : ℕ) (q : List Path) → IsWay q → AreHeld (below n q)) → (o : Option ReadShape) → ((c : ReadShape) → o ≡ Some c → IsHeld c)
        → (q : List Path) → IsWay q → AreHeld (rows_with below o q)
    with_held below each None h q a = tt
    with_held below each (Some c) h q a =
        let w = value_way c.path q in
        let b = values_held c.path q (h c refl).path a in
        let refs = flat_map (λ n. below n w) (referred_places c) in
        unless_held c.is_deactivated (own_rows c q ++ refs)
        (all_both (HoldsOfRow Q) (own_rows c q) refs (own_held c (h c refl) q a) (all_flat (HoldsOfRow Q) (λ n. below n w) (referred_places c) (λ n i. each n w b)))

    shape_held : (shapes : List ReadShape) → ((c : ReadShape) → Contains shapes c → IsHeld c) → (levels place : ℕ) (q : List Path) → IsWay q → AreHeld (shape_rows shapes levels place q)
    shape_held shapes each zero place q a = tt
    shape_held shapes each (suc levels) place q a =
        with_held (shape_rows shapes levels) (λ n w b. shape_held shapes each levels n w b) (slice_get shapes place) (λ c e. each c (of_place shapes place c e)) q a

    target_held : (t : Target Term) → HoldsOfTarget Q t → AreHeld (target_rows t)
    target_held (targets.Node t) h = tt
    target_held (targets.Class t) h = class_held [] tt
    target_held targets.ImplicitClass h = class_held [] tt
    target_held (targets.SubjectsOf p) h = (record { way = tt; kind = h }, tt)
    target_held (targets.ObjectsOf p) h = (record { way = tt; kind = h }, tt)

    targets_held : (o : Option ReadShape) → ((c : ReadShape) → o ≡ Some c → IsHeld c) → AreHeld (all_target_rows o)
    targets_held None h = tt
    targets_held (Some c) h = all_flat (HoldsOfRow Q) target_rows c.targets (λ t i. target_held t ((h c refl).declared t i))

    plan_held : (shapes : List ReadShape) → ((c : ReadShape) → Contains shapes c → IsHeld c) → (place : ℕ) → AreHeld (plan_rows shapes place)
    plan_held shapes each place =
        all_both (HoldsOfRow Q) (shape_rows shapes levels_limit place []) (all_target_rows (slice_get shapes place)) (shape_held shapes each levels_limit place [] tt)
        (targets_held (slice_get shapes place) (λ c e. each c (of_place shapes place c e)))

pub plan_named : (shapes : List (Shape Term)) (place : ℕ) → AreNamedWith shapes (plan_rows (read_shapes shapes) place)
plan_named shapes place names named types supers =
    plan_held (IsNamed names) types supers (read_shapes shapes) (λ c i.
    let x = mapped_from (read_shape (λ t. t)) shapes c i in
    subst (λ (r : ReadShape). IsHeld (IsNamed names) r) x.2 (shape_read (IsNamed names) (length shapes) x.0 (All-contains (HoldsOfShape (IsNamed names) (length shapes)) shapes x.0 named x.1)))
    place
