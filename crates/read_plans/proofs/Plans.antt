-- The rows of a compiled shape are those of its node in the shapes graph.
use Rattle.std.proofs.Common.{◌≡◌, ◌∙◌, ℕ, zero, suc, Bool, true, false, List, [], ◌∷◌, ◌++◌, length, refl, sym, ap, subst, inl, inr}
use Rattle.std.specs.Prelude.{◌↔◌, Option, Some, None, slice_get, if◌then◌else◌}
use Rattle.std.specs.List.{All, Contains, flat_map}
use Rattle.std.proofs.lemmas.List.{length-map}
use Rattle.std.proofs.lemmas.List.Elements.{All-contains, Contains-append_cases, Contains-append_left, Contains-append_right}
use Rattle.collections.proofs.Members.{has_equal, has_tail}
use Rattle.rdf_model.specs.declared.term.Term.{Term}
use Rattle.rdf_model.specs.declared.triple.Triple.{Triple}
use Rattle.shape_model.specs.Instances.{class_path}
use Rattle.shape_model.specs.Looks.{ByIn, ByOut, ByOutAny, LookRow, PathLook}
use Rattle.shape_model.specs.Paths.{Path}
use Rattle.shape_model.specs.Readings.{IsAcyclic, IsShallow, Reading, SameReading, reading}
use Rattle.shape_model.specs.ShapeLooks.{Looks, ShapeLookDepth, ShapeLookWith, TargetLook, ValueWay}
use Rattle.shape_model.specs.Vocabulary.{ShClass, ShClosed, ShDeactivated, ShTargetClass, ShTargetObjectsOf, ShTargetSubjectsOf, true_literal}
use Rattle.shape_model.proofs.Surroundings.{compared_same, reading_back, refers_same}
use Rattle.shape_ast.specs.declared.constraint.Constraint.{Constraint}
use Rattle.shape_ast.specs.declared.constraint.Constraint.TheVariants.{ByList, ByShape, ByShapes, ByTerm}
use Rattle.shape_ast.specs.declared.shape.Shape.{Shape}
use Rattle.shape_ast.specs.declared.target.Target.{Target}
use Rattle.shape_ast.specs.declared.target.Target.TheVariants as targets
use Rattle.shape_ast.specs.Readings.{HoldsOfConstraint, HoldsOfShape, ReadShape, read_constraint, read_shape, read_shapes}
use Rattle.shape_ast.proofs.Agreeing.{same_active, same_but_path, with_path}
use Rattle.shape_ast.specs.Standing.{IsAt, IsLinked, SameShape, StandFor, StandsIn, shape_reading}
use Rattle.read_plans.specs.Laws.{ListLooks}
use Rattle.shape_model.specs.Limits.{levels_limit}
use Rattle.read_plans.specs.ShapeRows.{all_target_rows, constraint_rows, optional_rows, own_rows, plan_rows, referred_places, rows_with, shape_rows, target_rows, value_way}
use Rattle.read_plans.proofs.Depths.{look_depth}
use Rattle.read_plans.proofs.Lists.{flat_from, flat_to, listed_both, listed_one, mapped_from, none_in}
use Rattle.read_plans.proofs.OwnLooks.{IsOwn, constraints_from, constraints_to, is_way, optional_listed, way_is}
use Rattle.read_plans.proofs.PathLooks.{path_listed}
use Rattle.read_plans.proofs.Referred.{IsWithin, named_refers, place_named}

-- two readings that a validation can't tell apart have the same rows
module _ (y z : Reading) (e : SameReading y z) where
  way_same : (q w : List Path) → ValueWay y q w → ValueWay z q w
  way_same q w = elim [ inl i ↦ inl (e.is_node_shape.0 i.0, i.1) | inr i ↦ inr (i.0, (e.path i.0).0 i.1, i.2) ]

  pub with_same : (look : Term → List Path → LookRow → Type 0) (q : List Path) (row : LookRow) → ShapeLookWith look y q row → ShapeLookWith look z q row
  with_same look q row h = (
    λ d. h.0 ((e.has ShDeactivated true_literal refl).1 d),
    elim h.1 [
      | inl i ↦ inl (i.0, (e.path i.0).0 i.1, i.2)
      | inr (inl i) ↦ inr (inl (i.0, i.1, (e.has ShClass i.0 tt).0 i.2, way_same q i.1 i.3, i.4))
      | inr (inr (inl i)) ↦ inr (inr (inl (i.0, compared_same y z e i.0 i.1, i.2)))
      | inr (inr (inr (inl i))) ↦ inr (inr (inr (inl ((e.has ShClosed true_literal tt).0 i.0, (i.1.0, way_same q i.1.0 i.1.1, i.1.2)))))
      | inr (inr (inr (inr i))) ↦ inr (inr (inr (inr (i.0, i.1, refers_same y z e i.0 i.2, way_same q i.1 i.3, i.4))))
    ],
  )

  pub target_same : (row : LookRow) → TargetLook y row → TargetLook z row
  target_same row = elim [
    | inl i ↦ inl (i.0, (e.has ShTargetClass i.0 tt).0 i.1, i.2)
    | inr (inl i) ↦ inr (inl (e.is_class.0 i.0, i.1))
    | inr (inr (inl i)) ↦ inr (inr (inl (i.0, (e.has ShTargetSubjectsOf i.0 tt).0 i.1, i.2)))
    | inr (inr (inr i)) ↦ inr (inr (inr (i.0, (e.has ShTargetObjectsOf i.0 tt).0 i.1, i.2)))
  ]

-- so have two readings of a shape that agree as a validation asks, since a deactivated shape has none of its results
module _ (y z : Reading) (e : SameShape y z) (look : Term → List Path → LookRow → Type 0) (q : List Path) (row : LookRow) where
  with_to : ShapeLookWith look y q row → ShapeLookWith look z q row
  with_to h = with_same y z (same_active y z e h.0) look q row h

  with_from : ShapeLookWith look z q row → ShapeLookWith look y q row
  with_from h = with_same z y (reading_back y z (same_active y z e (λ d. h.0 ((e.has ShDeactivated true_literal refl).0 d)))) look q row h

pub of_place : {X : Type 0} → (xs : List X) (n : ℕ) (x : X) → slice_get xs n ≡ Some x → Contains xs x
of_place [] n x e = cc
of_place (y ∷ ys) zero x e = has_equal y ys x (cc)
of_place (y ∷ ys) (suc n) x e = has_tail y ys x (of_place ys n x e)

module _ (shapes : List ReadShape) where
  -- a shape whose rows are listed is there
  there_by : (below : ℕ → List Path → List LookRow) (k : ℕ) (w : List Path) (row : LookRow) (o : Option ReadShape) → slice_get shapes k ≡ o → Contains (rows_with below o w) row → (m : Term) × IsAt shapes k m
  there_by below k w row None e c = absurd (none_in row c)
  there_by below k w row (Some x) e c = (x.node, (x, e, refl))

  there : (n k : ℕ) (w : List Path) (row : LookRow) → Contains (shape_rows shapes n k w) row → (m : Term) × IsAt shapes k m
  there zero k w row c = absurd (none_in row c)
  there (suc n) k w row c = there_by (shape_rows shapes n) k w row (slice_get shapes k) refl c

  module _ (c : ReadShape) (each : (k : Constraint Term) → Contains c.constraints k → IsLinked shapes k) (within : (k : Constraint Term) → Contains c.constraints k → IsWithin (length shapes) k)
      (below : ℕ → List Path → List LookRow) (look : Term → List Path → LookRow → Type 0)
      (is_there : (n : ℕ) (w : List Path) (row : LookRow) → Contains (below n w) row → (m : Term) × IsAt shapes n m)
      (same : (n : ℕ) (m : Term) → IsAt shapes n m → (w : List Path) (row : LookRow) → Contains (below n w) row ↔ look m w row)
      (q : List Path) (row : LookRow) where
    abbrev Said : Reading
    Said = shape_reading shapes c

    abbrev w : List Path
    w = value_way c.path q

    abbrev refs : List LookRow
    refs = flat_map (λ n. below n w) (referred_places c)

    abbrev named : List LookRow
    named = flat_map (constraint_rows q w) c.constraints

    active_from : (is_active : (c.is_deactivated ≡ true) → ⊥) → Contains (own_rows c q ++ refs) row → ShapeLookWith look Said q row
    active_from is_active i = (
      λ d. is_active d.0,
      elim (Contains-append_cases (own_rows c q) refs row i) [
        | inl d ↦ elim (Contains-append_cases (optional_rows c.path q) named row d) [
          | inl k ↦ inl ((optional_listed c.path q row).0 k)
          | inr k ↦ elim (constraints_from shapes c q row k) [
            | inl j ↦ inr (inl (j.0, w, j.1, is_way c.path q, j.2))
            | inr (inl j) ↦ inr (inr (inl j))
            | inr (inr j) ↦ inr (inr (inr (inl (j.0, (w, is_way c.path q, j.1)))))
          ]
        ]
        | inr d ↦ (let k = flat_from (λ (n : ℕ). below n w) (referred_places c) row d in
            let m = is_there k.0 w row k.2 in
            inr (inr (inr (inr (m.0, w, named_refers shapes c each within k.0 m.0 k.1 m.1, is_way c.path q, (same k.0 m.0 m.1 w row).0 k.2)))))
      ],
    )

    to_own : IsOwn shapes c q row → Contains (own_rows c q ++ refs) row
    to_own i = Contains-append_left (own_rows c q) refs row (Contains-append_right (optional_rows c.path q) named row (constraints_to shapes c q row i))

    active_to : ShapeLookWith look Said q row → Contains (own_rows c q ++ refs) row
    active_to h = elim h.1 [
      | inl i ↦ Contains-append_left (own_rows c q) refs row (Contains-append_left (optional_rows c.path q) named row ((optional_listed c.path q row).1 i))
      | inr (inl i) ↦ to_own (inl (i.0, i.2, subst (λ (x : List Path). PathLook false class_path x row) (way_is c.path q i.1 i.3) i.4))
      | inr (inr (inl i)) ↦ to_own (inr (inl i))
      | inr (inr (inr (inl i))) ↦ to_own (inr (inr (i.0, i.1.2 ∙ ap (λ (x : List Path). record { way = x; kind = ByOutAny }) (way_is c.path q i.1.0 i.1.1))))
      | inr (inr (inr (inr i))) ↦ (let k = place_named shapes c each within i.0 i.2 in
          Contains-append_right (own_rows c q) refs row
          (flat_to (λ (n : ℕ). below n w) (referred_places c) k.0 row k.1 ((same k.0 i.0 k.2 w row).1 (subst (λ (x : List Path). look i.0 x row) (way_is c.path q i.1 i.3) i.4))))
    ]

    listed_by : (b : Bool) → c.is_deactivated ≡ b → Contains (if b then [] else own_rows c q ++ refs) row ↔ ShapeLookWith look Said q row
    listed_by true e = (λ k. absurd (none_in row k), λ k. absurd (k.0 (e, refl)))
    listed_by false e = (λ k. active_from (λ d. let h = sym e ∙ d in cc) k, λ k. active_to k)

    pub with_listed : Contains (rows_with below (Some c) q) row ↔ ShapeLookWith look Said q row
    with_listed = listed_by c.is_deactivated refl

  -- the rows of targets
  module _ (c : ReadShape) (row : LookRow) where
    by_target : (t : Target Term) → Contains c.targets t → Contains (target_rows t) row → TargetLook (shape_reading shapes c) row
    by_target (targets.Node t) i h = absurd (none_in row h)
    by_target (targets.Class t) i h = inl (t, i, (path_listed class_path false [] row).0 h)
    by_target targets.ImplicitClass i h = inr (inl (i, (path_listed class_path false [] row).0 h))
    by_target (targets.SubjectsOf p) i h = inr (inr (inl (p, i, (listed_one (record { way = []; kind = ByOut p }) row).0 h)))
    by_target (targets.ObjectsOf p) i h = inr (inr (inr (p, i, (listed_one (record { way = []; kind = ByIn p }) row).0 h)))

    to_targets : TargetLook (shape_reading shapes c) row → Contains (flat_map target_rows c.targets) row
    to_targets = elim [
      | inl i ↦ flat_to target_rows c.targets (targets.Class i.0) row i.1 ((path_listed class_path false [] row).1 i.2)
      | inr (inl i) ↦ flat_to target_rows c.targets targets.ImplicitClass row i.0 ((path_listed class_path false [] row).1 i.1)
      | inr (inr (inl i)) ↦ flat_to target_rows c.targets (targets.SubjectsOf i.0) row i.1 ((listed_one (record { way = []; kind = ByOut i.0 }) row).1 i.2)
      | inr (inr (inr i)) ↦ flat_to target_rows c.targets (targets.ObjectsOf i.0) row i.1 ((listed_one (record { way = []; kind = ByIn i.0 }) row).1 i.2)
    ]

    pub targets_listed : Contains (flat_map target_rows c.targets) row ↔ TargetLook (shape_reading shapes c) row
    targets_listed = (λ i. let k = flat_from target_rows c.targets row i in by_target k.0 k.1 k.2, to_targets)

  module _ (s : List Triple) (stand : StandFor shapes s) (within : (c : ReadShape) → Contains shapes c → (k : Constraint Term) → Contains c.constraints k → IsWithin (length shapes) k) where
    rows_listed : (n place : ℕ) (c : ReadShape) → slice_get shapes place ≡ Some c → (q : List Path) (row : LookRow) → Contains (shape_rows shapes n place q) row ↔ ShapeLookDepth n (reading s) c.node q row
    rows_listed zero place c at q row = (λ k. absurd (none_in row k), λ k. absurd k)
    rows_listed (suc n) place c at q row =
        let i = of_place shapes place c at in
        let look = ShapeLookDepth n (reading s) in
        let each : (k : Constraint Term) → Contains c.constraints k → IsLinked shapes k = (λ k d. All-contains (IsLinked shapes) c.constraints k (stand.linked c i) d) in
        let here = with_listed c each (within c i) (shape_rows shapes n) look (there n)
        (λ k m at_m w r. subst (λ (t : Term). Contains (shape_rows shapes n k w) r ↔ look t w r) at_m.2 (rows_listed n k at_m.0 at_m.1 w r)) q row in
        let e = stand.each c i in (
          λ k. with_from (reading s c.node) (shape_reading shapes c) e look q row (here.0 (subst (λ (o : Option ReadShape). Contains (rows_with (shape_rows shapes n) o q) row) at k)),
          λ k. subst (λ (o : Option ReadShape). Contains (rows_with (shape_rows shapes n) o q) row) (sym at) (here.1 (with_to (reading s c.node) (shape_reading shapes c) e look q row k)),
        )

    pub plan_listed : IsAcyclic s → IsShallow levels_limit s → (place : ℕ) (c : ReadShape) → slice_get shapes place ≡ Some c → (row : LookRow) → Contains (plan_rows shapes place) row ↔ Looks s c.node row
    plan_listed acyclic shallow place c at row =
        let i = of_place shapes place c at in
        let y = with_path (reading s c.node) (shape_reading shapes c) in
        let e = same_but_path (reading s c.node) (shape_reading shapes c) (stand.each c i) in
        let results = rows_listed levels_limit place c at [] row in
        let deep = look_depth s acyclic levels_limit shallow c.node [] row in
        let aims = targets_listed c row in
        listed_both (shape_rows shapes levels_limit place []) (all_target_rows (slice_get shapes place)) row
        (λ k. deep.0 (results.0 k), λ k. results.1 (deep.1 k)) (
          λ k. target_same (shape_reading shapes c) y (reading_back y (shape_reading shapes c) e) row (aims.0 (subst (λ (o : Option ReadShape). Contains (all_target_rows o) row) at k)),
          λ k. subst (λ (o : Option ReadShape). Contains (all_target_rows o) row) (sym at) (aims.1 (target_same y (shape_reading shapes c) e row k)),
        )

-- the places that a constraint of a compiled shape names are there, whatever holds of its terms beside
module _ (Q : Term → Type 0) (shapes : List (Shape Term)) (held : All (HoldsOfShape Q (length shapes)) shapes) where
  as_many : length (read_shapes shapes) ≡ length shapes
  as_many = length-map shapes (read_shape (λ t. t))

  read_within : (k : Constraint Term) → HoldsOfConstraint Q (length shapes) k → IsWithin (length shapes) (read_constraint (λ t. t) k)
  read_within (ByTerm component p) h = tt
  read_within (ByList component p members) h = tt
  read_within (ByShape component p shape) h = tt
  read_within (ByShapes component p places) h = h.1

  pub all_within : (c : ReadShape) → Contains (read_shapes shapes) c → (k : Constraint Term) → Contains c.constraints k → IsWithin (length (read_shapes shapes)) k
  all_within c i k d =
      let x = mapped_from (read_shape (λ t. t)) shapes c i in
      let d' = subst (λ (r : ReadShape). Contains r.constraints k) (sym x.2) d in
      let j = mapped_from (read_constraint (λ t. t)) x.0.constraints k d' in
      let holds = All-contains (HoldsOfShape Q (length shapes)) shapes x.0 held x.1 in
      let h = All-contains (HoldsOfConstraint Q (length shapes)) x.0.constraints j.0 holds.constraints j.1 in
      subst (λ (n : ℕ). IsWithin n k) (sym as_many) (subst (λ (l : Constraint Term). IsWithin (length shapes) l) j.2 (read_within j.0 h))

pub plan_lists : (shapes : List (Shape Term)) (place : ℕ) → ListLooks shapes place (plan_rows (read_shapes shapes) place)
plan_lists shapes place s compiled acyclic shallow c at row =
    plan_listed (read_shapes shapes) s compiled.stand (all_within (StandsIn s) shapes compiled.within) acyclic shallow place c at row
