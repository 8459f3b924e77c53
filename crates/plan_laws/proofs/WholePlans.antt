-- The plans of compiled shapes, through all references.
use Rattle.std.proofs.Common.{◌≡◌, ℕ, zero, suc, ◌<◌, ◌≤◌, Bool, true, false, List, [], ◌∷◌, ◌++◌, length, refl, sym, ap, subst, arith, inl, inr}
use Rattle.std.specs.Prelude.{◌⊎◌, Option, Some, None, slice_get, if◌then◌else◌}
use Rattle.std.specs.List.{Contains, flat_map}
use Rattle.std.proofs.lemmas.List.{length-append, length-map}
use Rattle.std.proofs.lemmas.List.Elements.{All-contains}
use Rattle.rdf_model.specs.declared.term.Term.{Term}
use Rattle.rdf_model.specs.declared.triple.Triple.{Triple}
use Rattle.shape_model.specs.Limits.{levels_limit, looks_limit}
use Rattle.shape_model.specs.Paths.{Path}
use Rattle.shape_model.specs.Readings.{IsShallow, References, reading}
use Rattle.shape_rules.specs.Broken.{IsWellFormed}
use Rattle.shape_rules.specs.Rows.{row}
use Rattle.shape_sizes.specs.Sizes.{IsLookWeight, WeighsBy}
use Rattle.shape_sizes.specs.Sizes as rules
use Rattle.shape_properties.specs.Syntax.{IsShape}
use Rattle.shape_rules.proofs.Shallow.{shallow}
use Rattle.shape_ast.specs.declared.shape.Shape.{Shape}
use Rattle.shape_ast.specs.Readings.{HoldsOfShape, ReadShape, read_shape, read_shapes}
use Rattle.shape_ast.specs.Standing.{AreCompiled, IsAt, StandFor, StandsIn}
use Rattle.shape_ast.specs.Once.{IsOnce}
use Rattle.shape_properties.proofs.Defined.{shape_same}
use Rattle.read_plans.specs.declared.fault.PlanFault.TheVariants.{Memory, TooWide}
use Rattle.read_plans.specs.ShapeRows.{all_target_rows, own_rows, referred_places, rows_with, shape_rows, target_rows, value_way}
use Rattle.read_plans.proofs.Lists.{mapped_from}
use Rattle.read_plans.proofs.Plans.{all_within, of_place}
use Rattle.plan_laws.specs.Numbers.{NoneTooWide, OnlyMemory, PlanNumber, plan_number}
use Rattle.plan_laws.proofs.PlanNumbers.{IsInside, counted, off_from, off_to, own_looks, refers_to, target_looks}
use Rattle.plan_laws.proofs.Sums.{flat_total, total}

module _ (s : List Triple) (well : IsWellFormed s) (shapes : List ReadShape) (stand : StandFor shapes s)
    (once : (c : ReadShape) → Contains shapes c → IsOnce c) (inside : (c : ReadShape) → Contains shapes c → IsInside (length shapes) c) where
  abbrev Weight : ℕ → Term → ℕ → Type 0
  Weight depth n k = WeighsBy (IsLookWeight s) s depth n k

  abbrev NoChain : ℕ → Term → Type 0
  NoChain depth n = (ms : List Term) → length ms ≡ depth → References (reading s) n ms → ⊥

  -- one reference more
  module _ (depth : ℕ) (c : ReadShape) (i : Contains shapes c) (q : List Path) where
    abbrev below : ℕ → ℕ
    below n = length (shape_rows shapes depth n (value_way c.path q))

    step : ((n : ℕ) (t : Term) → Contains (referred_places c) n → IsAt shapes n t → Weight depth t (below n)) → (b : Bool) → c.is_deactivated ≡ b
        → Weight (suc depth) c.node (length (if b then [] else own_rows c q ++ flat_map (λ n. shape_rows shapes depth n (value_way c.path q)) (referred_places c)))
    step each true e =
        let off = off_from s well shapes stand c i (once c i) (inside c i) e in
        (0, [], 0, inl (off, refl), inl (off, refl), refl, refl)
    step each false e =
        let on : (rules.IsDeactivated s c.node → ⊥) = (λ h. let k = off_to s well shapes stand c i (once c i) (inside c i) h in cc) in
        let all = counted s well shapes stand c i (once c i) (inside c i) (Weight depth) below each in
        let split = length-append (own_rows c q) (flat_map (λ n. shape_rows shapes depth n (value_way c.path q)) (referred_places c)) in
        let sum = flat_total (λ n. shape_rows shapes depth n (value_way c.path q)) (referred_places c) in (
          length (own_rows c q),
          all.0,
          total below (referred_places c),
          inr (on, own_looks s well shapes stand c i (once c i) (inside c i) on q),
          inr (on, all.1),
          all.2,
          omega (arith, split, sum),
        )

  results : (depth place : ℕ) (c : ReadShape) → slice_get shapes place ≡ Some c → NoChain depth c.node → (q : List Path) → Weight depth c.node (length (shape_rows shapes depth place q))
  results zero place c at none q = absurd (none [] refl tt)
  results (suc depth) place c at none q =
      let i = of_place shapes place c at in
      subst (λ (o : Option ReadShape). Weight (suc depth) c.node (length (rows_with (shape_rows shapes depth) o q))) (sym at)
      (step depth c i q (λ n t d m. subst (λ (u : Term). Weight depth u (length (shape_rows shapes depth n (value_way c.path q)))) m.2
      (results depth n m.0 m.1 (λ ms e h. none (m.0.node ∷ ms) (ap suc e) (refers_to s well shapes stand c i (once c i) (inside c i) n m.0.node d (m.0, m.1, refl), h)) (value_way c.path q)))
      c.is_deactivated refl)

  looks : (depth place : ℕ) (c : ReadShape) → IsShallow depth s → slice_get shapes place ≡ Some c → rules.HasLooks s c.node (length (shape_rows shapes depth place [] ++ all_target_rows (slice_get shapes place)))
  looks depth place c short at =
      let i = of_place shapes place c at in
      let aims : length (all_target_rows (slice_get shapes place)) ≡ length (flat_map target_rows c.targets) = ap (λ (o : Option ReadShape). length (all_target_rows o)) at in
      let split = length-append (shape_rows shapes depth place []) (all_target_rows (slice_get shapes place)) in (
        length (shape_rows shapes depth place []),
        length (flat_map target_rows c.targets),
        (depth, results depth place c at (short c.node) []),
        target_looks s well shapes stand c i (once c i) (inside c i),
        omega (arith, aims, split),
      )

-- the places that compiled shapes name are there
inside_read : (shapes : List (Shape Term)) (s : List Triple) → AreCompiled shapes s → (c : ReadShape) → Contains (read_shapes shapes) c → IsInside (length (read_shapes shapes)) c
inside_read shapes s compiled c i =
    let x = mapped_from (read_shape (λ t. t)) shapes c i in
    let many : length shapes ≡ length (read_shapes shapes) = sym (length-map shapes (read_shape (λ t. t))) in
    let holds = subst (λ (n : ℕ). HoldsOfShape (StandsIn s) n x.0) many (All-contains (HoldsOfShape (StandsIn s) (length shapes)) shapes x.0 compiled.within x.1) in
    subst (IsInside (length (read_shapes shapes))) x.2 (record {
      constraints = λ k d. all_within (StandsIn s) shapes compiled.within c i k (subst (λ (r : ReadShape). Contains r.constraints k) x.2 d);
      properties = holds.properties;
      qualified = holds.qualified;
      siblings = holds.siblings;
    })

pub plan_numbers : PlanNumber
plan_numbers s shapes read place c at =
    looks s read.well_formed (read_shapes shapes) read.compiled.stand read.once (inside_read shapes s read.compiled) levels_limit place c
    (shallow s read.well_formed) at

no_place : (shapes : List ReadShape) (depth place : ℕ) → slice_get shapes place ≡ None → length (shape_rows shapes depth place [] ++ all_target_rows (slice_get shapes place)) ≡ 0
no_place shapes zero place e = ap (λ (o : Option ReadShape). length (all_target_rows o)) e
no_place shapes (suc depth) place e = ap (λ (o : Option ReadShape). length (rows_with (shape_rows shapes depth) o [] ++ all_target_rows o)) e

at_most : (k n : ℕ) → (n < k → ⊥) → k ≤ n
at_most k n h = elim (le_or_lt k n) [ inl l ↦ l | inr l ↦ absurd (h l) ]
  where
    le_or_lt : (i j : ℕ) → (i ≤ j) ⊎ (j < i)
    le_or_lt zero j = inl (omega arith)
    le_or_lt (suc i) zero = inr (omega arith)
    le_or_lt (suc i) (suc j) = elim (le_or_lt i j) [ inl h ↦ inl (omega (arith, h)) | inr h ↦ inr (omega (arith, h)) ]

-- no rule is broken, so rule 40 isn't
few_looks : (s : List Triple) → IsWellFormed s → (n : Term) (k : ℕ) → IsShape s n → rules.HasLooks s n k → k ≤ looks_limit
few_looks s well n k shape h = at_most k looks_limit (λ l. well (row n 40 None) (inr (λ r b. well r (inl b), inr (inr ((shape, (k, h, l)), refl)))))

pub none_wide : NoneTooWide
none_wide s shapes read place = elim (slice_get (read_shapes shapes) place) as (λ (o : Option ReadShape). slice_get (read_shapes shapes) place ≡ o → plan_number shapes place ≤ looks_limit) [
  | None ↦ λ e. let none : plan_number shapes place ≡ 0 = no_place (read_shapes shapes) levels_limit place e in omega (arith, none)
  | Some c ↦ λ e.
      let shape = (shape_same s c.node).1 (read.compiled.stand.are_shapes c (of_place (read_shapes shapes) place c e)) in
      few_looks s read.well_formed c.node (plan_number shapes place) shape (plan_numbers s shapes read place c e)
] refl

pub only_memory : OnlyMemory
only_memory s shapes read place Memory stopped = refl
only_memory s shapes read place (TooWide count) stopped = let few = none_wide s shapes read place in let many = stopped.1 in absurd (omega (arith, few, many))
