-- Results about the value nodes to which the answer is no, and a search among ascending numbers.
use Rattle.std.proofs.Common.{◌≡◌, ◌∙◌, ℕ, zero, suc, ◌+◌, ◌<◌, ◌≤◌, Bool, true, false, List, [], ◌∷◌, ◌++◌, length, get_or, refl, sym, ap, arith, subst, inl, inr}
use Rattle.std.specs.Prelude.{nat_lt}
use Rattle.std.specs.List.{Contains}
use Rattle.std.specs.Ordering.{nat_cmp, ordering_index}
use Rattle.std.specs.declared.cmp.Ordering.{Ordering}
use Rattle.std.specs.FinMap.{nat_cmp-IsAntisymmetric}
use Rattle.std.specs.List.Sorted.{IsNonDecreasingBy, IsPartitionPoint}
use Rattle.std.proofs.lemmas.Grind.{get_or_default_zero}
use Rattle.std.specs.Cmp.{nat_cmp_is}
use Rattle.std.specs.declared.cmp.Ordering.TheVariants.{Less, Equal, Greater}
use Rattle.std.proofs.lemmas.Bool.Decides.{nat_tests}
use Rattle.std.proofs.lemmas.List.Elements.{Contains-get_or, Contains-append_left, Contains-append_right, Contains-append_cases}
use Rattle.collections.specs.Ordered.{IsAscending}
use Rattle.collections.proofs.Members.{below, has_cases}
use Rattle.rdf_model.specs.declared.term.Term.{Term}
use Rattle.rdf_model.specs.Numbers.{term_at, IsNumbering}
use Rattle.shape_model.specs.declared.result_row.ResultRow.{ResultRow}
use Rattle.shape_model.specs.Components.{Finding, ForEach, found_at}
use Rattle.component_rows.specs.Listed.{Collects, at_nodes}
use Rattle.component_rows.specs.Nodes.{AreNodes, HasNode, IsAnswered}
use Rattle.component_rows.proofs.Collecting.{mapped_from, mapped_to, collects_same, collects_none}

-- the order of numbers is theirs
below_at : (a b : ℕ) (t u : Bool) → nat_lt a b ≡ t → nat_lt b a ≡ u → nat_cmp a b ≡ Less → a < b
below_at a b true u e f h = grind (arith, nat_tests)
below_at a b false true e f h = let more : b < a = grind (arith, nat_tests) in let greater : Greater ≡ nat_cmp a b = nat_cmp_is a b Greater more in cc (greater, h)
below_at a b false false e f h = let same : a ≡ b = grind (arith, nat_tests) in let equal : Equal ≡ nat_cmp a b = nat_cmp_is a b Equal same in cc (equal, h)

less_from : (a b : ℕ) → nat_cmp a b ≡ Less → a < b
less_from a b = below_at a b (nat_lt a b) (nat_lt b a) refl refl

-- ascending numbers rise from place to place
rising : (xs : List ℕ) → IsAscending nat_cmp xs → (i j : ℕ) → i < j → j < length xs → get_or xs i 0 < get_or xs j 0
rising [] s i j h k = absurd (omega arith)
rising (x ∷ xs) s i zero h k = absurd (omega arith)
rising (x ∷ xs) s zero (suc j) h k = less_from x (get_or xs j 0) (below nat_cmp x xs (get_or xs j 0) s.0 (Contains-get_or xs j 0 (omega arith)))
rising (x ∷ xs) s (suc i) (suc j) h k = rising xs s.1 i j (omega arith) (omega arith)

-- each stands at one place
pub at_one_place : (xs : List ℕ) → IsAscending nat_cmp xs → (i j : ℕ) → i < length xs → j < length xs → get_or xs i 0 ≡ get_or xs j 0 → i ≡ j
at_one_place xs s i j h k e = by_tests (nat_lt i j) (nat_lt j i) refl refl
  where
    by_tests : (t u : Bool) → nat_lt i j ≡ t → nat_lt j i ≡ u → i ≡ j
    by_tests true u a b = let lt : i < j = grind (arith, nat_tests) in absurd (let up = rising xs s i j lt k in omega (arith, e, up))
    by_tests false true a b = let lt : j < i = grind (arith, nat_tests) in absurd (let up = rising xs s j i lt h in omega (arith, e, up))
    by_tests false false a b = grind (arith, nat_tests)

-- where a number of a list stands
pub place_in : (xs : List ℕ) (x : ℕ) → Contains xs x → (i : ℕ) × (i < length xs) × (get_or xs i 0 ≡ x)
place_in [] x c = absurd (omega arith)
place_in (y ∷ ys) x c = elim (has_cases y ys x c) [
  | inl e ↦ (0, omega arith, e)
  | inr d ↦ (let k = place_in ys x d in let lt = k.1 in (suc k.0, omega (arith, lt), k.2))
]

equal_from : (a b : ℕ) → nat_cmp a b ≡ Equal → a ≡ b
equal_from a b h = nat_cmp-IsAntisymmetric a b h

greater_from : (a b : ℕ) (t u : Bool) → nat_lt a b ≡ t → nat_lt b a ≡ u → nat_cmp a b ≡ Greater → b < a
greater_from a b true u e f h = let lt : a < b = grind (arith, nat_tests) in let less : Less ≡ nat_cmp a b = nat_cmp_is a b Less lt in cc (less, h)
greater_from a b false true e f h = grind (arith, nat_tests)
greater_from a b false false e f h = let same : a ≡ b = grind (arith, nat_tests) in let equal : Equal ≡ nat_cmp a b = nat_cmp_is a b Equal same in cc (equal, h)

-- how numbers stand to x never falls along ascending ones
most : (c : Ordering) → ordering_index c ≤ 2
most Less = omega arith
most Equal = omega arith
most Greater = omega arith

at_most_one : (a x : ℕ) (t : Bool) → nat_lt a x ≡ t → a ≤ x → ordering_index (nat_cmp a x) ≤ 1
at_most_one a x true e h = let lt : a < x = grind (arith, nat_tests) in let l : ordering_index (nat_cmp a x) ≡ 0 = ap ordering_index (sym (nat_cmp_is a x Less lt)) in omega (arith, l)
at_most_one a x false e h = let same : a ≡ x = grind (arith, nat_tests) in let l : ordering_index (nat_cmp a x) ≡ 1 = ap ordering_index (sym (nat_cmp_is a x Equal same)) in omega (arith, l)

index_rises : (x a b : ℕ) → a ≤ b → ordering_index (nat_cmp a x) ≤ ordering_index (nat_cmp b x)
index_rises x a b h = elim (nat_cmp b x) as (λ c. nat_cmp b x ≡ c → ordering_index (nat_cmp a x) ≤ ordering_index c) [
  | Less ↦ λ e. let under = less_from b x e in let lt : a < x = omega (arith, under, h) in let l : ordering_index (nat_cmp a x) ≡ 0 = ap ordering_index (sym (nat_cmp_is a x Less lt)) in omega (arith, l)
  | Equal ↦ λ e. let same = equal_from b x e in at_most_one a x (nat_lt a x) refl (omega (arith, same, h))
  | Greater ↦ λ e. most (nat_cmp a x)
] refl

no_fall : (xs : List ℕ) → IsAscending nat_cmp xs → (i j : ℕ) → i ≤ j → j < length xs → get_or xs i 0 ≤ get_or xs j 0
no_fall xs s i j le lt = by_test (nat_lt i j) refl
  where
    by_test : (t : Bool) → nat_lt i j ≡ t → get_or xs i 0 ≤ get_or xs j 0
    by_test true e = let up = rising xs s i j (grind (arith, nat_tests)) lt in omega (arith, up)
    by_test false e = let same : i ≡ j = grind (arith, nat_tests) in subst (λ (k : ℕ). get_or xs i 0 ≤ get_or xs k 0) same (omega arith)

pub never_falls : (x : ℕ) (xs : List ℕ) → IsAscending nat_cmp xs → IsNonDecreasingBy (λ y. ordering_index (nat_cmp y x)) xs
never_falls x xs s i j d le lt =
    let first = get_or_default_zero xs i d (omega (arith, le, lt)) in
    let second = get_or_default_zero xs j d lt in
    subst (λ (a : ℕ). ordering_index (nat_cmp a x) ≤ ordering_index (nat_cmp (get_or xs j d) x)) (sym first)
    (subst (λ (b : ℕ). ordering_index (nat_cmp (get_or xs i 0) x) ≤ ordering_index (nat_cmp b x)) (sym second)
    (index_rises x (get_or xs i 0) (get_or xs j 0) (no_fall xs s i j le lt)))

-- where the search found no number there is none
pub absent : (x : ℕ) (xs : List ℕ) (i : ℕ) → IsPartitionPoint (λ y. nat_cmp y x ≡ Less) (λ y. nat_cmp y x ≡ Greater) xs i → Contains xs x → ⊥
absent x xs i p c = let k = place_in xs x c in by_test k (nat_lt k.0 i) refl
  where
    by_test : (k : (i : ℕ) × (i < length xs) × (get_or xs i 0 ≡ x)) (t : Bool) → nat_lt k.0 i ≡ t → ⊥
    by_test k true e = let same = k.2 in let under = less_from (get_or xs k.0 0) x (p.0 k.0 0 (omega arith) (grind (arith, nat_tests))) in omega (arith, same, under)
    by_test k false e = let same = k.2 in let over = greater_from (get_or xs k.0 0) x (nat_lt (get_or xs k.0 0) x) (nat_lt x (get_or xs k.0 0)) refl refl (p.1 k.0 0 (grind (arith, nat_tests)) k.1) in omega (arith, same, over)

-- the results about the value nodes up to a place
abbrev pub BeforePlace : List Term → List ℕ → List Bool → (Finding → ResultRow) → ℕ → ResultRow → Type 0
BeforePlace terms values answers row n r = (i : ℕ) × (i < n) × (get_or answers i false ≡ false) × (r ≡ row (found_at (term_at terms (get_or values i 0))))

module _ (terms : List Term) (values : List ℕ) (answers : List Bool) (row : Finding → ResultRow) where
  abbrev Before : ℕ → ResultRow → Type 0
  Before n = BeforePlace terms values answers row n

  pub before_none : Collects (Before 0) []
  before_none = collects_none (Before 0) (λ r h. let lt = h.1 in absurd (omega (arith, lt)))

  -- one place more
  pub place_more : (n : ℕ) (rows new : List ResultRow) → Collects (Before n) rows
      → ((more : List ResultRow) × (new ≡ rows ++ more) × Collects (λ r. (get_or answers n false ≡ false) × (r ≡ row (found_at (term_at terms (get_or values n 0))))) more)
      → Collects (Before (n + 1)) new
  place_more n rows new h k = subst (λ (all : List ResultRow). Collects (Before (n + 1)) all) (sym k.1) (λ r. (
    λ c. elim (Contains-append_cases rows k.0 r c) [
      | inl d ↦ let p = (h r).0 d in let lt = p.1 in (p.0, omega (arith, lt), p.2, p.3)
      | inr d ↦ let p = (k.2 r).0 d in (n, omega arith, p.0, p.1)
    ],
    λ p. last_or_before r p (nat_lt p.0 n) refl,
  ))
    where
      last_or_before : (r : ResultRow) (p : Before (n + 1) r) (t : Bool) → nat_lt p.0 n ≡ t → Contains (rows ++ k.0) r
      last_or_before r p true e = let lt : p.0 < n = grind (arith, nat_tests) in Contains-append_left rows k.0 r ((h r).1 (p.0, lt, p.2, p.3))
      last_or_before r p false e =
          let bound = p.1 in
          let last : p.0 ≡ n = grind (arith, nat_tests) in
          Contains-append_right rows k.0 r ((k.2 r).1 (subst (λ (i : ℕ). (get_or answers i false ≡ false) × (r ≡ row (found_at (term_at terms (get_or values i 0))))) last (p.2, p.3)))

module _ (terms : List Term) (numbering : IsNumbering terms) (values : List ℕ) (nodes : AreNodes terms values) (answers : List Bool) (row : Finding → ResultRow) where
  -- a value node to which the answer at its place is no isn't answered
  unanswered : (i : ℕ) → i < length values → get_or answers i false ≡ false → IsAnswered terms values answers (term_at terms (get_or values i 0)) → ⊥
  unanswered i lt refuses told =
      let same : get_or values told.place 0 ≡ get_or values i 0 = numbering (get_or values told.place 0) (get_or values i 0)
      (nodes.named (get_or values told.place 0) (Contains-get_or values told.place 0 told.within)) (nodes.named (get_or values i 0) (Contains-get_or values i 0 lt)) told.has_term in
      let one : told.place ≡ i = at_one_place values nodes.ascending told.place i told.within lt same in
      let is : get_or answers i false ≡ true = subst (λ (j : ℕ). get_or answers j false ≡ true) one told.yes in
      cc (refuses, is)

  or_no : (b : Bool) → (b ≡ true → ⊥) → b ≡ false
  or_no true h = absurd (h refl)
  or_no false h = refl

  -- all places are all value nodes
  pub all_places : (n : ℕ) (rows : List ResultRow) → length values ≤ n → n ≤ length values → Collects (BeforePlace terms values answers row n) rows
      → Collects (ForEach (at_nodes (HasNode terms values)) row (λ v. IsAnswered terms values answers v → ⊥)) rows
  all_places n rows le ge all = collects_same (BeforePlace terms values answers row n) (ForEach (at_nodes (HasNode terms values)) row (λ v. IsAnswered terms values answers v → ⊥)) rows (λ r. (
    λ h. let bound = h.1 in let lt : h.0 < length values = omega (arith, bound, ge) in
        (term_at terms (get_or values h.0 0), mapped_to (term_at terms) values (get_or values h.0 0) (Contains-get_or values h.0 0 lt), unanswered h.0 lt h.2, h.3),
    λ h. let number = mapped_from (term_at terms) values h.0 h.1 in let place = place_in values number.0 number.1 in let lt = place.1 in
        let has : term_at terms (get_or values place.0 0) ≡ h.0 = ap (term_at terms) place.2 ∙ number.2 in (
          place.0,
          omega (arith, lt, le),
          or_no (get_or answers place.0 false) (λ told. h.2 (record { place = place.0; within = lt; has_term = has; yes = told })),
          h.3 ∙ ap (λ v. row (found_at v)) (sym has),
        ),
  )) all
