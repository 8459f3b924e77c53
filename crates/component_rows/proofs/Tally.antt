-- How many answers at a place are yes, and to how many shapes a node conforms.
use Rattle.std.proofs.Common.{◌≡◌, ◌∙◌, ℕ, suc, ◌+◌, ◌<◌, ◌≤◌, Bool, true, false, List, [], ◌∷◌, ◌++◌, length, map, get_or, refl, sym, ap, arith, subst, inl, inr}
use Rattle.std.specs.Prelude.{◌↔◌, ◌⊎◌, if◌then◌else◌}
use Rattle.std.specs.List.{Contains}
use Rattle.collections.proofs.Members.{has_cases}
use Rattle.rdf_model.specs.declared.term.Term.{Term}
use Rattle.shape_model.specs.Triples.{IsMember}
use Rattle.shape_model.specs.Components.{NoneOf, OneOf}
use Rattle.component_rows.specs.Conformance.{yes_at, how_many}

one_if : Bool → ℕ
one_if b = if b then 1 else 0

pub yes_push : (i : ℕ) (ls : List (List Bool)) (a : List Bool) → yes_at i (ls ++ a ∷ []) ≡ yes_at i ls + (if get_or a i false then 1 else 0)
yes_push i [] a = omega arith
yes_push i (b ∷ bs) a = let rest = yes_push i bs a in omega (arith, rest)

yes_most : (i : ℕ) (ls : List (List Bool)) → yes_at i ls ≤ length ls
yes_most i [] = omega arith
yes_most i (a ∷ ls) = let rest = yes_most i ls in elim (get_or a i false) as (λ b. (if b then 1 else 0) + yes_at i ls ≤ suc (length ls)) [ true ↦ omega (arith, rest) | false ↦ omega (arith, rest) ]

-- each list answers at the place whether C holds of the term
module _ (C : Term → Type 0) (i : ℕ) where
  abbrev pub Agrees : List Term → List (List Bool) → Type 0
  Agrees [] [] = Unit {0}
  Agrees [] (a ∷ ls) = ⊥
  Agrees (m ∷ ms) [] = ⊥
  Agrees (m ∷ ms) (a ∷ ls) = ((get_or a i false ≡ true) ↔ C m) × Agrees ms ls

  -- what the first answer adds
  pub first_yes : (a : List Bool) (ls : List (List Bool)) → get_or a i false ≡ true → yes_at i (a ∷ ls) ≡ suc (yes_at i ls)
  first_yes a ls e = let one = ap (λ b. (if b then 1 else 0) + yes_at i ls) e in omega (arith, one)

  first_no : (a : List Bool) (ls : List (List Bool)) → get_or a i false ≡ false → yes_at i (a ∷ ls) ≡ yes_at i ls
  first_no a ls e = let none = ap (λ b. (if b then 1 else 0) + yes_at i ls) e in omega (arith, none)

  answer : (a : List Bool) → (get_or a i false ≡ true) ⊎ (get_or a i false ≡ false)
  answer a = elim (get_or a i false) as (λ b. (b ≡ true) ⊎ (b ≡ false)) [ true ↦ inl refl | false ↦ inr refl ]

  not_both : (b : Bool) → b ≡ true → b ≡ false → ⊥
  not_both b e f = cc

  pub all_yes : (ms : List Term) (ls : List (List Bool)) → Agrees ms ls → ((m : Term) → IsMember ms m → C m) ↔ (yes_at i ls ≡ length ls)
  all_yes [] [] h = (λ all. refl, λ e m d. absurd d)
  all_yes [] (a ∷ ls) h = absurd h
  all_yes (m ∷ ms) [] h = absurd h
  all_yes (m ∷ ms) (a ∷ ls) h =
      let rest = all_yes ms ls h.1 in
      elim (answer a) [
        | inl e ↦ (let count = first_yes a ls e in (
          λ all. (let more = rest.0 (λ n d. all n (inr d)) in omega (arith, count, more)),
          λ total n d. elim d [ inl is ↦ subst C is (h.0.0 e) | inr later ↦ rest.1 (omega (arith, count, total)) n later ],
        ))
        | inr e ↦ (let count = first_no a ls e in let most = yes_most i ls in (
          λ all. absurd (not_both (get_or a i false) (h.0.1 (all m (inl refl))) e),
          λ total. absurd (omega (arith, count, most, total)),
        ))
      ]

  pub none_yes : (ms : List Term) (ls : List (List Bool)) → Agrees ms ls → NoneOf C ms ↔ (yes_at i ls ≡ 0)
  none_yes [] [] h = (λ all. refl, λ e m d. absurd d)
  none_yes [] (a ∷ ls) h = absurd h
  none_yes (m ∷ ms) [] h = absurd h
  none_yes (m ∷ ms) (a ∷ ls) h =
      let rest = none_yes ms ls h.1 in
      elim (answer a) [
        | inl e ↦ (let count = first_yes a ls e in (
          λ none. absurd (none m (inl refl) (h.0.0 e)),
          λ total. absurd (omega (arith, count, total)),
        ))
        | inr e ↦ (let count = first_no a ls e in (
          λ none. (let more = rest.0 (λ n d. none n (inr d)) in omega (arith, count, more)),
          λ total n d c. elim d [
            | inl is ↦ not_both (get_or a i false) (h.0.1 (subst C (sym is) c)) e
            | inr later ↦ rest.1 (omega (arith, count, total)) n later c
          ],
        ))
      ]

  pub one_yes : (ms : List Term) (ls : List (List Bool)) → Agrees ms ls → OneOf C ms ↔ (yes_at i ls ≡ 1)
  one_yes [] [] h = (λ one. absurd one, λ e. absurd (omega (arith, e)))
  one_yes [] (a ∷ ls) h = absurd h
  one_yes (m ∷ ms) [] h = absurd h
  one_yes (m ∷ ms) (a ∷ ls) h =
      let rest = one_yes ms ls h.1 in
      let none = none_yes ms ls h.1 in
      elim (answer a) [
        | inl e ↦ (let count = first_yes a ls e in (
          λ one. elim one [ inl p ↦ (let more = none.0 p.1 in omega (arith, count, more)) | inr p ↦ absurd (p.0 (h.0.0 e)) ],
          λ total. inl (h.0.0 e, none.1 (omega (arith, count, total))),
        ))
        | inr e ↦ (let count = first_no a ls e in (
          λ one. elim one [ inl p ↦ absurd (not_both (get_or a i false) (h.0.1 p.0) e) | inr p ↦ (let more = rest.0 p.1 in omega (arith, count, more)) ],
          λ total. inr (λ c. not_both (get_or a i false) (h.0.1 c) e, rest.1 (omega (arith, count, total))),
        ))
      ]

  -- of one shape alone
  pub some_yes : (m : Term) (ls : List (List Bool)) → Agrees (m ∷ []) ls → (yes_at i ls ≡ 0 → ⊥) ↔ C m
  some_yes m [] h = absurd h
  some_yes m (a ∷ []) h = elim (answer a) [
    | inl e ↦ (let count = first_yes a [] e in (λ some. h.0.0 e, λ c total. absurd (omega (arith, count, total))))
    | inr e ↦ (let count = first_no a [] e in (λ some. absurd (some (omega (arith, count))), λ c total. not_both (get_or a i false) (h.0.1 c) e))
  ]
  some_yes m (a ∷ b ∷ ls) h = absurd h.1

pub one_most : (b : Bool) → (if b then 1 else 0) ≤ 1
one_most true = omega arith
one_most false = omega arith

-- what each list has in common, one of them has
pub each_of : {X : Type 0} → (h : X → List Bool) (n : ℕ) (xs : List X) → ((k : ℕ) → k < length (map h xs) → length (get_or (map h xs) k []) ≡ n) → (x : X) → Contains xs x → length (h x) ≡ n
each_of h n [] each x c = absurd (omega arith)
each_of h n (y ∷ ys) each x c = elim (has_cases y ys x c) [
  | inl e ↦ ap (λ z. length (h z)) (sym e) ∙ each 0 (omega arith)
  | inr d ↦ each_of h n ys (λ k lt. each (suc k) (omega (arith, lt))) x d
]

-- one answer more at the end
pub more_yes : (bs : List Bool) (b : Bool) → how_many (bs ++ b ∷ []) ≡ how_many bs + (if b then 1 else 0)
more_yes [] b = omega arith
more_yes (c ∷ cs) b = let rest = more_yes cs b in omega (arith, rest)
