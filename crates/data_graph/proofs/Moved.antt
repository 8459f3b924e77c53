-- Items that are made of others, which are taken one after another from the end.
use Rattle.std.proofs.Common.{◌≡◌, ◌∙◌, List, [], ◌∷◌, ◌++◌, map, sym, subst, ap, inl, inr, arith}
use Rattle.std.specs.Prelude.{◌↔◌, ◌⊎◌}
use Rattle.std.specs.List.{Contains}
use Rattle.std.proofs.lemmas.List.{map-append}
use Rattle.std.proofs.lemmas.List.Elements.{Contains-append_cases, Contains-append_left, Contains-append_right}

-- what is made of all is what was made, and what is made of those that are left
abbrev pub AreMoved : {X Y : Type 0} → (X → Y) → List X → List Y → List X → Type 0
AreMoved {X} {Y} f all made rest = (y : Y) → Contains (map f all) y ↔ (Contains made y ⊎ Contains (map f rest) y)

none_in : {Y : Type 0} → (ys : List Y) (y : Y) → ys ≡ [] → Contains ys y → ⊥
none_in {Y} ys y e c = let d : Contains [] y = subst (λ (zs : List Y). Contains zs y) e c in absurd (omega (arith, d.1))

pub none_moved : {X Y : Type 0} → (f : X → Y) (all : List X) (made : List Y) → made ≡ [] → AreMoved f all made all
none_moved f all made e y = (λ c. inr c, elim [ inl c ↦ absurd (none_in made y e c) | inr c ↦ c ])

moved_on : {X Y : Type 0} → (f : X → Y) (all : List X) (made : List Y) (front : List X) (x : X) → AreMoved f all made (front ++ x ∷ []) → AreMoved f all (made ++ f x ∷ []) front
moved_on {X} {Y} f all made front x moved y =
    let both : map f (front ++ x ∷ []) ≡ map f front ++ f x ∷ [] = map-append f front (x ∷ []) in (
      λ c. elim ((moved y).0 c) [
        | inl d ↦ inl (Contains-append_left made (f x ∷ []) y d)
        | inr d ↦ elim (Contains-append_cases (map f front) (f x ∷ []) y (subst (λ (zs : List Y). Contains zs y) both d)) [
          | inl i ↦ inr i
          | inr i ↦ inl (Contains-append_right made (f x ∷ []) y i)
        ]
      ],
      λ c. (moved y).1 (elim c [
        | inl d ↦ elim (Contains-append_cases made (f x ∷ []) y d) [
          | inl i ↦ inl i
          | inr i ↦ inr (subst (λ (zs : List Y). Contains zs y) (sym both) (Contains-append_right (map f front) (f x ∷ []) y i))
        ]
        | inr d ↦ inr (subst (λ (zs : List Y). Contains zs y) (sym both) (Contains-append_left (map f front) (f x ∷ []) y d))
      ]),
    )

pub next_moved : {X Y : Type 0} → (f : X → Y) (all : List X) (made more : List Y) (rest front : List X) (x : X) (new : Y) → rest ≡ front ++ x ∷ [] → new ≡ f x → more ≡ made ++ new ∷ [] → AreMoved f all made rest → AreMoved f all more front
next_moved {X} {Y} f all made more rest front x new e own m moved =
    subst (λ (ys : List Y). AreMoved f all ys front) (sym (m ∙ ap (λ (y : Y). made ++ y ∷ []) own)) (moved_on f all made front x (subst (λ (xs : List X). AreMoved f all made xs) e moved))

pub all_moved : {X Y : Type 0} → (f : X → Y) (all : List X) (made : List Y) (rest : List X) → rest ≡ [] → AreMoved f all made rest → (y : Y) → Contains (map f all) y ↔ Contains made y
all_moved f all made rest e moved y = (
  λ c. elim ((moved y).0 c) [ inl d ↦ d | inr d ↦ absurd (none_in (map f rest) y (ap (map f) e) d) ],
  λ c. (moved y).1 (inl c),
)
