-- What a loop over items has bound.
use Rattle.std.proofs.Common.{◌≡◌, ℕ, ◌+◌, ◌<◌, ◌≤◌, List, [], ◌∷◌, ◌++◌, length, take, get_or, sym, subst, arith, inl, inr}
use Rattle.std.specs.Prelude.{◌⊎◌, ◌↔◌}
use Rattle.std.specs.List.{Contains}
use Rattle.std.proofs.lemmas.List.{take_all, take_more}
use Rattle.std.proofs.lemmas.List.Elements.{Contains-append_left, Contains-push, Contains-push_cases}
use Rattle.rdf_model.specs.declared.term.Term.{Term}
use Rattle.shape_references.specs.declared.bundle.Bundle.{Bundle}
use Rattle.shape_references.specs.Bundles.{HasBound, IsBound}

pub bound_nothing : (now : List Bundle) → (a b : Term) → now ≡ [] → IsBound now a b → ⊥
bound_nothing now a b e h = let c = subst (λ (ws : List Bundle). Contains ws h.0) e h.1 in absurd (omega arith)

-- a bundle more
pub bound_push : (old new : List Bundle) (w : Bundle) → new ≡ old ++ w ∷ [] → (a b : Term) → IsBound new a b ↔ (IsBound old a b ⊎ (Contains w.from a × Contains w.to b))
bound_push old new w e a b = (
  λ h. elim (Contains-push_cases old w h.0 (subst (λ (ws : List Bundle). Contains ws h.0) e h.1)) [
    | inl c ↦ inl (h.0, c, h.2, h.3)
    | inr f ↦ inr (subst (λ (x : Bundle). Contains x.from a) (sym f) h.2, subst (λ (x : Bundle). Contains x.to b) (sym f) h.3)
  ],
  λ h. elim h [
    | inl o ↦ (o.0, subst (λ (ws : List Bundle). Contains ws o.0) (sym e) (Contains-append_left old (w ∷ []) o.0 o.1), o.2, o.3)
    | inr k ↦ (w, subst (λ (ws : List Bundle). Contains ws w) (sym e) (Contains-push old w), k.0, k.1)
  ],
)

-- no reference more
pub bound_none : (now : List Bundle) (A : Term → Term → Type 0) → ((a b : Term) → A a b → ⊥) → (a b : Term) → IsBound now a b ↔ (IsBound now a b ⊎ A a b)
bound_none now A none a b = (λ h. inl h, λ h. elim h [ inl o ↦ o | inr k ↦ absurd (none a b k) ])

pub bound_as : (old new : List Bundle) (A B : Term → Term → Type 0) → ((a b : Term) → A a b ↔ B a b) → ((a b : Term) → IsBound new a b ↔ (IsBound old a b ⊎ A a b)) → (a b : Term) → IsBound new a b ↔ (IsBound old a b ⊎ B a b)
bound_as old new A B same h a b = (
  λ c. elim ((h a b).0 c) [ inl o ↦ inl o | inr k ↦ inr ((same a b).0 k) ],
  λ c. elim c [ inl o ↦ (h a b).1 (inl o) | inr k ↦ (h a b).1 (inr ((same a b).1 k)) ],
)

module _ {X : Type 0} (At : X → Term → Term → Type 0) (xs : List X) (old : List Bundle) where
  pub bound_first : HasBound At (take 0 xs) old old
  bound_first a b = (λ h. inl h, λ h. elim h [ inl o ↦ o | inr g ↦ absurd (let k = g.1.1 in omega arith) ])

  pub bound_next : (i : ℕ) (x : X) (now next : List Bundle) → i < length xs → x ≡ get_or xs i x → HasBound At (take i xs) old now
      → ((a b : Term) → IsBound next a b ↔ (IsBound now a b ⊎ At x a b)) → HasBound At (take (i + 1) xs) old next
  bound_next i x now next l e before step a b =
      let whole : take (i + 1) xs ≡ take i xs ++ get_or xs i x ∷ [] = take_more xs i x l in (
        λ h. elim ((step a b).0 h) [
          | inl n ↦ elim ((before a b).0 n) [ inl o ↦ inl o | inr g ↦ inr (g.0, subst (λ (zs : List X). Contains zs g.0) (sym whole) (Contains-append_left (take i xs) (get_or xs i x ∷ []) g.0 g.1), g.2) ]
          | inr k ↦ inr (x, subst (λ (zs : List X). Contains zs x) (sym whole) (subst (λ (z : X). Contains (take i xs ++ get_or xs i x ∷ []) z) (sym e) (Contains-push (take i xs) (get_or xs i x))), k)
        ],
        λ h. elim h [
          | inl o ↦ (step a b).1 (inl ((before a b).1 (inl o)))
          | inr g ↦ elim (Contains-push_cases (take i xs) (get_or xs i x) g.0 (subst (λ (zs : List X). Contains zs g.0) whole g.1)) [
            | inl c ↦ (step a b).1 (inl ((before a b).1 (inr (g.0, c, g.2))))
            | inr f ↦ (step a b).1 (inr (subst (λ (z : X). At z a b) (sym e) (subst (λ (z : X). At z a b) (sym f) g.2)))
          ]
        ],
      )

  pub bound_all : (i : ℕ) (now : List Bundle) → length xs ≤ i → HasBound At (take i xs) old now → HasBound At xs old now
  bound_all i now l h = subst (λ (zs : List X). HasBound At zs old now) (take_all i xs l) h

-- what was added to a new list is in it
pub in_new : (A : Term → Type 0) (old now : List Term) → old ≡ [] → ((t : Term) → Contains now t ↔ (Contains old t ⊎ A t)) → (t : Term) → Contains now t ↔ A t
in_new A old now e h t = (
  λ c. elim ((h t).0 c) [ inl o ↦ absurd (let k = subst (λ (xs : List Term). Contains xs t) e o in omega arith) | inr a ↦ a ],
  λ a. (h t).1 (inr a),
)
