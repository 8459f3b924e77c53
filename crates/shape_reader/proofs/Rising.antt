-- Places rise with their terms.
use Rattle.std.proofs.Common.{◌≡◌, ℕ, zero, suc, ◌<◌, List, [], ◌∷◌, ◌++◌, length, take, get_or, refl, sym, subst, arith, inl, inr}
use Rattle.std.specs.Prelude.{◌⊎◌}
use Rattle.std.specs.List.{Contains}
use Rattle.std.specs.Cmp.{nat_cmp_is, tied_itself}
use Rattle.std.specs.Ordering.{nat_cmp}
use Rattle.std.specs.declared.cmp.Ordering.{Ordering}
use Rattle.std.specs.declared.cmp.Ordering.TheVariants.{Less}
use Rattle.std.proofs.lemmas.List.Elements.{Contains-get_or}
use Rattle.collections.specs.Ordered.{AllAbove, IsAscending}
use Rattle.collections.proofs.Members.{below, has_cases, has_head, has_tail}
use Rattle.rdf_model.specs.declared.term.Term.{Term}
use Rattle.rdf_model.specs.Terms.{term_cmp}
use Rattle.rdf_model.specs.Orders.{term_total}
use Rattle.shape_syntax.specs.Gathering.{HasGathered}
use Rattle.shape_reader.specs.Parts.{IsPlace}

in_place : (xs : List Term) (k : ℕ) (t : Term) → IsPlace xs k t → Contains xs t
in_place [] k t e = cc
in_place (x ∷ xs) zero t e = let f : x ≡ t = cc in (0, omega arith, f)
in_place (x ∷ xs) (suc k) t e = has_tail x xs t (in_place xs k t e)

not_itself : (t u : Term) → t ≡ u → term_cmp t u ≡ Less → ⊥
not_itself t u e l = let k = tied_itself term_total t in let m : term_cmp t t ≡ Less = subst (λ (w : Term). term_cmp t w ≡ Less) (sym e) l in cc (k, m)

pub not_both : (t u : Term) → term_cmp t u ≡ Less → term_cmp u t ≡ Less → ⊥
not_both t u l m = not_itself t t refl (term_total.trans t u t l m)

place_rises : (xs : List Term) → IsAscending term_cmp xs → (j k : ℕ) (t u : Term) → IsPlace xs j t → IsPlace xs k u → term_cmp t u ≡ Less → j < k
place_rises [] a j k t u d e l = cc
place_rises (x ∷ xs) a zero zero t u d e l = let f : t ≡ u = cc in absurd (not_itself t u f l)
place_rises (x ∷ xs) a zero (suc k) t u d e l = omega arith
place_rises (x ∷ xs) a (suc j) zero t u d e l =
    let f : x ≡ u = cc in
    absurd (not_both t u l (subst (λ (w : Term). term_cmp w t ≡ Less) f (below term_cmp x xs t a.0 (in_place xs j t d))))
place_rises (x ∷ xs) a (suc j) (suc k) t u d e l = let m : j < k = place_rises xs a.1 j k t u d e l in omega (arith, m)

module _ {X : Type 0} (R : X → X → Ordering) where
  above_push : (x : X) (xs : List X) (y : X) → AllAbove R x xs → R x y ≡ Less → AllAbove R x (xs ++ y ∷ [])
  above_push x [] y a l = (l, tt)
  above_push x (z ∷ xs) y a l = (a.0, above_push x xs y a.1 l)

  pub ascending_push : (xs : List X) (y : X) → IsAscending R xs → ((x : X) → Contains xs x → R x y ≡ Less) → IsAscending R (xs ++ y ∷ [])
  ascending_push [] y a all = (tt, tt)
  ascending_push (x ∷ xs) y a all = (above_push x xs y a.0 (all x (has_head x xs)), ascending_push xs y a.1 (λ z c. all z (has_tail x xs z c)))

  -- an item is above all before it
  pub passed_below : (xs : List X) → IsAscending R xs → (i : ℕ) (y x : X) → i < length xs → y ≡ get_or xs i y → Contains (take i xs) x → R x y ≡ Less
  passed_below [] a i y x l e c = absurd (omega (arith, l))
  passed_below (z ∷ xs) a zero y x l e c = absurd (let k = c.1 in omega arith)
  passed_below (z ∷ xs) a (suc i) y x l e c = elim (has_cases z (take i xs) x c) [
    | inl f ↦ subst (λ (w : X). R w y ≡ Less) f (subst (λ (w : X). R z w ≡ Less) (sym e) (below R z xs (get_or xs i y) a.0 (Contains-get_or xs i y (omega (arith, l)))))
    | inr d ↦ passed_below xs a.1 i y x (omega (arith, l)) e d
  ]

pub places_rise : (nodes terms : List Term) (i : ℕ) (t : Term) (old new : List ℕ) → IsAscending term_cmp nodes → i < length terms → t ≡ get_or terms i t
    → HasGathered (λ (t : Term) (k : ℕ). IsPlace nodes k t) (take i terms) [] old
    → (new ≡ old) ⊎ ((n : ℕ) × IsPlace nodes n t × (new ≡ old ++ n ∷ []))
    → (IsAscending term_cmp terms → IsAscending nat_cmp old) → IsAscending term_cmp terms → IsAscending nat_cmp new
places_rise nodes terms i t old new up l e all step before a = elim step [
  | inl k ↦ subst (λ (ns : List ℕ). IsAscending nat_cmp ns) (sym k) (before a)
  | inr k ↦ subst (λ (ns : List ℕ). IsAscending nat_cmp ns) (sym k.2) (ascending_push nat_cmp old k.0 (before a) (λ j c. elim ((all j).0 c) [
    | inl none ↦ absurd (let m = none.1 in omega arith)
    | inr g ↦ (let m : j < k.0 = place_rises nodes up j k.0 g.0 t g.2 k.1 (passed_below term_cmp terms a i t g.0 l e g.1) in sym (nat_cmp_is j k.0 Less m))
  ]))
]
