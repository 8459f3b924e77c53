-- A list of distinct members of another is no longer.
use Rattle.std.proofs.Common.{◌≡◌, suc, ◌≤◌, List, [], ◌∷◌, ◌++◌, length, refl, ap, arith, inl, inr}
use Rattle.rdf_model.specs.declared.term.Term.{Term}
use Rattle.shape_model.specs.Triples.{IsMember}
use Rattle.shape_syntax.proofs.Scans.{member_cases}

abbrev pub AreDistinct : List Term → Type 0
AreDistinct [] = Unit {0}
AreDistinct (x ∷ xs) = ((w : Term) → IsMember xs w → w ≡ x → ⊥) × AreDistinct xs

pub distinct_push : (xs : List Term) (u : Term) → AreDistinct xs → (IsMember xs u → ⊥) → AreDistinct (xs ++ u ∷ [])
distinct_push [] u d apart = (λ w i e. i, tt)
distinct_push (x ∷ xs) u d apart = (
  λ w i e. elim (member_cases xs u w i) [ inl j ↦ d.0 w j e | inr f ↦ apart (inl (cc (e, f))) ],
  distinct_push xs u d.1 (λ i. apart (inr i)),
)

taken_out : (ys : List Term) (x : Term) → IsMember ys x → (zs : List Term) × (length ys ≡ suc (length zs)) × ((w : Term) → (w ≡ x → ⊥) → IsMember ys w → IsMember zs w)
taken_out [] x i = absurd i
taken_out (y ∷ ys) x i = elim i [
  | inl e ↦ (ys, refl, λ w other j. elim j [ inl d ↦ absurd (other (cc (d, e))) | inr k ↦ k ])
  | inr j ↦ let t = taken_out ys x j in (y ∷ t.0, ap suc t.1, λ w other k. elim k [ inl d ↦ inl d | inr l ↦ inr (t.2 w other l) ])
]

pub no_longer : (xs ys : List Term) → AreDistinct xs → ((w : Term) → IsMember xs w → IsMember ys w) → length xs ≤ length ys
no_longer [] ys d all = omega arith
no_longer (x ∷ xs) ys d all =
    let t = taken_out ys x (all x (inl refl)) in
    let less : length xs ≤ length t.0 = no_longer xs t.0 d.1 (λ w i. t.2 w (d.0 w i) (all w (inr i))) in
    let e : length ys ≡ suc (length t.0) = t.1 in omega arith
