-- A dictionary of terms that are met, each once.
use Rattle.std.proofs.Common.{◌≡◌, ◌∙◌, ℕ, zero, suc, ◌+◌, ◌<◌, ◌≤◌, true, false, List, [], ◌∷◌, ◌++◌, length, get_or, take, refl, sym, subst, ap, arith}
use Rattle.std.specs.Prelude.{cond, Some, slice_get, IsPermutation, IsSorted}
use Rattle.std.specs.List.{AllByRecursion, IsDistinct, list_any, dedup, dedup_from}
use Rattle.std.specs.List.Sorted.{IsStrictlySortedBy}
use Rattle.std.proofs.lemmas.List.Kept.{IsStrictlySortedBy-dedup}
use Rattle.std.proofs.lemmas.List.Sorted.{Contains-permutation, IsPermutation-sym}
use Rattle.std.proofs.lemmas.Map.Keys.{IsDistinct-IsPermutation}
use Rattle.std.specs.declared.cmp.Ordering.{Ordering}
use Rattle.std.specs.declared.cmp.Ordering.TheVariants.{Less, Equal, Greater}
use Rattle.std.specs.Ordering.{is_eq, eq_by_cmp, nat_cmp, ordering_reverse, ordering_then}
use Rattle.std.specs.Cmp.{IsTotalOrder, nat_cmp_is, tied_itself}
use Rattle.collections.specs.Ordered.{AllAbove, IsAscending, has_item}
use Rattle.rdf_model.specs.declared.term.Term.{Term}
use Rattle.rdf_model.specs.Numbers.{IsNumbering, term_at}
use Rattle.rdf_model.specs.Terms.{term_cmp}
use Rattle.rdf_model.specs.Orders.{term_exact, term_total}
use Rattle.term_dict.specs.declared.entry.ByHash.{ByHash}
use Rattle.term_dict.specs.Entries.{entry, entry_cmp, entries_from}
use Rattle.term_dict.specs.Hashes.{term_hash}
use Rattle.term_dict.specs.Orders.{entry_total}
use Rattle.term_dict.specs.Tables.{AreOne}
use Rattle.term_dict.specs.Names.{IsNumberOf, with_term}
use Rattle.term_dict.proofs.Growing.{take_more}
use Rattle.term_dict.proofs.Places.{entries_push}

-- one step along a list of terms
pub terms_step : (ts : List Term) (i : ℕ) (t u : Term) (old new : List Term) → i < length ts → t ≡ get_or ts i t → u ≡ t → old ≡ take i ts → new ≡ old ++ u ∷ [] → new ≡ take (i + 1) ts
terms_step ts i t u old new lt is same o n =
    n ∙ ap (λ (w : Term). old ++ w ∷ []) same ∙ ap (λ (us : List Term). us ++ t ∷ []) o ∙ sym (take_more ts i t lt is)

pub entries_step : (ts : List Term) (i : ℕ) (t u : Term) (old new : List ByHash) → i < length ts → t ≡ get_or ts i t → u ≡ t → old ≡ entries_from 0 (take i ts) → new ≡ old ++ entry i u ∷ [] → new ≡ entries_from 0 (take (i + 1) ts)
entries_step ts i t u old new lt is same o n =
    let k : length (take i ts) ≡ i = length-take-le i ts (omega arith) in
    let long : 0 + length (take i ts) ≡ i = omega arith in
    n ∙ ap (λ (w : Term). old ++ entry i w ∷ []) same ∙ ap (λ (es : List ByHash). es ++ entry i t ∷ []) o
    ∙ ap (λ (m : ℕ). entries_from 0 (take i ts) ++ entry m t ∷ []) (sym long)
    ∙ sym (entries_push 0 (take i ts) t) ∙ ap (λ (us : List Term). entries_from 0 us) (sym (take_more ts i t lt is))
  where
    length-take-le : (i : ℕ) (ts : List Term) → i ≤ length ts → length (take i ts) ≡ i
    length-take-le zero ts h = refl
    length-take-le (suc i) [] h = absurd (omega arith)
    length-take-le (suc i) (t ∷ ts) h = ap suc (length-take-le i ts (omega arith))

tied : (o : Ordering) → is_eq o ≡ true → o ≡ Equal
tied Less h = cc
tied Equal h = refl
tied Greater h = cc

turned_eq : (o : Ordering) → is_eq (ordering_reverse o) ≡ is_eq o
turned_eq Less = refl
turned_eq Equal = refl
turned_eq Greater = refl

module _ {X : Type 0} (R : X → X → Ordering) (total : IsTotalOrder R) where
  flips : (x y : X) → eq_by_cmp R x y ≡ eq_by_cmp R y x
  flips x y = ap is_eq (total.antisymm x y) ∙ turned_eq (R y x)

  any_flips : (x : X) (ys : List X) → list_any (eq_by_cmp R x) ys ≡ has_item R x ys
  any_flips x [] = refl
  any_flips x (y ∷ ys) = let e = flips x y in let i = any_flips x ys in cc (e, i)

  -- what is sorted and apart ascends
  from_distinct : (x : X) (ys : List X) → IsDistinct (eq_by_cmp R) (x ∷ ys) → dedup_from (eq_by_cmp R) x ys ≡ x ∷ ys
  unfolding IsDistinct
  from_distinct x [] d = refl
  from_distinct x (y ∷ ys) d = ap (λ b. cond b (dedup_from (eq_by_cmp R) x ys) (x ∷ dedup_from (eq_by_cmp R) y ys)) (flips y x ∙ d.0.0) ∙ ap (λ (zs : List X). x ∷ zs) (from_distinct y ys d.1)

  dedup_distinct : (xs : List X) → IsDistinct (eq_by_cmp R) xs → dedup (eq_by_cmp R) xs ≡ xs
  dedup_distinct [] d = refl
  dedup_distinct (x ∷ xs) d = from_distinct x xs d

  above : (x : X) (ys : List X) → AllByRecursion (λ y. R x y ≡ Less) ys → AllAbove R x ys
  above x [] a = tt
  above x (y ∷ ys) a = (a.0, above x ys a.1)

  ascending : (xs : List X) → IsStrictlySortedBy R xs → IsAscending R xs
  unfolding IsStrictlySortedBy
  ascending [] s = tt
  ascending (x ∷ xs) s = (above x xs s.0, ascending xs s.1)

  distinct_ascending : (xs : List X) → IsSorted R xs → IsDistinct (eq_by_cmp R) xs → IsAscending R xs
  distinct_ascending xs s d = ascending xs (subst (λ (ys : List X). IsStrictlySortedBy R ys) (dedup_distinct xs d) (IsStrictlySortedBy-dedup total {E = eq_by_cmp R} (λ x y. refl) xs s))

unequal : (o : Ordering) (n m : ℕ) → n < m → is_eq (ordering_then o (nat_cmp n m)) ≡ false
unequal Less n m l = refl
unequal Equal n m l = ap is_eq (sym (nat_cmp_is n m Less l))
unequal Greater n m l = refl

entries_apart : (n m : ℕ) (t : Term) (ts : List Term) → n < m → AllByRecursion (λ (e : ByHash). eq_by_cmp entry_cmp (entry n t) e ≡ false) (entries_from m ts)
entries_apart n m t [] l = tt
entries_apart n m t (u ∷ ts) l = (unequal (nat_cmp (term_hash t) (term_hash u)) n m l, entries_apart n (m + 1) t ts (omega arith))

entries_distinct : (n : ℕ) (ts : List Term) → IsDistinct (eq_by_cmp entry_cmp) (entries_from n ts)
unfolding IsDistinct
entries_distinct n [] = tt
entries_distinct n (t ∷ ts) = (entries_apart n (n + 1) t ts (omega arith), entries_distinct (n + 1) ts)

-- terms that are apart have a number each
other_term : (t : Term) (ts : List Term) (n : ℕ) → AllByRecursion (λ u. eq_by_cmp term_cmp t u ≡ false) ts → n < length ts → t ≡ term_at ts n → ⊥
other_term t [] n a l e = absurd (omega arith)
other_term t (u ∷ ts) zero a l e = let k : term_cmp t u ≡ Equal = subst (λ (w : Term). term_cmp t w ≡ Equal) e (tied_itself term_total t) in let q = ap is_eq k in let r = a.0 in cc (q, r)
other_term t (u ∷ ts) (suc n) a l e = other_term t ts n a.1 (omega arith) e

numbering_distinct : (ts : List Term) → IsDistinct (eq_by_cmp term_cmp) ts → IsNumbering ts
unfolding IsDistinct
numbering_distinct [] d n m p q e = absurd (omega arith)
numbering_distinct (t ∷ ts) d zero zero p q e = refl
numbering_distinct (t ∷ ts) d zero (suc m) p q e = absurd (other_term t ts m d.0 (omega arith) e)
numbering_distinct (t ∷ ts) d (suc n) zero p q e = absurd (other_term t ts n d.0 (omega arith) (sym e))
numbering_distinct (t ∷ ts) d (suc n) (suc m) p q e = ap suc (numbering_distinct ts d.1 n m (omega arith) (omega arith) e)

-- the sorted entries of terms that are apart
one_of_terms : (ts : List Term) (es : List ByHash) → IsDistinct (eq_by_cmp term_cmp) ts → IsPermutation (entries_from 0 ts) es → IsSorted entry_cmp es → AreOne ts es
one_of_terms ts es d p s = record {
  ascending = distinct_ascending entry_cmp entry_total es s (IsDistinct-IsPermutation (eq_by_cmp entry_cmp) (flips entry_cmp entry_total) (entries_from 0 ts) es p (entries_distinct 0 ts));
  same = λ e. (λ c. Contains-permutation (entries_from 0 ts) es e p c, λ c. Contains-permutation es (entries_from 0 ts) e (IsPermutation-sym (entries_from 0 ts) es p) c);
  apart = numbering_distinct ts d;
}

pub one_as : (ts us : List Term) (bs es ls : List ByHash) → IsDistinct (eq_by_cmp term_cmp) ts → us ≡ ts → bs ≡ entries_from 0 ts → IsPermutation bs es → IsSorted entry_cmp es → ls ≡ es → AreOne us ls
one_as ts us bs es ls d n b p s l = subst (λ (ws : List Term). AreOne ws ls) (sym n) (subst (λ (ks : List ByHash). AreOne ts ks) (sym l) (one_of_terms ts es d (subst (λ (ks : List ByHash). IsPermutation ks es) b p) s))

-- a term that is met
pub met_with : (us vs : List Term) (t : Term) → vs ≡ cond (list_any (eq_by_cmp term_cmp t) us) us (us ++ t ∷ []) → vs ≡ with_term us t
met_with us vs t e = e ∙ ap (λ b. cond b us (us ++ t ∷ [])) (any_flips term_cmp term_total t us)

pub met_number : (us : List Term) (t u : Term) (n : ℕ) → slice_get us n ≡ Some u → eq_by_cmp term_cmp t u ≡ true → IsNumberOf us t n
met_number us t u n g e = let same : t ≡ u = term_exact t u (tied (term_cmp t u) e) in subst (λ (w : Term). IsNumberOf us w n) (sym same) (at us n g)
  where
    at : (us : List Term) (n : ℕ) → slice_get us n ≡ Some u → IsNumberOf us u n
    at [] n g = cc
    at (v ∷ us) zero g = record { within = omega arith; is = cc g }
    at (v ∷ us) (suc n) g = let i = at us n g in record { within = (let w = i.within in omega arith); is = i.is }
