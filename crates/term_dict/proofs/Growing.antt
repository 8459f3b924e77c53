-- Named terms with more.
use Rattle.std.proofs.Common.{◌≡◌, ◌∙◌, ℕ, zero, suc, ◌+◌, ◌<◌, ◌≤◌, ◌^◌, Bool, List, [], ◌∷◌, ◌++◌, length, get_or, take, drop, true, false, refl, sym, subst, ap, arith, inl, inr, length-append, drop-cons}
use Rattle.std.specs.Prelude.{◌||◌, cond}
use Rattle.std.specs.List.{AllByRecursion, Contains}
use Rattle.std.proofs.Math.ListN.{get_or-append}
use Rattle.std.proofs.Math.Seq.{get_or-append_seam, take-suc}
use Rattle.std.proofs.lemmas.List.{get_or-take, length-take-le}
use Rattle.std.specs.declared.cmp.Ordering.{Ordering}
use Rattle.std.specs.declared.cmp.Ordering.TheVariants.{Less, Equal, Greater}
use Rattle.std.specs.Ordering.{is_eq}
use Rattle.std.specs.Cmp.{tied_itself}
use Rattle.collections.specs.Ordered.{has_item}
use Rattle.collections.proofs.Members.{has_cases, has_equal, has_tail}
use Rattle.rdf_model.specs.declared.term.Term.{Term}
use Rattle.rdf_model.specs.declared.term.Term.TheVariants.{Blank}
use Rattle.rdf_model.specs.Numbers.{IsNumbering, term_at}
use Rattle.rdf_model.specs.Terms.{term_cmp}
use Rattle.rdf_model.specs.Matching.{same_term}
use Rattle.rdf_model.specs.Orders.{term_exact, term_total}
use Rattle.term_dict.specs.Names.{IsNumberOf, AreNumbersOf, first_terms, with_term, with_terms}

or_true : (b : Bool) → (b || true) ≡ true
or_true true = refl
or_true false = refl

has_true : (t : Term) (us : List Term) → Contains us t → has_item term_cmp t us ≡ true
has_true t [] c = absurd (omega arith)
has_true t (u ∷ us) c = elim (has_cases u us t c) [
  | inl e ↦ ap (λ o. is_eq o || has_item term_cmp t us) (subst (λ (w : Term). term_cmp w t ≡ Equal) (sym e) (tied_itself term_total t))
  | inr d ↦ ap (λ b. is_eq (term_cmp u t) || b) (has_true t us d) ∙ or_true (is_eq (term_cmp u t))
]

has_false : (t : Term) (us : List Term) → (Contains us t → ⊥) → has_item term_cmp t us ≡ false
has_false t [] n = refl
has_false t (u ∷ us) n = elim (term_cmp u t) as (λ o. term_cmp u t ≡ o → (is_eq o || has_item term_cmp t us) ≡ false) [
  | Less ↦ λ h. has_false t us (λ c. n (has_tail u us t c))
  | Equal ↦ λ h. absurd (n (has_equal u us t (term_exact u t h)))
  | Greater ↦ λ h. has_false t us (λ c. n (has_tail u us t c))
] refl

-- what stands at a place, whatever would be taken where nothing does
pub get_or-other : (us : List Term) (n : ℕ) (d e : Term) → n < length us → get_or us n d ≡ get_or us n e
get_or-other [] n d e h = absurd (omega arith)
get_or-other (u ∷ us) zero d e h = refl
get_or-other (u ∷ us) (suc n) d e h = get_or-other us n d e (omega arith)

pub with_old_term : (t : Term) (us : List Term) (n : ℕ) → IsNumberOf us t n → us ≡ with_term us t
with_old_term t us n i =
    let c : Contains us t = (n, i.within, get_or-other us n t (Blank 0 0) i.within ∙ i.is) in
    sym (ap (λ b. cond b us (us ++ t ∷ [])) (has_true t us c))

pub with_new_term : (t : Term) (us vs : List Term) → (Contains us t → ⊥) → vs ≡ us ++ t ∷ [] → vs ≡ with_term us t
with_new_term t us vs n e = e ∙ sym (ap (λ b. cond b us (us ++ t ∷ [])) (has_false t us n))

pub last_number : (t : Term) (us vs : List Term) (n : ℕ) → n ≡ length us → vs ≡ us ++ t ∷ [] → IsNumberOf vs t n
last_number t us vs n e h = subst (λ (ws : List Term). IsNumberOf ws t n) (sym h) (record {
  within = (let l = length-append us (t ∷ []) in omega arith);
  is = ap (λ (i : ℕ). get_or (us ++ t ∷ []) i (Blank 0 0)) e ∙ get_or-append_seam us t [] (Blank 0 0);
})

-- a number is kept
kept_number : (us : List Term) (u t : Term) (n : ℕ) → IsNumberOf us t n → IsNumberOf (with_term us u) t n
kept_number us u t n i = elim (has_item term_cmp u us) as (λ b. IsNumberOf (cond b us (us ++ u ∷ [])) t n) [
  | true ↦ i
  | false ↦ record { within = (let l = length-append us (u ∷ []) in let w = i.within in omega arith); is = get_or-append us (u ∷ []) (Blank 0 0) n i.within ∙ i.is }
]

kept_numbers : (us : List Term) (u : Term) (ts : List Term) (ns : List ℕ) → AreNumbersOf us ts ns → AreNumbersOf (with_term us u) ts ns
kept_numbers us u [] [] a = tt
kept_numbers us u [] (n ∷ ns) a = a
kept_numbers us u (t ∷ ts) [] a = a
kept_numbers us u (t ∷ ts) (n ∷ ns) a = (kept_number us u t n a.0, kept_numbers us u ts ns a.1)

push_number : (us : List Term) (ts : List Term) (ns : List ℕ) (t : Term) (n : ℕ) → AreNumbersOf us ts ns → IsNumberOf us t n → AreNumbersOf us (ts ++ t ∷ []) (ns ++ n ∷ [])
push_number us [] [] t n a i = (i, tt)
push_number us [] (m ∷ ns) t n a i = absurd a
push_number us (s ∷ ts) [] t n a i = absurd a
push_number us (s ∷ ts) (m ∷ ns) t n a i = (a.0, push_number us ts ns t n a.1 i)

pub numbers_more : (us vs ts ts' : List Term) (ns ns' : List ℕ) (t : Term) (n : ℕ) → vs ≡ with_term us t → ts' ≡ ts ++ t ∷ [] → ns' ≡ ns ++ n ∷ [] → AreNumbersOf us ts ns → IsNumberOf vs t n → AreNumbersOf vs ts' ns'
numbers_more us vs ts ts' ns ns' t n e f g a i =
    let b : AreNumbersOf vs ts ns = subst (λ (ws : List Term). AreNumbersOf ws ts ns) (sym e) (kept_numbers us t ts ns a) in
    subst (λ (ss : List Term). AreNumbersOf vs ss ns') (sym f) (subst (λ (ms : List ℕ). AreNumbersOf vs (ts ++ t ∷ []) ms) (sym g) (push_number vs ts ns t n b i))

pub longer : (us ts : List Term) → length us ≤ length (with_terms us ts)
longer us [] = omega arith
longer us (t ∷ ts) = elim (has_item term_cmp t us) as (λ b. length us ≤ length (with_terms (cond b us (us ++ t ∷ [])) ts)) [
  | true ↦ longer us ts
  | false ↦ let l = longer (us ++ t ∷ []) ts in let m = length-append us (t ∷ []) in omega arith
]

pub numbers_below : (us ts : List Term) (ns : List ℕ) (m : ℕ) → length us ≤ m → AreNumbersOf us ts ns → AllByRecursion (λ n. n < m) ns
numbers_below us [] [] m h a = tt
numbers_below us [] (n ∷ ns) m h a = absurd a
numbers_below us (t ∷ ts) [] m h a = absurd a
numbers_below us (t ∷ ts) (n ∷ ns) m h a = ((let w = a.0.within in omega arith), numbers_below us ts ns m h a.1)

-- the count of a dictionary stays within its bounds
pub fits : (us vs ts : List Term) (limit : ℕ) → 2 ≤ length us → vs ≡ with_terms us ts → length vs ≤ limit + 2 → limit + 2 < 2 ^ 32 → (2 ≤ length vs) × (length vs ≤ limit + 2) × (limit + 2 < 2 ^ 32)
fits us vs ts limit two e le lt = let l = longer us ts in let k = ap length e in (omega arith, le, lt)

-- one step along a list of terms
pub rest_more : (us vs ts : List Term) (i : ℕ) (t : Term) → i < length ts → t ≡ get_or ts i t → vs ≡ with_term us t → with_terms vs (drop (i + 1) ts) ≡ with_terms us (drop i ts)
rest_more us vs ts i t lt is e =
    let next : i + 1 ≡ suc i = omega arith in
    ap (λ (n : ℕ). with_terms vs (drop n ts)) next ∙ ap (λ (ws : List Term). with_terms ws (drop (suc i) ts)) (e ∙ ap (with_term us) is) ∙ sym (ap (with_terms us) (drop-cons ts i t lt))

pub take_more : (ts : List Term) (i : ℕ) (t : Term) → i < length ts → t ≡ get_or ts i t → take (i + 1) ts ≡ take i ts ++ t ∷ []
take_more ts i t lt is = ap (λ (n : ℕ). take n ts) (let next : i + 1 ≡ suc i = omega arith in next) ∙ take-suc ts i t lt ∙ ap (λ (w : Term). take i ts ++ (w ∷ [])) (sym is)

-- the first two terms, named one after the other
pub first_named : with_terms [] first_terms ≡ first_terms
unfolding first_terms
first_named = refl

pub two_first : length first_terms ≡ 2
unfolding first_terms
two_first = refl

-- what the test of two terms tells
pub same_of : (t u : Term) → same_term t u ≡ true → t ≡ u
same_of t u e = term_exact t u (of_eq (term_cmp t u) e)
  where
    of_eq : (c : Ordering) → is_eq c ≡ true → c ≡ Equal
    of_eq Less h = cc
    of_eq Equal h = refl
    of_eq Greater h = cc

pub other_of : (t u : Term) → same_term t u ≡ false → t ≡ u → ⊥
other_of t u e s = let k : term_cmp t u ≡ Equal = subst (λ (w : Term). term_cmp t w ≡ Equal) s (tied_itself term_total t) in let l = ap is_eq k in cc (e, l)

-- one step along a list of which no term stands twice
pub met_next : (ts met more : List Term) (n : ℕ) (t : Term) → IsNumbering ts → n < length ts → t ≡ term_at ts n → met ≡ take n ts → more ≡ with_term met t → more ≡ take (n + 1) ts
met_next ts met more n t apart lt is m e =
    let own : t ≡ get_or ts n t = is ∙ get_or-other ts n (Blank 0 0) t lt in
    let long : length (take n ts) ≡ n = length-take-le n ts (omega (arith, lt)) in
    let absent : Contains (take n ts) t → ⊥ = λ c.
    let below : c.0 < n = (let inside = c.1 in omega (arith, long, inside)) in
    let within : c.0 < length ts = omega (arith, below, lt) in
    let same : term_at ts c.0 ≡ term_at ts n = get_or-other ts c.0 (Blank 0 0) t within ∙ sym (get_or-take n ts c.0 t below) ∙ c.2 ∙ is in
    let equal : c.0 ≡ n = apart c.0 n within lt same in
    absurd (omega (arith, below, equal)) in
    e ∙ ap (λ (us : List Term). with_term us t) m ∙ sym (with_new_term t (take n ts) (take (n + 1) ts) absent (take_more ts n t lt own))
