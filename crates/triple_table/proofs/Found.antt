-- Terms that are found by their hashes, as more terms come.
use Rattle.std.proofs.Common.{◌≡◌, ◌∙◌, ℕ, ◌+◌, ◌<◌, ◌≤◌, ◌^◌, List, [], ◌∷◌, ◌++◌, length, get_or, true, false, refl, sym, subst, ap, arith, inl, inr, length-append}
use Rattle.std.specs.Prelude.{Option, None, Some, nat_eq}
use Rattle.std.specs.List.{Contains}
use Rattle.std.proofs.Math.ListN.{get_or-append}
use Rattle.std.proofs.Math.Seq.{get_or-append_seam}
use Rattle.std.specs.Ordering.{MatchOrdering, nat_cmp}
use Rattle.std.specs.declared.cmp.Ordering.TheVariants.{Less, Equal, Greater}
use Rattle.std.specs.Cmp.{ranks}
use Rattle.std.proofs.lemmas.Bool.{cases_eq, eqb-true}
use Rattle.rdf_model.specs.declared.term.Term.{Term}
use Rattle.rdf_model.specs.declared.term.Term.TheVariants.{Blank}
use Rattle.rdf_model.specs.Numbers.{IsNumbering, term_at}
use Rattle.triple_table.specs.Hashes.{term_hash}
use Rattle.triple_table.specs.Tables.{AreOne, IsLeft, IsNewest}
use Rattle.triple_table.proofs.Ranking.{get_or-other}

-- what is newest below a bound depends on the terms below it alone
same_newest : (us vs : List Term) (h below : ℕ) (o : Option ℕ) → ((k : ℕ) → k < below → term_at us k ≡ term_at vs k) → IsNewest us h below o → IsNewest vs h below o
same_newest us vs h below None s n = λ k f l e. n k f l (ap term_hash (s k l) ∙ e)
same_newest us vs h below (Some m) s n = record {
  within = n.within;
  hashed = ap term_hash (sym (s m n.within)) ∙ n.hashed;
  none = λ k f l e. n.none k f l (ap term_hash (s k l) ∙ e);
}

-- a term of another hash changes nothing
below_or : (k n : ℕ) → k < n + 1 → (k ≡ n → ⊥) → k < n
below_or k n l f = elim (nat_cmp k n) as (λ c. MatchOrdering c (k < n) (k ≡ n) (n < k) → k < n) [
  | Less ↦ λ h. h
  | Equal ↦ λ h. absurd (f h)
  | Greater ↦ λ h. absurd (omega arith)
] (ranks k n)

passed_newest : (us : List Term) (h below : ℕ) (o : Option ℕ) → (term_hash (term_at us below) ≡ h → ⊥) → IsNewest us h below o → IsNewest us h (below + 1) o
passed_newest us h below None f n = λ k from l e. n k from (below_or k below l (λ s. f (subst (λ (i : ℕ). term_hash (term_at us i) ≡ h) s e))) e
passed_newest us h below (Some m) f n = record {
  within = (let w = n.within in omega arith);
  hashed = n.hashed;
  none = λ k from l e. n.none k from (below_or k below l (λ s. f (subst (λ (i : ℕ). term_hash (term_at us i) ≡ h) s e))) e;
}

-- a new term has a number of its own
module _ (us : List Term) (t : Term) where
  front : (i : ℕ) → i < length us → term_at (us ++ t ∷ []) i ≡ term_at us i
  front i l = get_or-append us (t ∷ []) (Blank 0 0) i l

  at_end : (i : ℕ) → i ≡ length us → term_at (us ++ t ∷ []) i ≡ t
  at_end i l = ap (λ (k : ℕ). get_or (us ++ t ∷ []) k (Blank 0 0)) l ∙ get_or-append_seam us t [] (Blank 0 0)

  module _ (free : Contains us t → ⊥) where
    apart : (i : ℕ) → i < length us → term_at us i ≡ t → ⊥
    apart i l s = free (i, l, get_or-other us i t (Blank 0 0) l ∙ s)

    numbering_push : IsNumbering us → IsNumbering (us ++ t ∷ [])
    numbering_push o n m p q e =
        let long = length-append us (t ∷ []) in
        elim (nat_cmp n (length us)) as (λ c. MatchOrdering c (n < length us) (n ≡ length us) (length us < n) → n ≡ m) [
          | Less ↦ λ l. elim (nat_cmp m (length us)) as (λ c. MatchOrdering c (m < length us) (m ≡ length us) (length us < m) → n ≡ m) [
            | Less ↦ λ k. o n m l k (sym (front n l) ∙ e ∙ front m k)
            | Equal ↦ λ k. absurd (apart n l (sym (front n l) ∙ e ∙ at_end m k))
            | Greater ↦ λ k. absurd (omega arith)
          ] (ranks m (length us))
          | Equal ↦ λ l. elim (nat_cmp m (length us)) as (λ c. MatchOrdering c (m < length us) (m ≡ length us) (length us < m) → n ≡ m) [
            | Less ↦ λ k. absurd (apart m k (sym (front m k) ∙ sym e ∙ at_end n l))
            | Equal ↦ λ k. l ∙ sym k
            | Greater ↦ λ k. absurd (omega arith)
          ] (ranks m (length us))
          | Greater ↦ λ l. absurd (omega arith)
        ] (ranks n (length us))

  module _ (h : ℕ) (f g : ℕ → Option ℕ) (os : List (Option ℕ)) (one : AreOne us f os) (is : h ≡ term_hash t) (here : g h ≡ Some (length us)) (others : (q : ℕ) → nat_eq h q ≡ false → g q ≡ f q) where
    old_newest : (q below : ℕ) (o : Option ℕ) → below ≤ length us → IsNewest us q below o → IsNewest (us ++ t ∷ []) q below o
    old_newest q below o l n = same_newest us (us ++ t ∷ []) q below o (λ k b. sym (front k (omega arith))) n

    -- the new number is the newest of its hash
    own_newest : IsNewest (us ++ t ∷ []) h (length us + 1) (Some (length us))
    own_newest = record {
      within = omega arith;
      hashed = ap term_hash (at_end (length us) refl) ∙ sym is;
      none = λ k from l e. absurd (omega arith);
    }

    other_hash : (q : ℕ) → (h ≡ q → ⊥) → nat_eq h q ≡ false
    other_hash q n = elim (nat_eq h q) as (λ b. nat_eq h q ≡ b → b ≡ false) [
      | true ↦ λ e. absurd (n (eqb-true h q e))
      | false ↦ λ e. refl
    ] refl

    pub last_more : (q : ℕ) → IsNewest (us ++ t ∷ []) q (length us + 1) (g q)
    last_more q = elim (cases_eq h q) [
      | inl s ↦ subst (λ (i : ℕ). IsNewest (us ++ t ∷ []) i (length us + 1) (g i)) s (subst (λ (o : Option ℕ). IsNewest (us ++ t ∷ []) h (length us + 1) o) (sym here) own_newest)
      | inr n ↦ subst (λ (o : Option ℕ). IsNewest (us ++ t ∷ []) q (length us + 1) o) (sym (others q (other_hash q n)))
          (passed_newest (us ++ t ∷ []) q (length us) (f q) (λ e. n (is ∙ sym (ap term_hash (at_end (length us) refl)) ∙ e)) (old_newest q (length us) (f q) (omega arith) (one.last q)))
    ]

    pub before_more : (n : ℕ) → n < length (us ++ t ∷ []) → IsNewest (us ++ t ∷ []) (term_hash (term_at (us ++ t ∷ []) n)) n (get_or (os ++ f h ∷ []) n None)
    before_more n l = elim (nat_cmp n (length us)) as (λ c. MatchOrdering c (n < length us) (n ≡ length us) (length us < n) → IsNewest (us ++ t ∷ []) (term_hash (term_at (us ++ t ∷ []) n)) n (get_or (os ++ f h ∷ []) n None)) [
      | Less ↦ λ b.
          let k = one.long in
          let place : get_or (os ++ f h ∷ []) n None ≡ get_or os n None = get_or-append os (f h ∷ []) None n (omega arith) in
          subst (λ (o : Option ℕ). IsNewest (us ++ t ∷ []) (term_hash (term_at (us ++ t ∷ []) n)) n o) (sym place)
          (subst (λ (u : Term). IsNewest (us ++ t ∷ []) (term_hash u) n (get_or os n None)) (sym (front n b)) (old_newest (term_hash (term_at us n)) n (get_or os n None) (omega arith) (one.before n b)))
      | Equal ↦ λ b.
          let k : n ≡ length os = b ∙ sym one.long in
          let place : get_or (os ++ f h ∷ []) n None ≡ f h = ap (λ (i : ℕ). get_or (os ++ f h ∷ []) i None) k ∙ get_or-append_seam os (f h) [] None in
          subst (λ (o : Option ℕ). IsNewest (us ++ t ∷ []) (term_hash (term_at (us ++ t ∷ []) n)) n o) (sym place)
          (subst (λ (i : ℕ). IsNewest (us ++ t ∷ []) i n (f h)) (is ∙ sym (ap term_hash (at_end n b)))
          (subst (λ (i : ℕ). IsNewest (us ++ t ∷ []) h i (f h)) (sym b) (old_newest h (length us) (f h) (omega arith) (one.last h))))
      | Greater ↦ λ b. absurd (let long = length-append us (t ∷ []) in omega arith)
    ] (ranks n (length us))

pub one_more : (us vs : List Term) (t : Term) (h : ℕ) (f g : ℕ → Option ℕ) (os ps : List (Option ℕ)) → AreOne us f os → h ≡ term_hash t → length us + 1 < 2 ^ 32 → (Contains us t → ⊥) → vs ≡ us ++ t ∷ [] → ps ≡ os ++ f h ∷ [] → g h ≡ Some (length us) → ((q : ℕ) → nat_eq h q ≡ false → g q ≡ f q) → AreOne vs g ps
one_more us vs t h f g os ps one is fits free v p here others =
    let long = length-append us (t ∷ []) in
    let more = length-append os (f h ∷ []) in
    let same = one.long in
    let k : length us + 1 ≡ length (us ++ t ∷ []) = omega arith in
    subst (λ (ws : List Term). AreOne ws g ps) (sym v) (subst (λ (qs : List (Option ℕ)). AreOne (us ++ t ∷ []) g qs) (sym p) (record {
      long = omega arith;
      fits = omega arith;
      apart = numbering_push us t free one.apart;
      last = λ q. subst (λ (i : ℕ). IsNewest (us ++ t ∷ []) q i (g q)) k (last_more us t h f g os one is here others q);
      before = before_more us t h f g os one is here others;
    }))

-- no terms
pub one_of_none : (f : ℕ → Option ℕ) → ((h : ℕ) → f h ≡ None) → AreOne [] f []
one_of_none f n = record {
  long = refl;
  fits = omega arith;
  apart = λ i j p q e. absurd (omega arith);
  last = λ h. subst (λ (o : Option ℕ). IsNewest [] h 0 o) (sym (n h)) (λ k from l e. absurd (omega arith));
  before = λ i l. absurd (omega arith);
}

-- where a term may be, as numbers with its hash are gone through
pub left_first : (us : List Term) (t : Term) (h : ℕ) (o : Option ℕ) → h ≡ term_hash t → IsNewest us h (length us) o → IsLeft us t o
left_first us t h None is n = λ k l e. n k (omega arith) l (ap term_hash e ∙ sym is)
left_first us t h (Some m) is n = (n.within, n.hashed ∙ is, λ k f l e. n.none k (omega arith) l (ap term_hash e ∙ sym is))

elsewhere : (us : List Term) (t : Term) (n m : ℕ) → IsLeft us t (Some n) → (term_at us n ≡ t → ⊥) → ((k : ℕ) → m ≤ k → k < n → term_hash (term_at us k) ≡ term_hash (term_at us n) → ⊥) → (k : ℕ) → m ≤ k → k < length us → term_at us k ≡ t → ⊥
elsewhere us t n m left other none k from l e = elim (nat_cmp k n) as (λ c. MatchOrdering c (k < n) (k ≡ n) (n < k) → ⊥) [
  | Less ↦ λ b. none k from b (ap term_hash e ∙ sym left.1)
  | Equal ↦ λ b. other (subst (λ (i : ℕ). term_at us i ≡ t) b e)
  | Greater ↦ λ b. left.2 k b l e
] (ranks k n)

pub left_next : (us : List Term) (t : Term) (n : ℕ) (o : Option ℕ) → IsLeft us t (Some n) → (term_at us n ≡ t → ⊥) → IsNewest us (term_hash (term_at us n)) n o → IsLeft us t o
left_next us t n None left other none = λ k l e. elsewhere us t n 0 left other none k (omega arith) l e
left_next us t n (Some m) left other none =
    let w = none.within in
    let within = left.0 in
    (omega arith, none.hashed ∙ left.1, λ k f l e. elsewhere us t n (m + 1) left other none.none k (omega arith) l e)

pub not_left : (us : List Term) (t : Term) → IsLeft us t None → Contains us t → ⊥
not_left us t left c = left c.0 c.1 (get_or-other us c.0 (Blank 0 0) t c.1 ∙ c.2)

-- how many numbers are left
abbrev pub left_count : Option ℕ → ℕ
left_count None = 0
left_count (Some n) = n + 1
