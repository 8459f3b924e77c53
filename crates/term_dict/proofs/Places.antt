-- Numbers are places, and entries stand by the hashes of their terms.
use Rattle.std.proofs.Common.{◌≡◌, ◌∙◌, ℕ, zero, suc, ◌+◌, ◌<◌, ◌≤◌, List, [], ◌∷◌, ◌++◌, length, get_or, refl, sym, subst, ap, arith, inl, inr, length-append}
use Rattle.std.specs.Prelude.{◌⊎◌, MatchOption, Option, None, Some, slice_get}
use Rattle.std.specs.List.{Contains}
use Rattle.std.proofs.Math.ListN.{get_or-append}
use Rattle.std.proofs.Math.Seq.{get_or-append_seam}
use Rattle.std.proofs.lemmas.Option.{slice_get_within, get_or_from_slice_get}
use Rattle.std.specs.declared.cmp.Ordering.{Ordering}
use Rattle.std.specs.declared.cmp.Ordering.TheVariants.{Less, Equal, Greater}
use Rattle.std.specs.Ordering.{match_ordering, MatchOrdering, nat_cmp, ordering_then}
use Rattle.std.specs.Cmp.{IsTotalOrder, ranks, tied_itself}
use Rattle.std.specs.FinMap.{nat_cmp-IsAntisymmetric}
use Rattle.std.proofs.lemmas.Cmp.{nat_cmp_total}
use Rattle.collections.specs.Ordered.{AllAbove, IsAscending, with_item}
use Rattle.collections.proofs.Members.{has_cases, has_equal, has_tail, below, with_cases, with_new, with_old}
use Rattle.collections.proofs.Ascending.{IsAscending-with_item}
use Rattle.std.proofs.lemmas.List.Elements.{Contains-append_left, Contains-append_right, Contains-push_cases}
use Rattle.page_index.specs.Reading.{AllReached, IsRising, first_reached}
use Rattle.rdf_model.specs.declared.term.Term.{Term}
use Rattle.rdf_model.specs.declared.term.Term.TheVariants.{Blank}
use Rattle.rdf_model.specs.Numbers.{term_at, IsNumbering}
use Rattle.term_dict.specs.declared.entry.ByHash.{ByHash}
use Rattle.term_dict.specs.Entries.{entry, entry_cmp, entries_from}
use Rattle.term_dict.specs.Hashes.{term_hash}
use Rattle.term_dict.specs.Orders.{entry_exact, entry_total}
use Rattle.term_dict.specs.Tables.{AreOne, IsNext, IsNoneFrom, NoneHashed}
use Rattle.term_dict.proofs.Growing.{get_or-other}

-- along ascending entries, those that stand below a place come first
module _ (R : ByHash → ByHash → Ordering) (total : IsTotalOrder R) (f : ByHash → Ordering) (down : (a b : ByHash) → R a b ≡ Less → f b ≡ Less → f a ≡ Less) where
  reached : (e : ByHash) (es : List ByHash) → AllAbove R e es → (f e ≡ Less → ⊥) → AllReached f es
  reached e [] a n = tt
  reached e (d ∷ es) a n = (λ l. n (down e d a.0 l), reached e es a.1 n)

  pub rising : (es : List ByHash) → IsAscending R es → IsRising f es
  rising [] a = tt
  rising (e ∷ es) a = elim (f e) as (λ c. f e ≡ c → MatchOrdering c (IsRising f es) (AllReached f es) (AllReached f es)) [
    | Less ↦ λ h. rising es a.1
    | Equal ↦ λ h. reached e es a.0 (λ l. cc)
    | Greater ↦ λ h. reached e es a.0 (λ l. cc)
  ] refl

-- what is reached first stands there, and nothing that ties stands where none is, or another
module _ (f : ByHash → Ordering) where
  pub first_there : (es : List ByHash) (d : ByHash) → first_reached f es ≡ Some d → Contains es d
  first_there [] d h = cc
  first_there (e ∷ es) d h = elim (f e) as (λ c. match_ordering c (first_reached f es) (Some e) (Some e) ≡ Some d → Contains (e ∷ es) d) [
    | Less ↦ λ k. has_tail e es d (first_there es d k)
    | Equal ↦ λ k. let same : e ≡ d = cc k in has_equal e es d same
    | Greater ↦ λ k. let same : e ≡ d = cc k in has_equal e es d same
  ] h

  pub none_there : (es : List ByHash) (d : ByHash) → first_reached f es ≡ None → Contains es d → f d ≡ Less
  none_there [] d h c = absurd (omega arith)
  none_there (e ∷ es) d h c = elim (f e) as (λ o. f e ≡ o → match_ordering o (first_reached f es) (Some e) (Some e) ≡ None → f d ≡ Less) [
    | Less ↦ λ l k. elim (has_cases e es d c) [ inl s ↦ subst (λ (w : ByHash). f w ≡ Less) s l | inr i ↦ none_there es d k i ]
    | Equal ↦ λ l k. absurd (cc k)
    | Greater ↦ λ l k. absurd (cc k)
  ] refl h

  pub not_below : (es : List ByHash) (d : ByHash) → first_reached f es ≡ Some d → f d ≡ Less → ⊥
  not_below [] d h l = absurd (cc h)
  not_below (e ∷ es) d h l = elim (f e) as (λ o. f e ≡ o → match_ordering o (first_reached f es) (Some e) (Some e) ≡ Some d → ⊥) [
    | Less ↦ λ g k. not_below es d k l
    | Equal ↦ λ g k. let same : e ≡ d = cc k in let m : f e ≡ Less = subst (λ (w : ByHash). f w ≡ Less) (sym same) l in cc (g, m)
    | Greater ↦ λ g k. let same : e ≡ d = cc k in let m : f e ≡ Less = subst (λ (w : ByHash). f w ≡ Less) (sym same) l in cc (g, m)
  ] refl h

  -- what isn't below the place stands where the first such does, or behind it
  pub behind_first : (es : List ByHash) (d x : ByHash) → IsAscending entry_cmp es → first_reached f es ≡ Some d → Contains es x → (f x ≡ Less → ⊥) → (d ≡ x) ⊎ (entry_cmp d x ≡ Less)
  behind_first [] d x a h c n = absurd (omega arith)
  behind_first (e ∷ es) d x a h c n = elim (f e) as (λ o. f e ≡ o → match_ordering o (first_reached f es) (Some e) (Some e) ≡ Some d → (d ≡ x) ⊎ (entry_cmp d x ≡ Less)) [
    | Less ↦ λ l k. elim (has_cases e es x c) [
      | inl s ↦ absurd (n (subst (λ (w : ByHash). f w ≡ Less) s l))
      | inr i ↦ behind_first es d x a.1 k i n
    ]
    | Equal ↦ λ l k. let same : e ≡ d = cc k in elim (has_cases e es x c) [
      | inl s ↦ inl (sym same ∙ s)
      | inr i ↦ inr (subst (λ (w : ByHash). entry_cmp w x ≡ Less) same (below entry_cmp e es x a.0 i))
    ]
    | Greater ↦ λ l k. let same : e ≡ d = cc k in elim (has_cases e es x c) [
      | inl s ↦ inl (sym same ∙ s)
      | inr i ↦ inr (subst (λ (w : ByHash). entry_cmp w x ≡ Less) same (below entry_cmp e es x a.0 i))
    ]
  ] refl h

-- the place of a hash and a number among entries
abbrev pub to_place : ℕ → ℕ → ByHash → Ordering
to_place h m e = entry_cmp e (record { hash = h; number = m })

pub place_down : (h m : ℕ) (a b : ByHash) → entry_cmp a b ≡ Less → to_place h m b ≡ Less → to_place h m a ≡ Less
place_down h m a b l k = entry_total.trans a b (record { hash = h; number = m }) l k

-- the entries of terms, numbered from a place on
pub entries_push : (n : ℕ) (ts : List Term) (t : Term) → entries_from n (ts ++ t ∷ []) ≡ entries_from n ts ++ entry (n + length ts) t ∷ []
entries_push n [] t = ap (λ (m : ℕ). entry m t ∷ []) (omega arith)
entries_push n (u ∷ ts) t = ap (λ (es : List ByHash). entry n u ∷ es) (entries_push (n + 1) ts t ∙ ap (λ (m : ℕ). entries_from (n + 1) ts ++ entry m t ∷ []) (let k : n + 1 + length ts ≡ n + length (u ∷ ts) = omega arith in k))

lowest : (m : ℕ) (us : List Term) (d : ByHash) → Contains (entries_from m us) d → m ≤ d.number
lowest m [] d c = absurd (omega arith)
lowest m (u ∷ us) d c = elim (has_cases (entry m u) (entries_from (m + 1) us) d c) [
  | inl s ↦ let k : m ≡ d.number = ap (λ (w : ByHash). w.number) s in omega arith
  | inr k ↦ let l = lowest (m + 1) us d k in omega arith
]

-- an entry stands at its number
entry_at : (m i : ℕ) (us : List Term) (d : ByHash) → Contains (entries_from m us) d → d.number ≡ m + i → (i < length us) × (term_hash (term_at us i) ≡ d.hash)
entry_at m i [] d c h = absurd (omega arith)
entry_at m zero (u ∷ us) d c h = elim (has_cases (entry m u) (entries_from (m + 1) us) d c) [
  | inl s ↦ (omega arith, ap (λ (w : ByHash). w.hash) s)
  | inr k ↦ absurd (let l = lowest (m + 1) us d k in omega arith)
]
entry_at m (suc i) (u ∷ us) d c h = elim (has_cases (entry m u) (entries_from (m + 1) us) d c) [
  | inl s ↦ absurd (let k : m ≡ d.number = ap (λ (w : ByHash). w.number) s in omega arith)
  | inr k ↦ let l = entry_at (m + 1) i us d k (omega arith) in let b = l.0 in (omega arith, l.1)
]

entry_there : (m i : ℕ) (us : List Term) → i < length us → Contains (entries_from m us) (entry (m + i) (term_at us i))
entry_there m i [] h = absurd (omega arith)
entry_there m zero (u ∷ us) h = has_equal (entry m u) (entries_from (m + 1) us) (entry (m + 0) u) (ap (λ (n : ℕ). entry n u) (let k : m ≡ m + 0 = omega arith in k))
entry_there m (suc i) (u ∷ us) h = has_tail (entry m u) (entries_from (m + 1) us) (entry (m + suc i) (term_at us i)) (subst (λ (n : ℕ). Contains (entries_from (m + 1) us) (entry n (term_at us i))) (let k : m + 1 + i ≡ m + suc i = omega arith in k) (entry_there (m + 1) i us (omega arith)))

-- numbers that are compared where two hashes are one
one_hash : (x y : ℕ) → x ≡ y → nat_cmp x y ≡ Equal
one_hash x y s = subst (λ (z : ℕ). nat_cmp x z ≡ Equal) s (tied_itself nat_cmp_total x)

then_below : (x y n m : ℕ) → x ≡ y → ordering_then (nat_cmp x y) (nat_cmp n m) ≡ Less → n < m
then_below x y n m s h = subst (λ o. MatchOrdering o (n < m) (n ≡ m) (m < n)) (sym (ap (λ o. ordering_then o (nat_cmp n m)) (one_hash x y s)) ∙ h) (ranks n m)

then_from : (x y n m : ℕ) → x ≡ y → (ordering_then (nat_cmp x y) (nat_cmp n m) ≡ Less → ⊥) → m ≤ n
then_from x y n m s f = elim (nat_cmp n m) as (λ o. MatchOrdering o (n < m) (n ≡ m) (m < n) → (o ≡ Less → ⊥) → m ≤ n) [
  | Less ↦ λ r k. absurd (k refl)
  | Equal ↦ λ r k. omega arith
  | Greater ↦ λ r k. omega arith
] (ranks n m) (λ l. f (ap (λ o. ordering_then o (nat_cmp n m)) (one_hash x y s) ∙ l))

-- an entry that isn't below a place, and below another entry of the place's hash, has that hash
hash_of_first : (d : ByHash) (g h k m : ℕ) → g ≡ h → ordering_then (nat_cmp d.hash g) (nat_cmp d.number k) ≡ Less → (to_place h m d ≡ Less → ⊥) → d.hash ≡ h
hash_of_first d g h k m s l n = elim (nat_cmp d.hash h) as (λ o. nat_cmp d.hash h ≡ o → ordering_then o (nat_cmp d.number k) ≡ Less → (ordering_then o (nat_cmp d.number m) ≡ Less → ⊥) → d.hash ≡ h) [
  | Less ↦ λ e i j. absurd (j refl)
  | Equal ↦ λ e i j. nat_cmp-IsAntisymmetric d.hash h e
  | Greater ↦ λ e i j. cc i
] refl (subst (λ (z : ℕ). ordering_then (nat_cmp d.hash z) (nat_cmp d.number k) ≡ Less) s l) n

module _ (h m : ℕ) (us : List Term) (es : List ByHash) (o : AreOne us es) where
  -- a term of the hash with a number from m on has an entry that isn't below the place
  entry_reached : (n : ℕ) → m ≤ n → n < length us → term_hash (term_at us n) ≡ h → Contains es (entry (0 + n) (term_at us n)) × (to_place h m (entry (0 + n) (term_at us n)) ≡ Less → ⊥)
  entry_reached n up within is = (
    (o.same (entry (0 + n) (term_at us n))).0 (entry_there 0 n us within),
    λ l. let k = then_below (term_hash (term_at us n)) h (0 + n) m is l in absurd (omega arith),
  )

  -- it is the first one that isn't, or stands behind that
  passed : (d : ByHash) (n : ℕ) → first_reached (to_place h m) es ≡ Some d → m ≤ n → n < length us → term_hash (term_at us n) ≡ h → (d.hash ≡ h) × (d.number ≤ n)
  passed d n r up within is =
      let there = entry_reached n up within is in
      elim (behind_first (to_place h m) es d (entry (0 + n) (term_at us n)) o.ascending r there.0 there.1) [
        | inl s ↦ let k : d.number ≡ 0 + n = ap (λ (w : ByHash). w.number) s in (ap (λ (w : ByHash). w.hash) s ∙ is, omega arith)
        | inr l ↦
            let s : d.hash ≡ h = hash_of_first d (term_hash (term_at us n)) h (0 + n) m is l (not_below (to_place h m) es d r) in
            let k = then_below d.hash (term_hash (term_at us n)) d.number (0 + n) (s ∙ sym is) l in
            (s, omega arith)
      ]

  pub next_there : (d : ByHash) → first_reached (to_place h m) es ≡ Some d → d.hash ≡ h → IsNext us h m d.number
  next_there d r s =
      let place = entry_at 0 d.number us d ((o.same d).1 (first_there (to_place h m) es d r)) (omega arith) in
      record {
        reached = then_from d.hash h d.number m s (not_below (to_place h m) es d r);
        within = place.0;
        hashed = place.1 ∙ s;
        none = λ n up under within is. (let p = (passed d n r up within is).1 in absurd (omega arith));
      }

  pub other_hash : (d : ByHash) → first_reached (to_place h m) es ≡ Some d → (d.hash ≡ h → ⊥) → NoneHashed us h m (length us)
  other_hash d r other n up under within is = other (passed d n r up within is).0

  pub none_hashed : first_reached (to_place h m) es ≡ None → NoneHashed us h m (length us)
  none_hashed r n up under within is = let there = entry_reached n up within is in there.1 (none_there (to_place h m) es (entry (0 + n) (term_at us n)) r there.0)

-- where the next number isn't the term's, one behind it is, or none
pub none_behind : (us : List Term) (t : Term) (h m n : ℕ) → h ≡ term_hash t → IsNext us h m n → (term_at us n ≡ t → ⊥) → IsNoneFrom us (n + 1) t → IsNoneFrom us m t
none_behind us t h m n s next other rest k up within is = elim (nat_cmp k n) as (λ o. MatchOrdering o (k < n) (k ≡ n) (n < k) → ⊥) [
  | Less ↦ λ l. next.none k up l within (ap term_hash is ∙ sym s)
  | Equal ↦ λ l. other (subst (λ (i : ℕ). term_at us i ≡ t) l is)
  | Greater ↦ λ l. rest k (omega arith) within is
] (ranks k n)

pub none_of_hash : (us : List Term) (t : Term) (h m : ℕ) → h ≡ term_hash t → NoneHashed us h m (length us) → IsNoneFrom us m t
none_of_hash us t h m s none k up within is = none k up within within (ap term_hash is ∙ sym s)

-- what holds where there is no number, in other words
pub none_weaker : {P Q : Type 0} (o : Option ℕ) (R : ℕ → Type 0) → (P → Q) → MatchOption o P R → MatchOption o Q R
none_weaker None R f h = f h
none_weaker (Some n) R f h = h

-- a term without a number isn't among the terms
pub not_named : (us : List Term) (t : Term) → IsNoneFrom us 0 t → Contains us t → ⊥
not_named us t none c = none c.0 (omega arith) c.1 (get_or-other us c.0 (Blank 0 0) t c.1 ∙ c.2)

-- a new term has a number of its own
numbering_push : (us : List Term) (t : Term) → IsNumbering us → (Contains us t → ⊥) → IsNumbering (us ++ t ∷ [])
numbering_push us t o free n m p q e =
    let long = length-append us (t ∷ []) in
    elim (nat_cmp n (length us)) as (λ c. MatchOrdering c (n < length us) (n ≡ length us) (length us < n) → n ≡ m) [
      | Less ↦ λ l. elim (nat_cmp m (length us)) as (λ c. MatchOrdering c (m < length us) (m ≡ length us) (length us < m) → n ≡ m) [
        | Less ↦ λ k. o n m l k (sym (front n l) ∙ e ∙ front m k)
        | Equal ↦ λ k. absurd (apart n l (sym (front n l) ∙ e ∙ last m k))
        | Greater ↦ λ k. absurd (omega arith)
      ] (ranks m (length us))
      | Equal ↦ λ l. elim (nat_cmp m (length us)) as (λ c. MatchOrdering c (m < length us) (m ≡ length us) (length us < m) → n ≡ m) [
        | Less ↦ λ k. absurd (apart m k (sym (front m k) ∙ sym e ∙ last n l))
        | Equal ↦ λ k. l ∙ sym k
        | Greater ↦ λ k. absurd (omega arith)
      ] (ranks m (length us))
      | Greater ↦ λ l. absurd (omega arith)
    ] (ranks n (length us))
  where
    front : (i : ℕ) → i < length us → term_at (us ++ t ∷ []) i ≡ term_at us i
    front i l = get_or-append us (t ∷ []) (Blank 0 0) i l

    last : (i : ℕ) → i ≡ length us → term_at (us ++ t ∷ []) i ≡ t
    last i l = ap (λ (k : ℕ). get_or (us ++ t ∷ []) k (Blank 0 0)) l ∙ get_or-append_seam us t [] (Blank 0 0)

    apart : (i : ℕ) → i < length us → term_at us i ≡ t → ⊥
    apart i l s = free (i, l, get_or-other us i t (Blank 0 0) l ∙ s)

one_more : (t : Term) (us : List Term) (es : List ByHash) → AreOne us es → (Contains us t → ⊥) → AreOne (us ++ t ∷ []) (with_item entry_cmp (entry (length us) t) es)
one_more t us es o n =
    let x = entry (length us) t in
    let pushed : entries_from 0 (us ++ t ∷ []) ≡ entries_from 0 us ++ x ∷ [] = entries_push 0 us t ∙ ap (λ (m : ℕ). entries_from 0 us ++ entry m t ∷ []) (let k : 0 + length us ≡ length us = omega arith in k) in
    record {
      ascending = IsAscending-with_item entry_total x es o.ascending;
      same = λ e. (
        λ c. elim (Contains-push_cases (entries_from 0 us) x e (subst (λ (ds : List ByHash). Contains ds e) pushed c)) [ inl i ↦ with_old entry_cmp x es e ((o.same e).0 i) | inr s ↦ subst (λ (w : ByHash). Contains (with_item entry_cmp x es) w) s (with_new entry_cmp entry_total entry_exact x es) ],
        λ c. subst (λ (ds : List ByHash). Contains ds e) (sym pushed) (elim (with_cases entry_cmp x es e c) [ inl s ↦ Contains-append_right (entries_from 0 us) (x ∷ []) e (has_equal x [] e s) | inr i ↦ Contains-append_left (entries_from 0 us) (x ∷ []) e ((o.same e).1 i) ]),
      );
      apart = numbering_push us t o.apart n;
    }

pub one_more_as : (t : Term) (h n : ℕ) (us vs : List Term) (es ds : List ByHash) → AreOne us es → h ≡ term_hash t → n ≡ length us → (Contains us t → ⊥) → vs ≡ us ++ t ∷ [] → ds ≡ with_item entry_cmp (record { hash = h; number = n }) es → AreOne vs ds
one_more_as t h n us vs es ds o s e free p q =
    let is : record { hash = h; number = n } ≡ entry (length us) t = λ i. record { hash = s i; number = e i } in
    subst (λ (ws : List Term). AreOne ws ds) (sym p) (subst (λ (l : List ByHash). AreOne (us ++ t ∷ []) l) (sym (q ∙ ap (λ (x : ByHash). with_item entry_cmp x es) is)) (one_more t us es o free))

-- the term at a number
pub term_found : (us : List Term) (n : ℕ) (t : Term) → slice_get us n ≡ Some t → (n < length us) × (t ≡ term_at us n)
term_found us n t g = (slice_get_within us n t g, sym (get_or_from_slice_get us n t (Blank 0 0) g))
