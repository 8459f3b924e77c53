-- The ranks of terms that are sorted.
use Rattle.std.proofs.Common.{Bool, true, false, ◌≡◌, ◌∙◌, ℕ, zero, suc, ◌+◌, ◌<◌, List, [], ◌∷◌, ◌++◌, length, get_or, set, take, refl, sym, subst, ap, arith, inl, inr}
use Rattle.std.specs.Prelude.{◌⊎◌, ◌||◌, ◌==◌, IsTrue, cond}
use Rattle.std.specs.List.{AllByRecursion, Contains, filter}
use Rattle.std.proofs.lemmas.Bool.{cases_eq, cases_lt, eq-eqb, eqb-true}
use Rattle.std.proofs.lemmas.List.{append-nil, get_or-map, get_or-set_same, get_or-set_other, length-map, length-set, take_more}
use Rattle.std.proofs.lemmas.List.Elements.{filter-append}
use Rattle.std.proofs.lemmas.List.Folds.{list_any-append}
use Rattle.std.specs.declared.cmp.Ordering.{Ordering}
use Rattle.std.specs.declared.cmp.Ordering.TheVariants.{Less, Equal, Greater}
use Rattle.std.specs.Ordering.{nat_cmp, ordering_then}
use Rattle.std.specs.Cmp.{tied_itself}
use Rattle.std.proofs.lemmas.Cmp.{nat_cmp_total}
use Rattle.collections.specs.Listings.{IsListing}
use Rattle.collections.specs.Ordered.{AllAbove, IsAscending}
use Rattle.collections.proofs.Members.{has_cases, has_equal, has_tail}
use Rattle.rdf_model.specs.declared.ids.Ids.{Ids}
use Rattle.rdf_model.specs.declared.term.Term.{Term}
use Rattle.rdf_model.specs.declared.term.Term.TheVariants.{Blank}
use Rattle.rdf_model.specs.Numbers.{AreNumbered, IsNumbering, term_at}
use Rattle.rdf_model.specs.Orders.{term_exact}
use Rattle.rdf_model.specs.Terms.{term_cmp}
use Rattle.triple_table.specs.Keys.{HasBytes, term_key}
use Rattle.triple_table.proofs.KeyOrder.{key_then}
use Rattle.triple_table.specs.Ranks.{AreMarks, AreRanks, AreWithin, HasRank, HaveBytes, IsRanking, Placed, is_marked, is_used, placed_at, placed_cmp, placed_from, placed_marked, rank_at, terms_of}

-- what stands at a place, whatever would be taken where nothing does
pub get_or-other : {X : Type 0} (xs : List X) (n : ℕ) (d e : X) → n < length xs → get_or xs n d ≡ get_or xs n e
get_or-other [] n d e l = absurd (omega arith)
get_or-other (x ∷ xs) zero d e l = refl
get_or-other (x ∷ xs) (suc n) d e l = get_or-other xs n d e (omega arith)

abbrev placed_as : List ℕ → Term → ℕ → Placed
placed_as bs t n = record { key = term_key bs t; term = t; place = n }

-- one more term with its place
placed_push : (bs : List ℕ) (n : ℕ) (ts : List Term) (t : Term) → placed_from bs n (ts ++ t ∷ []) ≡ placed_from bs n ts ++ placed_as bs t (n + length ts) ∷ []
placed_push bs n [] t = let k : n ≡ n + 0 = omega arith in λ j. placed_as bs t (k j) ∷ []
placed_push bs n (u ∷ ts) t =
    let k : n + 1 + length ts ≡ n + length (u ∷ ts) = omega arith in
    ap (λ (ps : List Placed). placed_as bs u n ∷ ps) (placed_push bs (n + 1) ts t ∙ (λ j. placed_from bs (n + 1) ts ++ placed_as bs t (k j) ∷ []))

length-taken : (i : ℕ) (ts : List Term) → i < length ts → length (take i ts) ≡ i
length-taken zero ts l = refl
length-taken (suc i) [] l = absurd (omega arith)
length-taken (suc i) (t ∷ ts) l = ap suc (length-taken i ts (omega arith))

placed_more : (bs : List ℕ) (ts : List Term) (i : ℕ) (t : Term) → i < length ts → t ≡ get_or ts i t → placed_from bs 0 (take (i + 1) ts) ≡ placed_from bs 0 (take i ts) ++ placed_as bs t i ∷ []
placed_more bs ts i t lt is =
    let long : 0 + length (take i ts) ≡ i = (let k = length-taken i ts lt in omega arith) in
    ap (λ (us : List Term). placed_from bs 0 us) (take_more ts i t lt)
    ∙ placed_push bs 0 (take i ts) (get_or ts i t)
    ∙ (λ j. placed_from bs 0 (take i ts) ++ placed_as bs (sym is j) (long j) ∷ [])

marked_more : (bs : List ℕ) (marks : List Bool) (ts : List Term) (i : ℕ) (t : Term) (b : Bool) → i < length ts → t ≡ get_or ts i t → is_marked marks i ≡ b → placed_marked bs marks (take (i + 1) ts) ≡ placed_marked bs marks (take i ts) ++ cond b (placed_as bs t i ∷ []) []
marked_more bs marks ts i t b lt is m =
    ap (λ (ps : List Placed). filter (λ (p : Placed). is_marked marks p.place) ps) (placed_more bs ts i t lt is)
    ∙ filter-append (λ (p : Placed). is_marked marks p.place) (placed_from bs 0 (take i ts)) (placed_as bs t i ∷ [])
    ∙ ap (λ c. placed_marked bs marks (take i ts) ++ cond c (placed_as bs t i ∷ []) []) m

bytes_push : (ps : List Placed) (p : Placed) → HaveBytes ps → HasBytes p.term → HaveBytes (ps ++ p ∷ [])
bytes_push [] p a h = (h, tt)
bytes_push (q ∷ ps) p a h = (a.0, bytes_push ps p a.1 h)

pub placed_step : (bs : List ℕ) (marks : List Bool) (ts : List Term) (i k p : ℕ) (t u : Term) (old new : List Placed) → i < length ts → u ≡ get_or ts i u → t ≡ u → p ≡ i → is_marked marks i ≡ true → k ≡ term_key bs t → HasBytes t → (old ≡ placed_marked bs marks (take i ts)) × HaveBytes old
    → new ≡ old ++ record { key = k; term = t; place = p } ∷ [] → (new ≡ placed_marked bs marks (take (i + 1) ts)) × HaveBytes new
placed_step bs marks ts i k p t u old new lt is same at m key has o n = (
  n ∙ (λ j. o.0 j ++ record { key = (key ∙ ap (term_key bs) same) j; term = same j; place = at j } ∷ []) ∙ sym (marked_more bs marks ts i u true lt is m),
  subst (λ (ps : List Placed). HaveBytes ps) (sym n) (bytes_push old (record { key = k; term = t; place = p }) o.1 has),
)

pub passed_step : (bs : List ℕ) (marks : List Bool) (ts : List Term) (i : ℕ) (u : Term) (old : List Placed) → i < length ts → u ≡ get_or ts i u → is_marked marks i ≡ false → old ≡ placed_marked bs marks (take i ts) → old ≡ placed_marked bs marks (take (i + 1) ts)
passed_step bs marks ts i u old lt is m o = o ∙ sym (append-nil (placed_marked bs marks (take i ts))) ∙ sym (marked_more bs marks ts i u false lt is m)

-- the tests of numbers
or_true : (b : Bool) → (b || true) ≡ true
or_true true = refl
or_true false = refl

or_false : (b : Bool) → (b || false) ≡ b
or_false true = refl
or_false false = refl

unequal : (n m : ℕ) → (n ≡ m → ⊥) → (n == m) ≡ false
unequal n m f = elim (n == m) as (λ b. (n == m) ≡ b → b ≡ false) [
  | true ↦ λ e. absurd (f (eqb-true n m e))
  | false ↦ λ e. refl
] refl

-- the numbers of one triple more
used_push : (ids : List Ids) (i : Ids) (n : ℕ) → is_used (ids ++ i ∷ []) n ≡ (is_used ids n || (i.subject == n || i.predicate == n))
used_push ids i n =
    list_any-append (λ (k : Ids). k.subject == n || k.predicate == n) ids (i ∷ [])
    ∙ ap (λ b. is_used ids n || b) (or_false (i.subject == n || i.predicate == n))

pub used_each : (ids : List Ids) (i : Ids) → Contains ids i → IsTrue (is_used ids i.subject) × IsTrue (is_used ids i.predicate)
used_each [] i c = absurd (omega arith)
used_each (k ∷ ids) i c = elim (has_cases k ids i c) [
  | inl e ↦ (
    ap (λ b. (b || k.predicate == i.subject) || is_used ids i.subject) (eq-eqb k.subject i.subject (ap (λ (j : Ids). j.subject) e)),
    ap (λ b. (k.subject == i.predicate || b) || is_used ids i.predicate) (eq-eqb k.predicate i.predicate (ap (λ (j : Ids). j.predicate) e)) ∙ ap (λ b. b || is_used ids i.predicate) (or_true (k.subject == i.predicate)),
  )
  | inr d ↦
      let r = used_each ids i d in (
        ap (λ b. (k.subject == i.subject || k.predicate == i.subject) || b) r.0 ∙ or_true (k.subject == i.subject || k.predicate == i.subject),
        ap (λ b. (k.subject == i.predicate || k.predicate == i.predicate) || b) r.1 ∙ or_true (k.subject == i.predicate || k.predicate == i.predicate),
      )
]

-- the marks of one triple more
abbrev pub with_marks : List Bool → Ids → List Bool
with_marks marks i = set (set marks i.subject true) i.predicate true

module _ (marks : List Bool) (ids : List Ids) (i : Ids) (one : i.subject < length marks) (two : i.predicate < length (set marks i.subject true)) (m : AreMarks marks ids) where
  marks_push : (n : ℕ) → is_marked (with_marks marks i) n ≡ (is_used ids n || (i.subject == n || i.predicate == n))
  marks_push n = elim (cases_eq i.predicate n) [
    | inl e ↦
        ap (λ k. is_marked (with_marks marks i) k) (sym e) ∙ get_or-set_same (set marks i.subject true) i.predicate true false two
        ∙ sym (ap (λ b. is_used ids n || (i.subject == n || b)) (eq-eqb i.predicate n e) ∙ ap (λ b. is_used ids n || b) (or_true (i.subject == n)) ∙ or_true (is_used ids n))
    | inr f ↦ get_or-set_other (set marks i.subject true) i.predicate n true false (λ e. f (sym e)) ∙ elim (cases_eq i.subject n) [
      | inl e ↦
          ap (λ k. is_marked (set marks i.subject true) k) (sym e) ∙ get_or-set_same marks i.subject true false one
          ∙ sym (ap (λ b. is_used ids n || (b || i.predicate == n)) (eq-eqb i.subject n e) ∙ or_true (is_used ids n))
      | inr g ↦
          get_or-set_other marks i.subject n true false (λ e. g (sym e)) ∙ m n
          ∙ sym (ap (λ b. is_used ids n || (b || i.predicate == n)) (unequal i.subject n g) ∙ ap (λ b. is_used ids n || b) (unequal i.predicate n f) ∙ or_false (is_used ids n))
    ]
  ]

pub numbered_at : (ts : List Term) (ids : List Ids) (n : ℕ) (d : Ids) → n < length ids → AreNumbered ts ids → ((get_or ids n d).subject < length ts) × ((get_or ids n d).predicate < length ts)
numbered_at ts [] n d lt a = absurd (omega arith)
numbered_at ts (i ∷ ids) zero d lt a = (a.0.0, a.0.1)
numbered_at ts (i ∷ ids) (suc n) d lt a = numbered_at ts ids n d (omega arith) a.1

pub marks_step : (ts : List Term) (ids : List Ids) (n : ℕ) (i : Ids) (marks : List Bool) → n < length ids → i ≡ get_or ids n i → AreNumbered ts ids → length marks ≡ length ts → AreMarks marks (take n ids) → (length (with_marks marks i) ≡ length ts) × AreMarks (with_marks marks i) (take (n + 1) ids)
marks_step ts ids n i marks lt is a long m =
    let within = subst (λ (k : Ids). (k.subject < length ts) × (k.predicate < length ts)) (sym is) (numbered_at ts ids n i lt a) in
    let first = length-set marks i.subject true in
    let second = length-set (set marks i.subject true) i.predicate true in
    let one : i.subject < length marks = (let k = within.0 in omega arith) in
    let two : i.predicate < length (set marks i.subject true) = (let k = within.1 in omega arith) in
    let more : take n ids ++ i ∷ [] ≡ take (n + 1) ids = (λ j. take n ids ++ is j ∷ []) ∙ sym (take_more ids n i lt) in
    (second ∙ first ∙ long, λ k. marks_push marks (take n ids) i one two m k ∙ sym (used_push (take n ids) i k) ∙ ap (λ (is : List Ids). is_used is k) more)

-- a term stands with its place, and what stands there is such
placed_there : (bs : List ℕ) (m i : ℕ) (ts : List Term) → i < length ts → Contains (placed_from bs m ts) (placed_as bs (term_at ts i) (m + i))
placed_there bs m i [] l = absurd (omega arith)
placed_there bs m zero (t ∷ ts) l = has_equal (placed_as bs t m) (placed_from bs (m + 1) ts) (placed_as bs t (m + 0)) (let k : m ≡ m + 0 = omega arith in λ j. placed_as bs t (k j))
placed_there bs m (suc i) (t ∷ ts) l =
    has_tail (placed_as bs t m) (placed_from bs (m + 1) ts) (placed_as bs (term_at ts i) (m + suc i))
    (subst (λ (n : ℕ). Contains (placed_from bs (m + 1) ts) (placed_as bs (term_at ts i) n)) (let k : m + 1 + i ≡ m + suc i = omega arith in k) (placed_there bs (m + 1) i ts (omega arith)))

record IsPlaced (bs : List ℕ) (m : ℕ) (ts : List Term) (p : Placed) : Type 0 where
  at : ℕ
  within : at < length ts
  key : p.key ≡ term_key bs p.term
  place : p.place ≡ m + at
  term : p.term ≡ term_at ts at

placed_is : (bs : List ℕ) (m : ℕ) (ts : List Term) (p : Placed) → Contains (placed_from bs m ts) p → IsPlaced bs m ts p
placed_is bs m [] p c = absurd (omega arith)
placed_is bs m (t ∷ ts) p c = elim (has_cases (placed_as bs t m) (placed_from bs (m + 1) ts) p c) [
  | inl e ↦ record {
    at = 0;
    within = omega arith;
    key = sym (ap (λ (q : Placed). q.key) e) ∙ ap (λ (q : Placed). term_key bs q.term) e;
    place = sym (ap (λ (q : Placed). q.place) e) ∙ (let k : m ≡ m + 0 = omega arith in k);
    term = sym (ap (λ (q : Placed). q.term) e);
  }
  | inr d ↦
      let r = placed_is bs (m + 1) ts p d in
      let in_rest = r.within in
      record { at = suc r.at; within = omega arith; key = r.key; place = r.place ∙ (let k : m + 1 + r.at ≡ m + suc r.at = omega arith in k); term = r.term }
]

-- what stands in a filtered list
from_filter : {X : Type 0} (q : X → Bool) (xs : List X) (x : X) → Contains (filter q xs) x → Contains xs x
from_filter q [] x c = absurd (omega arith)
from_filter q (y ∷ ys) x c = elim (q y) as (λ b. Contains (cond b (y ∷ filter q ys) (filter q ys)) x → Contains (y ∷ ys) x) [
  | true ↦ λ d. elim (has_cases y (filter q ys) x d) [
    | inl e ↦ has_equal y ys x e
    | inr i ↦ has_tail y ys x (from_filter q ys x i)
  ]
  | false ↦ λ d. has_tail y ys x (from_filter q ys x d)
] c

passes_filter : {X : Type 0} (q : X → Bool) (xs : List X) (x : X) → Contains (filter q xs) x → q x ≡ true
passes_filter q [] x c = absurd (omega arith)
passes_filter q (y ∷ ys) x c = elim (q y) as (λ b. q y ≡ b → Contains (cond b (y ∷ filter q ys) (filter q ys)) x → q x ≡ true) [
  | true ↦ λ h d. elim (has_cases y (filter q ys) x d) [
    | inl e ↦ sym (ap q e) ∙ h
    | inr i ↦ passes_filter q ys x i
  ]
  | false ↦ λ h d. passes_filter q ys x d
] refl c

into_filter : {X : Type 0} (q : X → Bool) (xs : List X) (x : X) → Contains xs x → q x ≡ true → Contains (filter q xs) x
into_filter q [] x c h = absurd (omega arith)
into_filter q (y ∷ ys) x c h = elim (has_cases y ys x c) [
  | inl e ↦ (let k : q y ≡ true = ap q e ∙ h in subst (λ b. Contains (cond b (y ∷ filter q ys) (filter q ys)) x) (sym k) (has_equal y (filter q ys) x e))
  | inr d ↦ elim (q y) as (λ b. Contains (cond b (y ∷ filter q ys) (filter q ys)) x) [
    | true ↦ has_tail y (filter q ys) x (into_filter q ys x d h)
    | false ↦ into_filter q ys x d h
  ]
]

marked_is : (bs : List ℕ) (marks : List Bool) (ts : List Term) (p : Placed) → Contains (placed_marked bs marks ts) p → IsPlaced bs 0 ts p
marked_is bs marks ts p c = placed_is bs 0 ts p (from_filter (λ (q : Placed). is_marked marks q.place) (placed_from bs 0 ts) p c)

within_from : (bs : List ℕ) (marks : List Bool) (ts : List Term) (sorted : List Placed) → ((p : Placed) → Contains sorted p → Contains (placed_marked bs marks ts) p) → AreWithin (length ts) sorted
within_from bs marks ts [] from = tt
within_from bs marks ts (p ∷ ps) from =
    let r = marked_is bs marks ts p (from p (has_equal p ps p refl)) in
    let at = r.place in
    let lt = r.within in
    (omega arith, within_from bs marks ts ps (λ q c. from q (has_tail p ps q c)))

pub all_within : (bs : List ℕ) (marks : List Bool) (ts : List Term) (placed sorted : List Placed) → placed ≡ placed_marked bs marks ts → IsListing placed_cmp (Contains placed) sorted → AreWithin (length ts) sorted
all_within bs marks ts placed sorted e l = within_from bs marks ts sorted (λ p c. subst (λ (ps : List Placed). Contains ps p) e ((l.members p).0 c))

pub place_within : (count i : ℕ) (placed : List Placed) (p : Placed) → AreWithin count placed → i < length placed → p ≡ get_or placed i p → p.place < count
place_within count i [] p a l is = absurd (omega arith)
place_within count zero (q ∷ ps) p a l is = subst (λ (w : Placed). w.place < count) (sym is) a.0
place_within count (suc i) (q ∷ ps) p a l is = place_within count i ps p a.1 (omega arith) is

-- one rank more
pub ranks_step : (placed : List Placed) (i q : ℕ) (ranks : List ℕ) → q < length ranks → q ≡ (placed_at placed i).place → AreRanks placed i ranks → AreRanks placed (i + 1) (set ranks q i)
ranks_step placed i q ranks lt is h k less = elim (cases_eq (placed_at placed k).place q) [
  | inl e ↦
      let r : rank_at (set ranks q i) (placed_at placed k).place ≡ i = ap (λ (p : ℕ). get_or (set ranks q i) p 0) e ∙ get_or-set_same ranks q i 0 lt in
      (subst (λ (n : ℕ). n < i + 1) (sym r) (omega arith), ap (λ (n : ℕ). (placed_at placed n).place) r ∙ sym is ∙ sym e)
  | inr n ↦
      let r : rank_at (set ranks q i) (placed_at placed k).place ≡ rank_at ranks (placed_at placed k).place = get_or-set_other ranks q (placed_at placed k).place i 0 n in
      let old = h k (before (cases_eq k i) n) in
      let first = old.0 in
      (subst (λ (m : ℕ). m < i + 1) (sym r) (omega arith), ap (λ (m : ℕ). (placed_at placed m).place) r ∙ old.1)
]
  where
    before : (k ≡ i) ⊎ (k ≡ i → ⊥) → ((placed_at placed k).place ≡ q → ⊥) → k < i
    before (inl e) n = absurd (n (ap (λ (m : ℕ). (placed_at placed m).place) e ∙ sym is))
    before (inr f) n = elim (cases_lt k i) [ inl l ↦ l | inr g ↦ absurd (f (omega arith)) ]

pub ranks_step_as : (placed : List Placed) (i q : ℕ) (p : Placed) (old new : List ℕ) → q < length old → i < length placed → p ≡ get_or placed i p → q ≡ p.place → new ≡ set old q i → AreRanks placed i old → AreRanks placed (i + 1) new
ranks_step_as placed i q p old new lt inside is at e h =
    subst (λ (ranks : List ℕ). AreRanks placed (i + 1) ranks) (sym e)
    (ranks_step placed i q old lt (at ∙ ap (λ (w : Placed). w.place) (is ∙ get_or-other placed i p (record { key = 0; term = Blank 0 0; place = 0 }) inside)) h)

-- terms that are apart ascend by themselves
pub apart : (o : Ordering) (n m : ℕ) → (o ≡ Equal → n ≡ m) → ordering_then o (nat_cmp n m) ≡ Less → o ≡ Less
apart Less n m f h = refl
apart Equal n m f h = let k : nat_cmp n m ≡ Equal = subst (λ (z : ℕ). nat_cmp n z ≡ Equal) (f refl) (tied_itself nat_cmp_total n) in cc (h, k)
apart Greater n m f h = cc h

-- the IRI of what stands there is one of bytes
has_bytes : (ps : List Placed) (p : Placed) → HaveBytes ps → Contains ps p → HasBytes p.term
has_bytes [] p a c = absurd (omega arith)
has_bytes (q ∷ ps) p a c = elim (has_cases q ps p c) [
  | inl e ↦ subst (λ (w : Placed). HasBytes w.term) e a.0
  | inr d ↦ has_bytes ps p a.1 d
]

module _ (bs : List ℕ) (ts : List Term) (one : IsNumbering ts) where
  -- a term in its place, whose IRI is one of bytes
  abbrev Stands : Placed → Type 0
  Stands p = IsPlaced bs 0 ts p × HasBytes p.term

  same_place : (p q : Placed) → Stands p → Stands q → term_cmp p.term q.term ≡ Equal → p.place ≡ q.place
  same_place p q a b e =
      let k = a.0 in
      let m = b.0 in
      k.place ∙ ap (λ (n : ℕ). 0 + n) (one k.at m.at k.within m.within (sym k.term ∙ term_exact p.term q.term e ∙ m.term)) ∙ sym m.place

  one_above : (p q : Placed) → Stands p → Stands q → placed_cmp p q ≡ Less → term_cmp p.term q.term ≡ Less
  one_above p q a b less =
      let o = ordering_then (nat_cmp p.key q.key) (term_cmp p.term q.term) in
      let k = a.0 in
      let m = b.0 in
      let f = key_then bs p.term q.term a.1 b.1 o (λ i. ordering_then (nat_cmp (k.key i) (m.key i)) (term_cmp p.term q.term)) in
      f.0 (apart o p.place q.place (λ e. same_place p q a b (f.1 e)) less)

  term_above : (p : Placed) (ps : List Placed) → Stands p → ((q : Placed) → Contains ps q → Stands q) → AllAbove placed_cmp p ps → AllAbove term_cmp p.term (terms_of ps)
  term_above p [] a from above = tt
  term_above p (q ∷ ps) a from above = (
    one_above p q a (from q (has_equal q ps q refl)) above.0,
    term_above p ps a (λ w c. from w (has_tail q ps w c)) above.1,
  )

  terms_ascend : (ps : List Placed) → ((q : Placed) → Contains ps q → Stands q) → IsAscending placed_cmp ps → IsAscending term_cmp (terms_of ps)
  terms_ascend [] from a = tt
  terms_ascend (p ∷ ps) from a = (term_above p ps (from p (has_equal p ps p refl)) (λ w c. from w (has_tail p ps w c)) a.0, terms_ascend ps (λ w c. from w (has_tail p ps w c)) a.1)

  module _ (marks : List Bool) (sorted : List Placed) (ranks : List ℕ) (l : IsListing placed_cmp (Contains (placed_marked bs marks ts)) sorted) (h : AreRanks sorted (length sorted) ranks) where
    from_terms : (q : Placed) → Contains sorted q → IsPlaced bs 0 ts q
    from_terms q c = marked_is bs marks ts q ((l.members q).0 c)

    -- what stands at a rank
    stands_at : (n : ℕ) → n < length sorted → IsPlaced bs 0 ts (placed_at sorted n)
    stands_at n lt = from_terms (placed_at sorted n) (n, lt, get_or-other sorted n _ _ lt)

    at_rank : (p k r : ℕ) → (placed_at sorted k).place ≡ p → (rank_at ranks (placed_at sorted k).place < length sorted) × ((placed_at sorted (rank_at ranks (placed_at sorted k).place)).place ≡ (placed_at sorted k).place) → r ≡ rank_at ranks p → (r < length sorted) × ((placed_at sorted r).place ≡ p)
    at_rank p k r e f is =
        let s : rank_at ranks (placed_at sorted k).place ≡ r = ap (rank_at ranks) e ∙ sym is in
        (subst (λ (n : ℕ). n < length sorted) s f.0, sym (ap (λ (n : ℕ). (placed_at sorted n).place) s) ∙ f.1 ∙ e)

    rank_of : (p : ℕ) → p < length ts → is_marked marks p ≡ true → (rank_at ranks p < length sorted) × ((placed_at sorted (rank_at ranks p)).place ≡ p)
    rank_of p lt m =
        let x : Placed = placed_as bs (term_at ts p) (0 + p) in
        let k : 0 + p ≡ p = omega arith in
        let there = (l.members x).1 (into_filter (λ (q : Placed). is_marked marks q.place) (placed_from bs 0 ts) x (placed_there bs 0 p ts lt) (ap (is_marked marks) k ∙ m)) in
        let same : placed_at sorted there.0 ≡ x = get_or-other sorted there.0 _ x there.1 ∙ there.2 in
        at_rank p there.0 (rank_at ranks p) (ap (λ (w : Placed). w.place) same ∙ k) (h there.0 there.1) refl

    has_rank : (p : ℕ) → p < length ts → is_marked marks p ≡ true → HasRank ts (terms_of sorted) ranks p
    has_rank p lt m =
        let r = rank_of p lt m in
        let s = stands_at (rank_at ranks p) r.0 in
        let at : s.at ≡ p = (let k = s.place in let m = r.1 in omega arith) in (
          subst (λ (n : ℕ). rank_at ranks p < n) (sym (length-map sorted (λ (q : Placed). q.term))) r.0,
          get_or-map (λ (q : Placed). q.term) sorted (rank_at ranks p) (record { key = 0; term = Blank 0 0; place = 0 }) (Blank 0 0) r.0 ∙ s.term ∙ ap (term_at ts) at,
        )

    -- what is ranked is marked
    only_marked : (qs : List Placed) → ((q : Placed) → Contains qs q → Contains (placed_marked bs marks ts) q) → AllByRecursion (λ t. (n : ℕ) × IsTrue (is_marked marks n) × (term_at ts n ≡ t)) (terms_of qs)
    only_marked [] from = tt
    only_marked (q ∷ qs) from =
        let c = from q (has_equal q qs q refl) in
        let p = marked_is bs marks ts q c in
        let at : q.place ≡ p.at = (let k = p.place in omega arith) in
        ((q.place, passes_filter (λ (w : Placed). is_marked marks w.place) (placed_from bs 0 ts) q c, ap (term_at ts) at ∙ sym p.term), only_marked qs (λ w d. from w (has_tail q qs w d)))

only_used : (marks : List Bool) (ts us : List Term) (ids : List Ids) → AreMarks marks ids → AllByRecursion (λ t. (n : ℕ) × IsTrue (is_marked marks n) × (term_at ts n ≡ t)) us → AllByRecursion (λ t. (n : ℕ) × IsTrue (is_used ids n) × (term_at ts n ≡ t)) us
only_used marks ts [] ids m a = tt
only_used marks ts (u ∷ us) ids m a = ((a.0.0, sym (m a.0.0) ∙ a.0.1, a.0.2), only_used marks ts us ids m a.1)

pub ranking : (bs : List ℕ) (marks : List Bool) (ts : List Term) (ids : List Ids) (placed sorted : List Placed) (ranks : List ℕ) → IsNumbering ts → AreMarks marks ids → placed ≡ placed_marked bs marks ts → HaveBytes placed → IsListing placed_cmp (Contains placed) sorted → length ranks ≡ length ts
    → AreRanks sorted (length sorted) ranks → IsRanking ts sorted ranks ids
ranking bs marks ts ids placed sorted ranks one k e has l long h =
    let m : IsListing placed_cmp (Contains (placed_marked bs marks ts)) sorted = subst (λ (ps : List Placed). IsListing placed_cmp (Contains ps) sorted) e l in
    record {
      ascending = terms_ascend bs ts one sorted (λ q c. (marked_is bs marks ts q ((m.members q).0 c), has_bytes placed q has ((l.members q).0 c))) m.ascending;
      long = long;
      stand = λ n lt u. has_rank bs ts one marks sorted ranks m h n lt (k n ∙ u);
      back = λ n lt u. (let r = rank_of bs ts one marks sorted ranks m h n lt (k n ∙ u) in r.1);
      only = only_used marks ts (terms_of sorted) ids k (only_marked bs ts one marks sorted ranks m h sorted (λ q c. (m.members q).0 c));
    }
