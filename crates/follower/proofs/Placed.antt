-- Records that are kept: in the order of their numbers, and what is left of them.
use Rattle.std.proofs.Common.{◌≡◌, ◌∙◌, ◌<◌, ◌≤◌, ◌+◌, ◌-◌, ℕ, zero, suc, true, false, cond, List, [], ◌∷◌, ◌++◌, length, Option, None, Some, sym, ap, subst, arith, inl, inr, refl}
use Rattle.std.proofs.lemmas.Bool.{cases_lt}
use Rattle.std.proofs.lemmas.Bool.Decides.{nat_tests}
use Rattle.std.specs.Prelude.{◌≢◌, ◌⊎◌, MatchOption, nat_lt, slice_index_or}
use Rattle.std.specs.List.{AllByRecursion, Contains}
use Rattle.collections.proofs.Members.{has_cases, has_equal, has_head, has_tail}
use Rattle.record_text.specs.declared.record.Record.{Record}
use Rattle.follower.specs.Followed.{AscendFrom, Followed, IsGap, IsKept, IsNew, IsThere, placed, version_of}
use Rattle.follower.specs.Records.{AreNumberedFrom}

-- what holds of each of some records
pub each_of : (P Q : Record → Type 0) → ((x : Record) → P x → Q x) → (rs : List Record) → AllByRecursion P rs → AllByRecursion Q rs
each_of P Q f [] a = tt
each_of P Q f (r ∷ rs) a = (f r a.0, each_of P Q f rs a.1)

pub each_behind : (P : Record → Type 0) (rs more : List Record) → AllByRecursion P (rs ++ more) → AllByRecursion P more
each_behind P [] more a = a
each_behind P (r ∷ rs) more a = each_behind P rs more a.1

-- a record in its place
pub each_placed : (P : Record → Type 0) (r : Record) (xs : List Record) → P r → AllByRecursion P xs → AllByRecursion P (placed r xs)
each_placed P r [] p a = (p, tt)
each_placed P r (x ∷ xs) p a = elim (nat_lt r.number x.number) as (λ b. AllByRecursion P (cond b (r ∷ x ∷ xs) (x ∷ placed r xs))) [
  | true ↦ (p, a)
  | false ↦ (a.0, each_placed P r xs p a.1)
]

pub ascend_placed : (n : ℕ) (r : Record) (xs : List Record) → n < r.number → ((x : Record) → Contains xs x → x.number ≢ r.number) → AscendFrom n xs → AscendFrom n (placed r xs)
ascend_placed n r [] lt new a = (lt, tt)
ascend_placed n r (x ∷ xs) lt new a = elim (nat_lt r.number x.number) as (λ b. nat_lt r.number x.number ≡ b → AscendFrom n (cond b (r ∷ x ∷ xs) (x ∷ placed r xs))) [
  | true ↦ λ e. (lt, (grind (arith, nat_tests, e), a.1))
  | false ↦ λ e. (a.0, ascend_placed x.number r xs (let other = new x (has_head x xs) in grind (arith, nat_tests, e, other)) (λ y c. new y (has_tail x xs y c)) a.1)
] refl

pub placed_cases : (r : Record) (xs : List Record) (y : Record) → Contains (placed r xs) y → (r ≡ y) ⊎ Contains xs y
placed_cases r [] y c = has_cases r [] y c
placed_cases r (x ∷ xs) y c = elim (nat_lt r.number x.number) as (λ b. Contains (cond b (r ∷ x ∷ xs) (x ∷ placed r xs)) y → (r ≡ y) ⊎ Contains (x ∷ xs) y) [
  | true ↦ λ d. has_cases r (x ∷ xs) y d
  | false ↦ λ d. elim (has_cases x (placed r xs) y d) [
    | inl e ↦ inr (has_equal x xs y e)
    | inr k ↦ elim (placed_cases r xs y k) [ inl e ↦ inl e | inr l ↦ inr (has_tail x xs y l) ]
  ]
] c

pub placed_old : (r : Record) (xs : List Record) (y : Record) → Contains xs y → Contains (placed r xs) y
placed_old r [] y c = has_tail r [] y c
placed_old r (x ∷ xs) y c = elim (nat_lt r.number x.number) as (λ b. Contains (cond b (r ∷ x ∷ xs) (x ∷ placed r xs)) y) [
  | true ↦ has_tail r (x ∷ xs) y c
  | false ↦ elim (has_cases x xs y c) [ inl e ↦ has_equal x (placed r xs) y e | inr d ↦ has_tail x (placed r xs) y (placed_old r xs y d) ]
]

pub placed_new : (r : Record) (xs : List Record) → Contains (placed r xs) r
placed_new r [] = has_head r []
placed_new r (x ∷ xs) = elim (nat_lt r.number x.number) as (λ b. Contains (cond b (r ∷ x ∷ xs) (x ∷ placed r xs)) r) [
  | true ↦ has_head r (x ∷ xs)
  | false ↦ has_tail x (placed r xs) r (placed_new r xs)
]

-- each kept record is behind where they begin
pub kept_above : (n : ℕ) (xs : List Record) (y : Record) → AscendFrom n xs → Contains xs y → n < y.number
kept_above n [] y a c = absurd (omega arith)
kept_above n (x ∷ xs) y a c = elim (has_cases x xs y c) [
  | inl e ↦ subst (λ (z : Record). n < z.number) e a.0
  | inr d ↦ let more = kept_above x.number xs y a.1 d in let first = a.0 in omega (arith, more, first)
]

-- applied records have numbers up to where they end
pub numbers_within : (n : ℕ) (rs : List Record) (y : Record) → AreNumberedFrom n rs → Contains rs y → (n ≤ y.number) × (y.number < n + length rs)
numbers_within n [] y a c = absurd (omega arith)
numbers_within n (r ∷ rs) y a c = elim (has_cases r rs y c) [
  | inl e ↦ subst (λ (z : Record). (n ≤ z.number) × (z.number < n + length (r ∷ rs))) e (let is = a.0 in (omega (arith, is), omega (arith, is)))
  | inr d ↦ let more = numbers_within (n + 1) rs y a.1 d in let low = more.0 in let high = more.1 in (omega (arith, low), omega (arith, high))
]

-- what is left behind records without a gap
pub left_ascend : (n : ℕ) (moved left : List Record) → AreNumberedFrom (n + 1) moved → AscendFrom n (moved ++ left) → AscendFrom (n + length moved) left
left_ascend n [] left a b = let e : n ≡ n + 0 = omega arith in subst (λ (k : ℕ). AscendFrom k left) e b
left_ascend n (r ∷ rs) left a b =
    let is : r.number ≡ n + 1 = a.0 in
    let rest = left_ascend (n + 1) rs left a.1 (subst (λ (k : ℕ). AscendFrom k (rs ++ left)) is b.1) in
    let e : n + 1 + length rs ≡ n + length (r ∷ rs) = omega arith in
    subst (λ (k : ℕ). AscendFrom k left) e rest

pub gap_ascend : (n m : ℕ) (left : List Record) → m ≡ n + 1 → IsGap n left → AscendFrom n left → AscendFrom m left
gap_ascend n m [] e g a = tt
gap_ascend n m (d ∷ ds) e g a = let first = a.0 in ((grind (arith, first, g, e)), a.1)

-- the record under a number, among those that were applied
pub number_at : (n i : ℕ) (rs : List Record) (x : Record) → AreNumberedFrom n rs → i < length rs → (slice_index_or rs i x).number ≡ n + i
number_at n i [] x a lt = absurd (omega (arith, lt))
number_at n zero (r ∷ rs) x a lt = let is = a.0 in omega (arith, is)
number_at n (suc i) (r ∷ rs) x a lt = let more = number_at (n + 1) i rs x a.1 (omega (arith, lt)) in omega (arith, more)

pub found_applied : (rs : List Record) (number i : ℕ) (x : Record) → AreNumberedFrom 1 rs → i + 1 ≡ number → i < length rs → x ≡ slice_index_or rs i x → Contains rs x × (x.number ≡ number)
found_applied rs number i x a e lt is = ((i, lt, sym is), (let at = number_at 1 i rs x a lt in let same = ap (λ (y : Record). y.number) is in omega (arith, at, same, e)))

pub none_applied : (rs : List Record) (number : ℕ) → AreNumberedFrom 1 rs → (number ≡ 0) ⊎ (length rs < number) → (other : Record) → Contains rs other → other.number ≢ number
none_applied rs number a out other c =
    let w = numbers_within 1 rs other a c in
    let low = w.0 in
    let high = w.1 in
    elim out [ inl e ↦ λ same. absurd (omega (arith, low, e, same)) | inr far ↦ λ same. absurd (omega (arith, high, far, same)) ]

pub at_place : (P : Record → Type 0) (rs : List Record) (i : ℕ) (x : Record) → i < length rs → x ≡ slice_index_or rs i x → AllByRecursion P rs → P x
at_place P [] i x lt is a = absurd (omega (arith, lt))
at_place P (r ∷ rs) zero x lt is a = subst P (sym is) a.0
at_place P (r ∷ rs) (suc i) x lt is a = at_place P rs i x (omega (arith, lt)) is a.1

-- the record under a number, where it isn't one of the applied ones
pub under_either : {X : Type 0} (now : X → Record) (o : Option X) (s : Followed) (applied kept : List Record) (number : ℕ) → s.applied ≡ applied → s.kept ≡ kept → ((other : Record) → Contains applied other → other.number ≢ number) →
    MatchOption o ((other : Record) → Contains kept other → other.number ≢ number) (λ x. Contains kept (now x) × ((now x).number ≡ number)) → MatchOption o ((other : Record) → IsThere s other → other.number ≢ number) (λ x. IsThere s (now x) × ((now x).number ≡ number))
under_either now None s applied kept number a k n m = λ other c. elim c [
  | inl d ↦ n other (subst (λ (rs : List Record). Contains rs other) a d)
  | inr d ↦ m other (subst (λ (rs : List Record). Contains rs other) k d)
]
under_either now (Some x) s applied kept number a k n m = (inr (subst (λ (rs : List Record). Contains rs (now x)) (sym k) m.0), m.1)

there : (rs : List Record) (i : ℕ) (d : Record) → i < length rs → Contains rs (slice_index_or rs i d)
there [] i d lt = absurd (omega (arith, lt))
there (x ∷ xs) zero d lt = has_head x xs
there (x ∷ xs) (suc i) d lt = has_tail x xs (slice_index_or xs i d) (there xs i d (omega (arith, lt)))

-- a new record comes behind the applied ones
pub new_behind : (s : Followed) (r : Record) → IsKept s → IsNew s r → (r.number ≡ 0 → ⊥) → version_of s < r.number
new_behind s r k n some = elim (cases_lt (version_of s) r.number) [
  | inl lt ↦ lt
  | inr le ↦
      let i = r.number - 1 in
      let lt : i < length s.applied = omega (arith, le, some) in
      let at : (slice_index_or s.applied i r).number ≡ 1 + i = number_at 1 i s.applied r k.numbered lt in
      let one : 1 + i ≡ r.number = omega (arith, some) in
      absurd (n (slice_index_or s.applied i r) (inl (there s.applied i r lt)) (at ∙ one))
]
