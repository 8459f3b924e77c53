-- The longest name is that of the productions, and reaches over each.
use Rattle.std.proofs.Common.{◌≡◌, ◌∙◌, ℕ, zero, suc, ◌+◌, ◌≤◌, Bool, true, false, cond, ◌==◌, ◌||◌, List, [], ◌∷◌, ◌++◌, length, take, refl, sym, ap, subst, arith, append_assoc, length-append, ◌⊎◌, inl, inr}
use Rattle.std.specs.List.{AllByRecursion}
use Rattle.rdf_lexical.specs.declared.classes.Class.{Class}
use Rattle.rdf_lexical.specs.declared.classes.Class.TheVariants.{NameUnderscoreOrDigit, NameUnderscoreColonOrDigit, Name, NameOrColon}
use Rattle.rdf_lexical.specs.Characters.{is_within, is_pn_chars, is_pn_chars_u}
use Rattle.rdf_lexical.specs.Classes.{holds, is_digit}
use Rattle.rdf_lexical.specs.Names.{with_dot, name_length}
use Rattle.rdf_lexical.specs.Productions.{IsNameTail}

-- characters of a name and dots, up to one of a name; or nothing
abbrev IsNameRun : Class → List ℕ → Type 0
IsNameRun k t = (v : List ℕ) × (c : ℕ) × (t ≡ v ++ c ∷ []) × AllByRecursion (λ d. (holds k d || d == 46) ≡ true) v × (holds k c ≡ true)

abbrev NameRun : Class → ℕ → List ℕ → Type 0
NameRun k zero cs = Unit {0}
NameRun k (suc n) cs = IsNameRun k (take (suc n) cs)

or_dot : (k : Class) (c : ℕ) → holds k c ≡ true → (holds k c || c == 46) ≡ true
or_dot k c h = rw h refl

dot_too : (k : Class) (c : ℕ) → (c == 46) ≡ true → (holds k c || c == 46) ≡ true
dot_too k c h = elim (holds k c) as (λ b. (b || c == 46) ≡ true) [ true ↦ refl | false ↦ h ]

name_first : (k : Class) (c n : ℕ) (cs : List ℕ) → holds k c ≡ true → NameRun k n cs → NameRun k (suc n) (c ∷ cs)
name_first k c zero cs h run = ([], c, refl, tt, h)
name_first k c (suc n) cs h (v, d, e, all, last) = (c ∷ v, d, ap (λ x. c ∷ x) e, (or_dot k c h, all), last)

dot_first : (k : Class) (c n : ℕ) (cs : List ℕ) → (c == 46) ≡ true → NameRun k n cs → NameRun k (with_dot n) (c ∷ cs)
dot_first k c zero cs h run = tt
dot_first k c (suc n) cs h (v, d, e, all, last) = (c ∷ v, d, ap (λ x. c ∷ x) e, (dot_too k c h, all), last)

name_run : (k : Class) (cs : List ℕ) → NameRun k (name_length k cs) cs
name_run k [] = tt
name_run k (c ∷ cs) = elim (holds k c) as (λ b. holds k c ≡ b → NameRun k (cond b (suc (name_length k cs)) (cond (c == 46) (with_dot (name_length k cs)) 0)) (c ∷ cs)) [
  | true ↦ λ h. name_first k c (name_length k cs) cs h (name_run k cs)
  | false ↦ λ h. elim (c == 46) as (λ b. (c == 46) ≡ b → NameRun k (cond b (with_dot (name_length k cs)) 0) (c ∷ cs)) [
    | true ↦ λ e. dot_first k c (name_length k cs) cs e (name_run k cs)
    | false ↦ λ e. tt
  ] refl
] refl

-- what follows the first character
tail_of : (k : Class) (c : ℕ) (t : List ℕ) → IsNameRun k (c ∷ t) → IsNameTail k t
tail_of k c t ([], d, e, all, last) = let rest : t ≡ [] = cc in inl rest
tail_of k c t (b ∷ v, d, e, all, last) = let rest : t ≡ v ++ d ∷ [] = cc in inr (v, d, rest, all.1, last)

pub tail_shape : (k : Class) (c n : ℕ) (cs : List ℕ) → name_length k (c ∷ cs) ≡ suc n → IsNameTail k (take n cs)
tail_shape k c n cs e = tail_of k c (take n cs) (subst (λ m. NameRun k m (c ∷ cs)) e (name_run k (c ∷ cs)))

pub dotted_bound : (n m : ℕ) → n ≤ m → with_dot n ≤ suc m
dotted_bound zero m h = omega arith
dotted_bound (suc n) m h = omega arith

pub name_bound : (k : Class) (cs : List ℕ) → name_length k cs ≤ length cs
name_bound k [] = omega arith
name_bound k (c ∷ cs) = let more = name_bound k cs in elim (holds k c) as (λ b. cond b (suc (name_length k cs)) (cond (c == 46) (with_dot (name_length k cs)) 0) ≤ suc (length cs)) [
  | true ↦ omega arith
  | false ↦ elim (c == 46) as (λ b. cond b (with_dot (name_length k cs)) 0 ≤ suc (length cs)) [ true ↦ dotted_bound (name_length k cs) (length cs) more | false ↦ omega arith ]
]

pub name_in : (k : Class) (c : ℕ) (cs : List ℕ) → holds k c ≡ true → name_length k (c ∷ cs) ≡ suc (name_length k cs)
name_in k c cs h = ap (λ b. cond b (suc (name_length k cs)) (cond (c == 46) (with_dot (name_length k cs)) 0)) h

-- neither of the class nor a dot
name_stop : (k : Class) (c : ℕ) (cs : List ℕ) → (holds k c || c == 46) ≡ false → name_length k (c ∷ cs) ≡ 0
name_stop k c cs h = elim (holds k c) as (λ b. (b || c == 46) ≡ false → cond b (suc (name_length k cs)) (cond (c == 46) (with_dot (name_length k cs)) 0) ≡ 0) [
  | true ↦ λ e. cc
  | false ↦ λ e. ap (λ b. cond b (with_dot (name_length k cs)) 0) e
] h

dotted : (n m : ℕ) → suc n ≤ m → suc (suc n) ≤ with_dot m
dotted n zero h = absurd (omega arith)
dotted n (suc m) h = omega arith

name_dot : (k : Class) (c : ℕ) (cs : List ℕ) (n : ℕ) → (holds k c || c == 46) ≡ true → suc n ≤ name_length k cs → suc (suc n) ≤ name_length k (c ∷ cs)
name_dot k c cs n h more = elim (holds k c) as (λ b. (b || c == 46) ≡ true → suc (suc n) ≤ cond b (suc (name_length k cs)) (cond (c == 46) (with_dot (name_length k cs)) 0)) [
  | true ↦ λ e. omega arith
  | false ↦ λ e. subst (λ b. suc (suc n) ≤ cond b (with_dot (name_length k cs)) 0) (sym e) (dotted n (name_length k cs) more)
] h

-- characters of a name and dots, up to one of a name
pub name_reached : (k : Class) (v : List ℕ) (c : ℕ) (u : List ℕ) → AllByRecursion (λ d. (holds k d || d == 46) ≡ true) v → holds k c ≡ true → suc (length v) ≤ name_length k (v ++ c ∷ u)
name_reached k [] c u h last = let e = name_in k c u last in omega arith
name_reached k (d ∷ v) c u h last = name_dot k d (v ++ c ∷ u) (length v) h.0 (name_reached k v c u h.1 last)

-- and no further where neither follows
pub name_before : (k : Class) (t : List ℕ) (c : ℕ) (u : List ℕ) → (holds k c || c == 46) ≡ false → name_length k (t ++ c ∷ u) ≤ length t
name_before k [] c u h = let e = name_stop k c u h in omega arith
name_before k (d ∷ t) c u h =
    let more = name_before k t c u h in
    let n = name_length k (t ++ c ∷ u) in
    elim (holds k d) as (λ b. cond b (suc n) (cond (d == 46) (with_dot n) 0) ≤ suc (length t)) [
      | true ↦ omega arith
      | false ↦ elim (d == 46) as (λ b. cond b (with_dot n) 0 ≤ suc (length t)) [
        | true ↦ dotted_bound n (length t) more
        | false ↦ omega arith
      ]
    ]

-- a name by its first character
pub named : (k : Class) (c : ℕ) (v u : List ℕ) → holds k c ≡ true → IsNameTail k v → suc (length v) ≤ name_length k (c ∷ (v ++ u))
named k c v u first (inl e) = subst (λ (x : List ℕ). suc (length x) ≤ name_length k (c ∷ (x ++ u))) (sym e) (let more = name_in k c u first in omega arith)
named k c v u first (inr (w, d, e, all, last)) =
    let whole : v ++ u ≡ w ++ d ∷ u = ap (λ x. x ++ u) e ∙ append_assoc w (d ∷ []) u in
    let size : length v ≡ length w + 1 = ap length e ∙ length-append w (d ∷ []) in
    let more = name_in k c (v ++ u) first in
    let rest : suc (length w) ≤ name_length k (v ++ u) = subst (λ (x : List ℕ). suc (length w) ≤ name_length k x) (sym whole) (name_reached k w d u all last) in
    omega arith

-- what a label may begin with goes on with it
pub label_is_name : (c : ℕ) → holds NameUnderscoreOrDigit c ≡ true → holds Name c ≡ true
label_is_name c h = elim (is_pn_chars_u c) as (λ b. (b || is_digit c) ≡ true → (b || c == 45 || is_digit c || c == 0xB7 || is_within 0x300 0x36F c || is_within 0x203F 0x2040 c) ≡ true) [
  | true ↦ λ e. refl
  | false ↦ λ e. subst (λ b. (c == 45 || b || c == 0xB7 || is_within 0x300 0x36F c || is_within 0x203F 0x2040 c) ≡ true) (sym e) (elim (c == 45) as (λ b. (b || true || c == 0xB7 || is_within 0x300 0x36F c || is_within 0x203F 0x2040 c) ≡ true) [ true ↦ refl | false ↦ refl ])
] h

or_left : (a b : Bool) → a ≡ true → (a || b) ≡ true
or_left true b h = refl
or_left false b h = cc

or_right : (a b : Bool) → b ≡ true → (a || b) ≡ true
or_right true b h = refl
or_right false b h = h

either : (a b : Bool) → (a || b) ≡ true → (a ≡ true) ⊎ (b ≡ true)
either true b h = inl refl
either false b h = inr h

by_either : (c : ℕ) → ((is_pn_chars_u c || c == 58) ≡ true) ⊎ (is_digit c ≡ true) → holds NameOrColon c ≡ true
by_either c (inr digit) = or_left (is_pn_chars c) (c == 58) (label_is_name c (or_right (is_pn_chars_u c) (is_digit c) digit))
by_either c (inl one) = by_start c (either (is_pn_chars_u c) (c == 58) one)
  where
    by_start : (c : ℕ) → (is_pn_chars_u c ≡ true) ⊎ ((c == 58) ≡ true) → holds NameOrColon c ≡ true
    by_start c (inl start) = or_left (is_pn_chars c) (c == 58) (label_is_name c (or_left (is_pn_chars_u c) (is_digit c) start))
    by_start c (inr colon) = or_right (is_pn_chars c) (c == 58) colon

pub label_has_colon : (c : ℕ) → holds NameUnderscoreColonOrDigit c ≡ true → holds NameOrColon c ≡ true
label_has_colon c h = by_either c (either (is_pn_chars_u c || c == 58) (is_digit c) h)
