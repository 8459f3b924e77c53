-- The longest language tag is a LANGTAG, and reaches over each.
use Rattle.std.proofs.Common.{◌≡◌, ◌∙◌, ℕ, zero, suc, ◌+◌, ◌-◌, ◌<◌, ◌≤◌, Bool, true, false, cond, ◌==◌, ◌||◌, ◌&&◌, List, [], ◌∷◌, ◌++◌, length, take, drop, refl, sym, ap, subst, arith, append_assoc, append-nil, length-append, length-drop}
use Rattle.std.specs.List.{AllByRecursion}
use Rattle.std.proofs.lemmas.Bool.{eqb-true}
use Rattle.std.proofs.lemmas.Bool.Decides.{nat_tests}
use Rattle.std.proofs.Math.Seq.{take-add, drop-append_seam}
use Rattle.rdf_lexical.specs.declared.classes.Class.TheVariants.{Letter, LetterOrDigit}
use Rattle.rdf_lexical.specs.Classes.{holds, begins_with, run_length}
use Rattle.rdf_lexical.specs.Tags.{subtags_length, tag_length}
use Rattle.rdf_lexical.specs.Productions.{AllOf, SomeOf, joined_texts, IsSubtag, IsLanguageTag}
use Rattle.rdf_lexical.proofs.Runs.{run_all, run_exact, run_taken, run_begins, run_bound}

both : (a b : Bool) → (a && b) ≡ true → (a ≡ true) × (b ≡ true)
both true b h = (refl, h)
both false b h = cc

subtag_in : (c : ℕ) (cs : List ℕ) → holds LetterOrDigit c ≡ true → subtags_length true (c ∷ cs) ≡ suc (subtags_length true cs)
subtag_in c cs h = rw h refl

subtag_all : (s u : List ℕ) → AllOf LetterOrDigit s → subtags_length true (s ++ u) ≡ length s + subtags_length true u
subtag_all [] u all = omega arith
subtag_all (c ∷ s) u all = let more = subtag_all s u all.1 in subtag_in c (s ++ u) all.0 ∙ ap suc more ∙ omega arith

begins_more : (s u : List ℕ) → begins_with LetterOrDigit s ≡ true → begins_with LetterOrDigit (s ++ u) ≡ true
begins_more [] u h = cc
begins_more (c ∷ s) u h = h

subtag_begun : (inside : Bool) (cs : List ℕ) → begins_with LetterOrDigit cs ≡ true → subtags_length inside (45 ∷ cs) ≡ suc (subtags_length true cs)
subtag_begun true cs h = rw h refl
subtag_begun false cs h = rw h refl

subtags_reached : (ts : List (List ℕ)) (inside : Bool) (u : List ℕ) → AllByRecursion IsSubtag ts → length (joined_texts ts) ≤ subtags_length inside (joined_texts ts ++ u)
subtags_reached [] inside u all = omega arith
subtags_reached (t ∷ ts) inside u ((s, is, some), all) =
    let rest = joined_texts ts ++ u in
    let whole : (t ++ joined_texts ts) ++ u ≡ 45 ∷ (s ++ rest) = append_assoc t (joined_texts ts) u ∙ ap (λ x. x ++ rest) is in
    let size : length (t ++ joined_texts ts) ≡ suc (length s + length (joined_texts ts)) = ap (λ x. length (x ++ joined_texts ts)) is ∙ ap suc (length-append s (joined_texts ts)) in
    let more = subtags_reached ts true u all in
    let value : subtags_length inside ((t ++ joined_texts ts) ++ u) ≡ suc (length s + subtags_length true rest) =
    ap (subtags_length inside) whole ∙ subtag_begun inside (s ++ rest) (begins_more s rest some.0) ∙ ap suc (subtag_all s rest some.1) in
    omega arith

tag_value : (cs : List ℕ) (n : ℕ) → 0 < n → run_length Letter cs ≡ n → tag_length cs ≡ n + subtags_length false (drop n cs)
tag_value cs n some e =
    let any : (n == 0) ≡ false = grind (arith, nat_tests) in
    ap (λ k. cond (k == 0) 0 (k + subtags_length false (drop k cs))) e ∙ ap (λ b. cond b 0 (n + subtags_length false (drop n cs))) any

some_letter : (l : List ℕ) → begins_with Letter l ≡ true → 0 < length l
some_letter [] h = cc
some_letter (c ∷ l) h = omega arith

first_of_subtags : (t js : List ℕ) → IsSubtag t → begins_with Letter (t ++ js) ≡ false
first_of_subtags t js (s, is, some) = ap (λ x. begins_with Letter (x ++ js)) is

tag_over : (l : List ℕ) (ts : List (List ℕ)) (u : List ℕ) → SomeOf Letter l → AllByRecursion IsSubtag ts → length (l ++ joined_texts ts) ≤ tag_length ((l ++ joined_texts ts) ++ u)
tag_over l [] u some all =
    let whole : (l ++ []) ++ u ≡ l ++ u = ap (λ x. x ++ u) (append-nil l) in
    let size : length (l ++ []) ≡ length l = ap length (append-nil l) in
    let one = some_letter l some.0 in
    let run = run_all Letter l u some.1 in
    let value : tag_length ((l ++ []) ++ u) ≡ run_length Letter (l ++ u) + subtags_length false (drop (run_length Letter (l ++ u)) (l ++ u)) = ap tag_length whole ∙ tag_value (l ++ u) (run_length Letter (l ++ u)) (omega arith) refl in
    omega arith
tag_over l (t ∷ ts) u some (tag, all) =
    let js = t ++ joined_texts ts in
    let whole : (l ++ js) ++ u ≡ l ++ (js ++ u) = append_assoc l js u in
    let size : length (l ++ js) ≡ length l + length js = length-append l js in
    let one = some_letter l some.0 in
    let stop : begins_with Letter (js ++ u) ≡ false = ap (begins_with Letter) (append_assoc t (joined_texts ts) u) ∙ first_of_subtags t (joined_texts ts ++ u) tag in
    let run : run_length Letter (l ++ (js ++ u)) ≡ length l = run_exact Letter l (js ++ u) some.1 stop in
    let more = subtags_reached (t ∷ ts) false u (tag, all) in
    let value : tag_length ((l ++ js) ++ u) ≡ length l + subtags_length false (js ++ u) =
    ap tag_length whole ∙ tag_value (l ++ (js ++ u)) (length l) one run ∙ ap (λ x. length l + subtags_length false x) (drop-append_seam l (js ++ u)) in
    omega (arith, more)

pub tag_reached : (y u : List ℕ) → IsLanguageTag (64 ∷ y) → length y ≤ tag_length (y ++ u)
tag_reached y u (l, ts, is, some, all) = let same : y ≡ l ++ joined_texts ts = cc in subst (λ (x : List ℕ). length x ≤ tag_length (x ++ u)) (sym same) (tag_over l ts u some all)

pub tag_some : (y : List ℕ) → IsLanguageTag (64 ∷ y) → 0 < length y
tag_some y (l, ts, is, some, all) = let same : y ≡ l ++ joined_texts ts = cc in let size = ap length same ∙ length-append l (joined_texts ts) in let one = some_letter l some.0 in omega arith

-- what the subtags are: the rest of one that has begun, and others
abbrev Subtags : Bool → ℕ → List ℕ → Type 0
Subtags inside n r = (s : List ℕ) × (ts : List (List ℕ)) × (take n r ≡ s ++ joined_texts ts) × AllOf LetterOrDigit s × AllByRecursion IsSubtag ts
    × (inside ≡ true → begins_with LetterOrDigit r ≡ true → begins_with LetterOrDigit s ≡ true) × (inside ≡ false → s ≡ [])

unlike : (a b : Bool) → a ≡ true → b ≡ true → (a && b) ≡ false → ⊥
unlike true true h g e = cc
unlike true false h g e = cc
unlike false b h g e = cc

subtag_goes_on : (c : ℕ) (n : ℕ) (r : List ℕ) → holds LetterOrDigit c ≡ true → Subtags true n r → Subtags true (suc n) (c ∷ r)
subtag_goes_on c n r h (s, ts, is, some, all, begun, none) = (c ∷ s, ts, ap (λ x. c ∷ x) is, (h, some), all, (λ e f. h), (λ e. cc))

subtag_begins : (inside : Bool) (c : ℕ) (n : ℕ) (r : List ℕ) → (c == 45 && begins_with LetterOrDigit r) ≡ true → (inside && holds LetterOrDigit c) ≡ false → Subtags true n r → Subtags inside (suc n) (c ∷ r)
subtag_begins inside c n r h other (s, ts, is, some, all, begun, none) =
    let parts = both (c == 45) (begins_with LetterOrDigit r) h in
    let dash = eqb-true c 45 parts.0 in
    ([], (45 ∷ s) ∷ ts, ap (λ x. c ∷ x) is ∙ ap (λ x. x ∷ (s ++ joined_texts ts)) dash, tt, ((s, refl, (begun refl parts.1, some)), all), (λ e f. absurd (unlike inside (holds LetterOrDigit c) e f other)), λ e. refl)

no_subtag : (inside : Bool) (c : ℕ) (r : List ℕ) → (inside && holds LetterOrDigit c) ≡ false → Subtags inside 0 (c ∷ r)
no_subtag inside c r other = ([], [], refl, tt, tt, (λ e f. absurd (unlike inside (holds LetterOrDigit c) e f other)), λ e. refl)

subtags_shape : (inside : Bool) (r : List ℕ) → Subtags inside (subtags_length inside r) r
subtags_shape inside [] = ([], [], refl, tt, tt, (λ e f. f), λ e. refl)
subtags_shape inside (c ∷ r) = elim (inside && holds LetterOrDigit c) as (λ b. (inside && holds LetterOrDigit c) ≡ b → Subtags inside (cond (b || (c == 45 && begins_with LetterOrDigit r)) (suc (subtags_length true r)) 0) (c ∷ r)) [
  | true ↦ λ h. let parts = both inside (holds LetterOrDigit c) h in subst (λ i. Subtags i (suc (subtags_length true r)) (c ∷ r)) (sym parts.0) (subtag_goes_on c (subtags_length true r) r parts.1 (subtags_shape true r))
  | false ↦ λ h. elim (c == 45 && begins_with LetterOrDigit r) as (λ b. (c == 45 && begins_with LetterOrDigit r) ≡ b → Subtags inside (cond b (suc (subtags_length true r)) 0) (c ∷ r)) [
    | true ↦ λ g. subtag_begins inside c (subtags_length true r) r g h (subtags_shape true r)
    | false ↦ λ g. no_subtag inside c r h
  ] refl
] refl

tag_of : (cs : List ℕ) (n : ℕ) → 0 < n → run_length Letter cs ≡ n → IsLanguageTag (64 ∷ take (tag_length cs) cs)
tag_of cs zero h e = absurd (omega arith)
tag_of cs (suc n) h e =
    let l = take (run_length Letter cs) cs in
    let rest = subtags_shape false (drop (suc n) cs) in
    let value = tag_value cs (suc n) h e in
    let letters : SomeOf Letter (take (suc n) cs) = subst (λ k. SomeOf Letter (take k cs)) e (run_begins Letter cs n e, run_taken Letter cs) in
    let same : take (tag_length cs) cs ≡ take (suc n) cs ++ joined_texts rest.1 =
    ap (λ k. take k cs) value ∙ take-add (suc n) (subtags_length false (drop (suc n) cs)) cs
    ∙ ap (λ x. take (suc n) cs ++ x) (rest.2 ∙ ap (λ x. x ++ joined_texts rest.1) (rest.6 refl)) in
    (take (suc n) cs, rest.1, ap (λ x. 64 ∷ x) same, letters, rest.4)

pub tag_shape : (cs : List ℕ) → 0 < tag_length cs → IsLanguageTag (64 ∷ take (tag_length cs) cs)
tag_shape cs some = elim (run_length Letter cs == 0) as (λ b. (run_length Letter cs == 0) ≡ b → IsLanguageTag (64 ∷ take (tag_length cs) cs)) [
  | true ↦ λ h. let none : tag_length cs ≡ 0 = ap (λ b. cond b 0 (run_length Letter cs + subtags_length false (drop (run_length Letter cs) cs))) h in absurd (omega arith)
  | false ↦ λ h. let one : 0 < run_length Letter cs = grind (arith, nat_tests) in tag_of cs (run_length Letter cs) one refl
] refl

subtags_bound : (inside : Bool) (r : List ℕ) → subtags_length inside r ≤ length r
subtags_bound inside [] = omega arith
subtags_bound inside (c ∷ r) = let more = subtags_bound true r in elim ((inside && holds LetterOrDigit c) || (c == 45 && begins_with LetterOrDigit r)) as (λ b. cond b (suc (subtags_length true r)) 0 ≤ suc (length r)) [ true ↦ omega arith | false ↦ omega arith ]

pub tag_bound : (cs : List ℕ) → tag_length cs ≤ length cs
tag_bound cs =
    let letters = run_length Letter cs in
    let most = run_bound Letter cs in
    let more = subtags_bound false (drop letters cs) in
    let size : length (drop letters cs) ≡ length cs - letters = length-drop letters cs in
    elim (letters == 0) as (λ b. cond b 0 (letters + subtags_length false (drop letters cs)) ≤ length cs) [ true ↦ omega arith | false ↦ omega arith ]

-- a tag begins where a letter does
pub no_tag : (c : ℕ) (cs : List ℕ) → holds Letter c ≡ false → (tag_length (c ∷ cs) == 0) ≡ true
no_tag c cs h = ap (λ b. let k = cond b (suc (run_length Letter cs)) 0 in cond (k == 0) 0 (k + subtags_length false (drop k (c ∷ cs))) == 0) h

pub some_tag : (c : ℕ) (cs : List ℕ) → holds Letter c ≡ true → (tag_length (c ∷ cs) == 0) ≡ false
some_tag c cs h =
    let n = run_length Letter cs in
    let m = subtags_length false (drop (suc n) (c ∷ cs)) in
    let some : (suc n == 0) ≡ false = grind (arith, nat_tests) in
    let more : (suc n + m == 0) ≡ false = grind (arith, nat_tests) in
    ap (λ b. let k = cond b (suc n) 0 in cond (k == 0) 0 (k + subtags_length false (drop k (c ∷ cs))) == 0) h
    ∙ ap (λ b. cond b 0 (suc n + m) == 0) some
    ∙ more
