-- Language tags in lower case, of what characters they are, and where one ends before a space.
use Rattle.std.proofs.Common.{◌≡◌, ◌∙◌, ℕ, zero, suc, ◌+◌, ◌-◌, ◌≤◌, Bool, true, false, cond, ◌==◌, ◌&&◌, ◌||◌, List, [], ◌∷◌, ◌++◌, map, length, drop, refl, sym, ap, subst, arith, length-drop}
use Rattle.std.specs.List.{AllByRecursion, list_all}
use Rattle.std.proofs.lemmas.Bool.{and_from}
use Rattle.std.proofs.lemmas.Bool.Decides.{nat_tests}
use Rattle.rdf_lexical.specs.Characters.{is_within, is_ascii_letter}
use Rattle.rdf_lexical.specs.declared.classes.Class.{Class}
use Rattle.rdf_lexical.specs.declared.classes.Class.TheVariants.{Letter, LetterOrDigit}
use Rattle.rdf_lexical.specs.Classes.{holds, begins_with, run_length, is_digit}
use Rattle.rdf_lexical.specs.Tags.{subtags_length, tag_length}
use Rattle.rdf_lexical.specs.Meanings.{lower_case}
use Rattle.rdf_lexical.specs.Productions.{AllOf, SomeOf, joined_texts, IsSubtag, IsLanguageTag}
use Rattle.rdf_lexical.proofs.TagTexts.{tag_reached}

-- lower case
lower_letter : (c : ℕ) → is_ascii_letter c ≡ true → is_ascii_letter (lower_case c) ≡ true
lower_letter c h = elim (is_within 65 90 c) as (λ b. is_within 65 90 c ≡ b → is_ascii_letter (cond b (c + 32) c) ≡ true) [ true ↦ λ q. grind (arith, nat_tests) | false ↦ λ q. h ] refl

lower_either : (c : ℕ) → holds LetterOrDigit c ≡ true → holds LetterOrDigit (lower_case c) ≡ true
lower_either c h = elim (is_within 65 90 c) as (λ b. is_within 65 90 c ≡ b → holds LetterOrDigit (cond b (c + 32) c) ≡ true) [
  | true ↦ λ q. let low : is_ascii_letter (c + 32) ≡ true = grind (arith, nat_tests) in ap (λ b. b || is_digit (c + 32)) low
  | false ↦ λ q. h
] refl

all_lower : (k : Class) → ((c : ℕ) → holds k c ≡ true → holds k (lower_case c) ≡ true) → (t : List ℕ) → AllOf k t → AllOf k (map lower_case t)
all_lower k keep [] all = tt
all_lower k keep (c ∷ t) all = (keep c all.0, all_lower k keep t all.1)

some_lower : (k : Class) → ((c : ℕ) → holds k c ≡ true → holds k (lower_case c) ≡ true) → (t : List ℕ) → SomeOf k t → SomeOf k (map lower_case t)
some_lower k keep [] some = some
some_lower k keep (c ∷ t) some = (keep c some.0, all_lower k keep (c ∷ t) some.1)

pub map-append : (f : ℕ → ℕ) (xs ys : List ℕ) → map f (xs ++ ys) ≡ map f xs ++ map f ys
map-append f [] ys = refl
map-append f (x ∷ xs) ys = ap (λ zs. f x ∷ zs) (map-append f xs ys)

abbrev all_in_lower : List (List ℕ) → List (List ℕ)
all_in_lower [] = []
all_in_lower (t ∷ ts) = map lower_case t ∷ all_in_lower ts

lower_joined : (ts : List (List ℕ)) → map lower_case (joined_texts ts) ≡ joined_texts (all_in_lower ts)
lower_joined [] = refl
lower_joined (t ∷ ts) = map-append lower_case t (joined_texts ts) ∙ ap (λ x. map lower_case t ++ x) (lower_joined ts)

lower_subtags : (ts : List (List ℕ)) → AllByRecursion IsSubtag ts → AllByRecursion IsSubtag (all_in_lower ts)
lower_subtags [] all = tt
lower_subtags (t ∷ ts) ((s, is, some), all) = ((map lower_case s, ap (map lower_case) is, some_lower LetterOrDigit lower_either s some), lower_subtags ts all)

pub lower_tag : (t : List ℕ) → IsLanguageTag (64 ∷ t) → IsLanguageTag (64 ∷ map lower_case t)
lower_tag t (l, ts, is, some, all) =
    let same : t ≡ l ++ joined_texts ts = cc in
    let whole : map lower_case t ≡ map lower_case l ++ joined_texts (all_in_lower ts) = ap (map lower_case) same ∙ map-append lower_case l (joined_texts ts) ∙ ap (λ x. map lower_case l ++ x) (lower_joined ts) in
    (map lower_case l, all_in_lower ts, ap (λ x. 64 ∷ x) whole, some_lower Letter lower_letter l some, lower_subtags ts all)

-- the characters of a tag
all_of : (test : ℕ → Bool) (k : Class) → ((c : ℕ) → holds k c ≡ true → test c ≡ true) → (t : List ℕ) → AllOf k t → list_all test t ≡ true
all_of test k meets [] all = refl
all_of test k meets (c ∷ t) all = and_from (test c) (list_all test t) (meets c all.0) (all_of test k meets t all.1)

all_both : (test : ℕ → Bool) (a b : List ℕ) → list_all test a ≡ true → list_all test b ≡ true → list_all test (a ++ b) ≡ true
all_both test [] b g h = h
all_both test (c ∷ a) b g h = elim (test c) as (λ v. (v && list_all test a) ≡ true → (v && list_all test (a ++ b)) ≡ true) [ true ↦ λ e. all_both test a b e h | false ↦ λ e. cc ] g

subtags_all : (test : ℕ → Bool) → ((c : ℕ) → holds LetterOrDigit c ≡ true → test c ≡ true) → test 45 ≡ true → (ts : List (List ℕ)) → AllByRecursion IsSubtag ts → list_all test (joined_texts ts) ≡ true
subtags_all test meets dash [] all = refl
subtags_all test meets dash (t ∷ ts) ((s, is, some), all) =
    let first : list_all test t ≡ true = ap (list_all test) is ∙ and_from (test 45) (list_all test s) dash (all_of test LetterOrDigit meets s some.1) in
    all_both test t (joined_texts ts) first (subtags_all test meets dash ts all)

letter_either : (c : ℕ) → holds Letter c ≡ true → holds LetterOrDigit c ≡ true
letter_either c h = rw h refl

pub tag_all : (test : ℕ → Bool) → ((c : ℕ) → holds LetterOrDigit c ≡ true → test c ≡ true) → test 45 ≡ true → (t : List ℕ) → IsLanguageTag (64 ∷ t) → list_all test t ≡ true
tag_all test meets dash t (l, ts, is, some, all) =
    let same : t ≡ l ++ joined_texts ts = cc in
    ap (list_all test) same ∙ all_both test l (joined_texts ts) (all_of test Letter (λ c h. meets c (letter_either c h)) l some.1) (subtags_all test meets dash ts all)

-- a tag before a space
run_stops : (k : Class) (t u : List ℕ) → holds k 32 ≡ false → run_length k (t ++ 32 ∷ u) ≤ length t
run_stops k [] u h = let e : run_length k (32 ∷ u) ≡ 0 = ap (λ b. cond b (suc (run_length k u)) 0) h in omega arith
run_stops k (c ∷ t) u h = let more = run_stops k t u h in elim (holds k c) as (λ b. cond b (suc (run_length k (t ++ 32 ∷ u))) 0 ≤ suc (length t)) [ true ↦ omega arith | false ↦ omega arith ]

no_subtag : (inside : Bool) (u : List ℕ) → subtags_length inside (32 ∷ u) ≡ 0
no_subtag true u = refl
no_subtag false u = refl

subtags_stop : (inside : Bool) (t u : List ℕ) → subtags_length inside (t ++ 32 ∷ u) ≤ length t
subtags_stop inside [] u = let e = no_subtag inside u in omega arith
subtags_stop inside (c ∷ t) u =
    let more = subtags_stop true t u in
    let rest = t ++ 32 ∷ u in
    elim ((inside && holds LetterOrDigit c) || (c == 45 && begins_with LetterOrDigit rest)) as (λ b. cond b (suc (subtags_length true rest)) 0 ≤ suc (length t)) [ true ↦ omega arith | false ↦ omega arith ]

drop_front : (n : ℕ) (t u : List ℕ) → n ≤ length t → drop n (t ++ u) ≡ drop n t ++ u
drop_front zero t u h = refl
drop_front (suc n) [] u h = absurd (omega arith)
drop_front (suc n) (c ∷ t) u h = drop_front n t u (omega arith)

tag_stops : (t u : List ℕ) → tag_length (t ++ 32 ∷ u) ≤ length t
tag_stops t u =
    let cs = t ++ 32 ∷ u in
    let n = run_length Letter cs in
    let most = run_stops Letter t u refl in
    let size : length (drop n t) ≡ length t - n = length-drop n t in
    let more : subtags_length false (drop n cs) ≤ length (drop n t) = subst (λ (x : List ℕ). subtags_length false x ≤ length (drop n t)) (sym (drop_front n t (32 ∷ u) most)) (subtags_stop false (drop n t) u) in
    elim (n == 0) as (λ b. cond b 0 (n + subtags_length false (drop n cs)) ≤ length t) [ true ↦ omega arith | false ↦ omega arith ]

pub tag_exact : (t u : List ℕ) → IsLanguageTag (64 ∷ t) → tag_length (t ++ 32 ∷ u) ≡ length t
tag_exact t u h = let low = tag_reached t (32 ∷ u) h in let high = tag_stops t u in omega arith
