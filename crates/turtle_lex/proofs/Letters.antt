-- Words of small letters, by the bytes of what is compared with them.
use Rattle.std.proofs.Common.{◌≡◌, ◌∙◌, ℕ, ◌<◌, Bool, true, List, [], ◌∷◌, map, length, take, refl, sym, ap, arith}
use Rattle.std.specs.Prelude.{IsTrue, ◌↔◌, nat_eq, bytes_eq}
use Rattle.std.specs.Bool.{Decides}
use Rattle.std.specs.List.{starts_with}
use Rattle.std.specs.Char.{to_ascii_lowercase}
use Rattle.std.specs.Str.{IsAscii}
use Rattle.std.proofs.lemmas.Bool.{and_parts}
use Rattle.std.proofs.lemmas.Bool.Decides.{nat_tests, same_from_decides, Decides-at, Decides-like, Decides-and, Decides-eqb}
use Rattle.std.proofs.lemmas.Slice.Eq.{bytes_eq-Decides}
use Rattle.std.proofs.lemmas.Str.{encodes-IsAscii, encodes_same, IsAscii-take}
use Rattle.std.proofs.lemmas.Str.Ascii.{IsAscii-nil, IsAscii-cons}
use lib.Utf8.{encodes}
use Rattle.rdf_lexical.specs.Characters.{is_within}
use Rattle.turtle_lex.specs.Words.{has_small_letters, is_in_any_case}

small_below : (c : ℕ) → is_within 97 122 c ≡ true → c < 128
small_below c h = grind (arith, nat_tests)

small_ascii : (o : List ℕ) → has_small_letters o ≡ true → IsAscii o
small_ascii [] h = IsAscii-nil
small_ascii (c ∷ o) h = let p = and_parts (is_within 97 122 c) (has_small_letters o) h in IsAscii-cons c o (small_below c p.0) (small_ascii o p.1)

-- what is spelled by ASCII bytes is those
spelled : (w o : List ℕ) → IsAscii o → encodes w ≡ o → w ≡ o
spelled w o ascii e = encodes_same w o (e ∙ sym (encodes-IsAscii o ascii))

pub same_word : (w o : List ℕ) (r : Bool) → has_small_letters o ≡ true → r ≡ bytes_eq (encodes w) o → r ≡ bytes_eq w o
same_word w o r h e =
    let ascii = small_ascii o h in
    let by_bytes : Decides r (encodes w ≡ o) = Decides-at r (bytes_eq (encodes w) o) e (bytes_eq-Decides (encodes w) o) in
    same_from_decides r (bytes_eq w o) (Decides-like r (spelled w o ascii) (λ same. ap encodes same ∙ encodes-IsAscii o ascii) by_bytes) (bytes_eq-Decides w o)

pub begins : (o cs : List ℕ) (r : Bool) → has_small_letters o ≡ true → r ≡ starts_with nat_eq o (encodes cs) → r ≡ starts_with nat_eq o cs
begins o cs r h e =
    same_from_decides r (starts_with nat_eq o cs) (Decides-like r forth back by_bytes) (bytes_eq-Decides cs (take (length cs) o))
  where
    by_bytes : Decides r (encodes cs ≡ take (length (encodes cs)) o)
    by_bytes = Decides-at r (bytes_eq (encodes cs) (take (length (encodes cs)) o)) e (bytes_eq-Decides (encodes cs) (take (length (encodes cs)) o))

    front : (n : ℕ) → IsAscii (take n o)
    front n = IsAscii-take o n (small_ascii o h)

    forth : encodes cs ≡ take (length (encodes cs)) o → cs ≡ take (length cs) o
    forth is =
        let same = spelled cs (take (length (encodes cs)) o) (front (length (encodes cs))) is in
        let itself : encodes cs ≡ cs = is ∙ sym same in
        same ∙ ap (λ (xs : List ℕ). take (length xs) o) itself

    back : cs ≡ take (length cs) o → encodes cs ≡ take (length (encodes cs)) o
    back is =
        let itself : encodes cs ≡ cs = ap encodes is ∙ encodes-IsAscii (take (length cs) o) (front (length cs)) ∙ sym is in
        itself ∙ is ∙ ap (λ (xs : List ℕ). take (length xs) o) (sym itself)

small_stays : (c : ℕ) → is_within 97 122 c ≡ true → to_ascii_lowercase c ≡ c
small_stays c h = grind (arith, nat_tests)

all_stay : (o : List ℕ) → has_small_letters o ≡ true → map to_ascii_lowercase o ≡ o
all_stay [] h = refl
all_stay (c ∷ o) h = let p = and_parts (is_within 97 122 c) (has_small_letters o) h in ap (λ x. x ∷ map to_ascii_lowercase o) (small_stays c p.0) ∙ ap (λ xs. c ∷ xs) (all_stay o p.1)

letter_below : (c d : ℕ) → d < 128 → to_ascii_lowercase c ≡ d → c < 128
letter_below c d l e = grind (arith, nat_tests)

-- what has small letters in lower case is ASCII
letters_ascii : (w o : List ℕ) → has_small_letters o ≡ true → map to_ascii_lowercase w ≡ o → IsAscii w
letters_ascii [] o h e = IsAscii-nil
letters_ascii (c ∷ w) [] h e = cc
letters_ascii (c ∷ w) (d ∷ o) h e =
    let p = and_parts (is_within 97 122 d) (has_small_letters o) h in
    let first : to_ascii_lowercase c ≡ d = cc in
    let others : map to_ascii_lowercase w ≡ o = cc in
    IsAscii-cons c w (letter_below c d (small_below d p.0) first) (letters_ascii w o p.1 others)

any_case-Decides : (w o : List ℕ) → Decides (is_in_any_case w o) (map to_ascii_lowercase w ≡ o)
any_case-Decides [] [] = (λ yes. refl, λ e. refl)
any_case-Decides [] (d ∷ o) = (λ h. cc, λ e. cc)
any_case-Decides (c ∷ w) [] = (λ h. cc, λ e. cc)
any_case-Decides (c ∷ w) (d ∷ o) = Decides-like _ (λ p. ap (λ x. x ∷ map to_ascii_lowercase w) p.0 ∙ ap (λ xs. d ∷ xs) p.1) (λ e. (cc, cc)) (Decides-and _ _ (Decides-eqb (to_ascii_lowercase c) d) (any_case-Decides w o))

pub in_any_case : (w o : List ℕ) (r : Bool) → has_small_letters o ≡ true → (IsTrue r ↔ (map to_ascii_lowercase (encodes w) ≡ map to_ascii_lowercase o)) → r ≡ is_in_any_case w o
in_any_case w o r h tested = same_from_decides r (is_in_any_case w o) (Decides-like r forth back tested) (any_case-Decides w o)
  where
    forth : map to_ascii_lowercase (encodes w) ≡ map to_ascii_lowercase o → map to_ascii_lowercase w ≡ o
    forth e =
        let is = e ∙ all_stay o h in
        let itself : w ≡ encodes w = spelled w (encodes w) (letters_ascii (encodes w) o h is) refl in
        ap (map to_ascii_lowercase) itself ∙ is

    back : map to_ascii_lowercase w ≡ o → map to_ascii_lowercase (encodes w) ≡ map to_ascii_lowercase o
    back e = ap (map to_ascii_lowercase) (encodes-IsAscii w (letters_ascii w o h e)) ∙ e ∙ sym (all_stay o h)
