-- The characters of a text and its bytes, cut at the same place.
use Rattle.std.proofs.Common.{◌≡◌, ◌∙◌, ℕ, zero, suc, ◌+◌, ◌-◌, ◌<◌, ◌≤◌, ◌/◌, ltb, cond, ◌==◌, ◌||◌, Bool, true, false, List, [], ◌∷◌, ◌++◌, length, take, drop, refl, sym, ap, subst, arith}
use Rattle.std.specs.Prelude.{◌^◌, MatchOption, slice_index}
use Rattle.std.specs.Option.{IsSome}
use Rattle.std.specs.declared.option.Option.{Option}
use Rattle.std.specs.declared.option.Option.TheVariants.{None, Some}
use Rattle.std.specs.List.{list_any}
use Rattle.std.specs.Str.{IsUtf8, IsCharBoundary, chars}
use Rattle.std.proofs.lemmas.Bool.{and_parts, and_from}
use Rattle.std.proofs.lemmas.Bool.Decides.{nat_tests}
use Rattle.std.proofs.lemmas.List.{length-append, take-append-drop, length-take-le, drop-drop, length-take, length-drop}
use Rattle.std.proofs.lemmas.List.Folds.{list_any-append}
use Rattle.std.proofs.lemmas.Str.{chars-nil, chars-encodes, encodes-append, encodes-chars, scalars-chars, encode_ascii, length-le-encodes, chars_past_char, IsUtf8-past_char, IsCharBoundary-at_seam, IsCharBoundary-after_ascii, cons_from_encodes}
use Rattle.std.proofs.Math.Seq.{take-append_seam, drop-append_seam}
use lib.Utf8.{encode, encodes, next, scalar, scalars}
use Rattle.rdf_lexical.specs.Slices.{IsHeld}

pub scalars_drop : (n : ℕ) (cs : List ℕ) → scalars cs ≡ true → scalars (drop n cs) ≡ true
scalars_drop zero cs s = s
scalars_drop (suc n) [] s = refl
scalars_drop (suc n) (c ∷ cs) s = scalars_drop n cs ((and_parts (scalar c) (scalars cs) s).1)

pub scalars_take : (n : ℕ) (cs : List ℕ) → scalars cs ≡ true → scalars (take n cs) ≡ true
scalars_take zero cs s = refl
scalars_take (suc n) [] s = refl
scalars_take (suc n) (c ∷ cs) s = let p = and_parts (scalar c) (scalars cs) s in and_from (scalar c) (scalars (take n cs)) p.0 (scalars_take n cs p.1)

-- the bytes of the first so many characters, and those of the others
pub record IsCut (bs front back : List ℕ) (n : ℕ) : Type 0 where
  pub boundary : IsCharBoundary bs (length front)
  pub front-utf8 : IsUtf8 front
  pub back-utf8 : IsUtf8 back
  pub front-are : chars front ≡ take n (chars bs)
  pub back-are : chars back ≡ drop n (chars bs)
  pub front-is : take (length front) bs ≡ front
  pub back-is : drop (length front) bs ≡ back
  pub sum : length front + length back ≡ length bs

abbrev front_of : List ℕ → ℕ → List ℕ
front_of bs n = encodes (take n (chars bs))

abbrev back_of : List ℕ → ℕ → List ℕ
back_of bs n = encodes (drop n (chars bs))

pub cut : (bs : List ℕ) (n : ℕ) → IsUtf8 bs → IsCut bs (front_of bs n) (back_of bs n) n
cut bs n u =
    let cs : List ℕ = chars bs in
    let are : scalars cs ≡ true = scalars-chars bs u in
    let front-scalars = scalars_take n cs are in
    let back-scalars = scalars_drop n cs are in
    let whole : bs ≡ front_of bs n ++ back_of bs n = sym (encodes-chars bs u) ∙ ap encodes (sym (take-append-drop n cs)) ∙ encodes-append (take n cs) (drop n cs) in
    let back-utf8 : IsUtf8 (back_of bs n) = (drop n cs, (back-scalars, refl)) in
    record {
      boundary = IsCharBoundary-at_seam bs (front_of bs n) (back_of bs n) whole back-utf8;
      front-utf8 = (take n cs, (front-scalars, refl));
      back-utf8 = back-utf8;
      front-are = chars-encodes (take n cs) front-scalars;
      back-are = chars-encodes (drop n cs) back-scalars;
      front-is = ap (take (length (front_of bs n))) whole ∙ take-append_seam (front_of bs n) (back_of bs n);
      back-is = ap (drop (length (front_of bs n))) whole ∙ drop-append_seam (front_of bs n) (back_of bs n);
      sum = sym (length-append (front_of bs n) (back_of bs n)) ∙ sym (ap length whole);
    }

-- where there are as many characters as bytes, so there are in each front
pub one_byte_each : (bs : List ℕ) (n : ℕ) → IsUtf8 bs → n ≤ length (chars bs) → length (chars bs) ≡ length bs → n ≡ length (front_of bs n)
one_byte_each bs n u le e = omega (arith, (cut bs n u).sum, length-le-encodes (take n (chars bs)), length-le-encodes (drop n (chars bs)), length-take n (chars bs), length-drop n (chars bs))

-- a text of so many characters, cut behind so many bytes
pub record IsSplit (bs cs : List ℕ) (count n m : ℕ) : Type 0 where
  pub boundary : IsCharBoundary bs m
  pub front-held : IsHeld (take m bs) n
  pub back-held : IsHeld (drop m bs) (count - n)
  pub front-are : chars (take m bs) ≡ take n cs
  pub back-are : chars (drop m bs) ≡ drop n cs

pub split : (bs cs : List ℕ) (count n m : ℕ) → IsHeld bs count → chars bs ≡ cs → n ≤ length cs → m ≡ length (encodes (take n cs)) → IsSplit bs cs count n m
split bs cs count n m held are le bytes =
    let parts = cut bs n held.0 in
    let same : m ≡ length (front_of bs n) = bytes ∙ ap (λ xs. length (encodes (take n xs))) (sym are) in
    let front : take m bs ≡ front_of bs n = ap (λ k. take k bs) same ∙ parts.front-is in
    let back : drop m bs ≡ back_of bs n = ap (λ k. drop k bs) same ∙ parts.back-is in
    let long : n ≤ length (chars bs) = subst (λ (xs : List ℕ). n ≤ length xs) (sym are) le in
    let front-are : chars (front_of bs n) ≡ take n (chars bs) = parts.front-are in
    let back-are : chars (back_of bs n) ≡ drop n (chars bs) = parts.back-are in
    let front-size : length (front_of bs n) < 2 ^ 63 = omega (arith, parts.sum, held.2) in
    let back-size : length (back_of bs n) < 2 ^ 63 = omega (arith, parts.sum, held.2) in
    let front-count : n ≡ length (chars (front_of bs n)) = sym (ap length front-are ∙ length-take-le n (chars bs) long) in
    let back-count : count - n ≡ length (chars (back_of bs n)) = ap (λ k. k - n) held.1 ∙ sym (ap length back-are ∙ length-drop n (chars bs)) in
    record {
      boundary = subst (λ k. IsCharBoundary bs k) (sym same) parts.boundary;
      front-held = subst (λ xs. IsHeld xs n) (sym front) (parts.front-utf8, front-count, front-size);
      back-held = subst (λ xs. IsHeld xs (count - n)) (sym back) (parts.back-utf8, back-count, back-size);
      front-are = ap chars front ∙ front-are ∙ ap (take n) are;
      back-are = ap chars back ∙ back-are ∙ ap (drop n) are;
    }

-- a text without its first character
pub record IsStep (bs : List ℕ) (count c : ℕ) (rest : List ℕ) : Type 0 where
  pub some : 1 ≤ count
  pub held : IsHeld rest (count - 1)
  pub are : chars bs ≡ c ∷ chars rest

pub decoded_step : (bs rest : List ℕ) (count c : ℕ) → IsHeld bs count → bs ≡ encode c ++ rest → IsStep bs count c rest
decoded_step bs rest count c held begins =
    let are = chars_past_char bs rest c held.0 begins in
    let more : length (chars bs) ≡ suc (length (chars rest)) = ap length are in
    record {
      some = omega (arith, held.1, more);
      held = (IsUtf8-past_char bs rest c held.0 begins, omega (arith, held.1, more), omega (arith, held.2, ap length begins, length-append (encode c) rest));
      are = are;
    }

pub ascii_step : (bs : List ℕ) (count : ℕ) → IsHeld bs count → 0 < length bs → slice_index bs 0 < 128 → IsCharBoundary bs 1 × IsStep bs count (slice_index bs 0) (drop 1 bs)
ascii_step [] count held some h = absurd (omega arith)
ascii_step (b ∷ bs) count held some h = (
  IsCharBoundary-after_ascii (b ∷ bs) 0 held.0 (omega arith) h,
  decoded_step (b ∷ bs) bs count b held (ap (λ l. l ++ bs) (sym (encode_ascii b h))),
)

pub none_left : (bs : List ℕ) (count : ℕ) → IsHeld bs count → length bs ≡ 0 → chars bs ≡ []
none_left [] count held e = chars-nil
none_left (b ∷ bs) count held e = absurd (omega arith)

pub few : (bs : List ℕ) (count : ℕ) → IsHeld bs count → count < 2 ^ 63
few bs count held = omega (arith, held.1, held.2, length-le-encodes (chars bs), ap length (encodes-chars bs held.0))

-- one character more came off
pub one_more : (P : Type 0) (cs rest next : List ℕ) (k : ℕ) (r : Option ℕ) → k < length cs → rest ≡ encodes (drop k cs) → MatchOption r P (λ c. rest ≡ encode c ++ next) → (0 < length rest → IsSome r) → next ≡ encodes (drop (k + 1) cs)
one_more P cs rest next k None less is step some = let h : false ≡ true = some (omega (arith, ap length is, length-le-encodes (drop k cs), length-drop k cs)) in cc
one_more P cs rest next k (Some c) less is step some =
    let parts = cons_from_encodes (drop k cs) next c (sym is ∙ step) in
    let after : drop (k + 1) cs ≡ parts.0 = sym (drop-drop 1 k cs) ∙ ap (drop 1) parts.1 in
    sym parts.2 ∙ ap encodes (sym after)

abbrev one_of : ℕ → List ℕ → Bool
one_of a xs = list_any (λ x. x == a) xs

past : (a b : ℕ) (bs : List ℕ) → a < 128 → 128 ≤ b → one_of a (b ∷ bs) ≡ one_of a bs
past a b bs h k = let no : (b == a) ≡ false = grind (arith, nat_tests) in ap (λ x. x || one_of a bs) no

none_of_two : (a b c : ℕ) → a < 128 → 128 ≤ b → 128 ≤ c → one_of a (b ∷ c ∷ []) ≡ false
none_of_two a b c h k l = past a b (c ∷ []) h k ∙ past a c [] h l

none_of_three : (a b c d : ℕ) → a < 128 → 128 ≤ b → 128 ≤ c → 128 ≤ d → one_of a (b ∷ c ∷ d ∷ []) ≡ false
none_of_three a b c d h k l m = past a b (c ∷ d ∷ []) h k ∙ none_of_two a c d h l m

none_of_four : (a b c d e : ℕ) → a < 128 → 128 ≤ b → 128 ≤ c → 128 ≤ d → 128 ≤ e → one_of a (b ∷ c ∷ d ∷ e ∷ []) ≡ false
none_of_four a b c d e h k l m n = past a b (c ∷ d ∷ e ∷ []) h k ∙ none_of_three a c d e h l m n

abbrev two : ℕ → List ℕ
two c = (192 + c / 64) ∷ next c ∷ []

abbrev three : ℕ → List ℕ
three c = (224 + c / 4096) ∷ next (c / 64) ∷ next c ∷ []

abbrev four : ℕ → List ℕ
four c = (240 + c / 262144) ∷ next (c / 4096) ∷ next (c / 64) ∷ next c ∷ []

same_byte : (a c : ℕ) → a < 128 → one_of a (encode c) ≡ one_of a (c ∷ [])
unfolding encode
same_byte a c h = elim (ltb c 128) as (λ x. ltb c 128 ≡ x → one_of a (cond x (c ∷ []) (cond (ltb c 2048) (two c) (cond (ltb c 65536) (three c) (four c)))) ≡ one_of a (c ∷ [])) [
  | true ↦ λ is. refl
  | false ↦ λ is.
      let none : false ≡ one_of a (c ∷ []) = sym (past a c [] h (grind (arith, nat_tests))) in
      elim (ltb c 2048) as (λ x. one_of a (cond x (two c) (cond (ltb c 65536) (three c) (four c))) ≡ one_of a (c ∷ [])) [
        | true ↦ none_of_two a (192 + c / 64) (next c) h (omega arith) (omega arith) ∙ none
        | false ↦ elim (ltb c 65536) as (λ x. one_of a (cond x (three c) (four c)) ≡ one_of a (c ∷ [])) [
          | true ↦ none_of_three a (224 + c / 4096) (next (c / 64)) (next c) h (omega arith) (omega arith) (omega arith) ∙ none
          | false ↦ none_of_four a (240 + c / 262144) (next (c / 4096)) (next (c / 64)) (next c) h (omega arith) (omega arith) (omega arith) (omega arith) ∙ none
        ]
      ]
] refl

-- an ASCII character is among those of a text exactly where its byte is
pub same_bytes : (a : ℕ) → a < 128 → (cs : List ℕ) → one_of a (encodes cs) ≡ one_of a cs
same_bytes a h [] = refl
same_bytes a h (c ∷ cs) =
    list_any-append (λ x. x == a) (encode c) (encodes cs)
    ∙ ap (λ b. b || one_of a (encodes cs)) (same_byte a c h)
    ∙ sym (list_any-append (λ x. x == a) (c ∷ []) (encodes cs))
    ∙ ap (λ b. (c == a) || b) (same_bytes a h cs)
