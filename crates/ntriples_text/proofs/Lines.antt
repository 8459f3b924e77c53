-- The first line of a text, by its bytes.
use Rattle.std.proofs.Common.{◌≡◌, ◌∙◌, ℕ, suc, ◌+◌, ◌/◌, ◌<◌, ◌≤◌, true, false, cond, ltb, List, [], ◌∷◌, ◌++◌, length, take, drop, refl, sym, ap, subst, arith, Result, Ok, Err}
use Rattle.std.specs.Prelude.{OnOk}
use Rattle.std.specs.List.{onto_first}
use Rattle.std.specs.Str.{chars, IsUtf8, IsCharBoundary}
use Rattle.std.proofs.lemmas.Bool.{and_parts, and_from}
use Rattle.std.proofs.lemmas.Bool.Decides.{nat_tests}
use Rattle.std.proofs.lemmas.List.{length-take-le}
use Rattle.std.proofs.lemmas.Str.{chars-encodes, encode_ascii, encodes-chars, IsCharBoundary-from_drop}
use Rattle.std.proofs.Math.Seq.{take-append-add, drop-append-add}
use lib.Utf8.{encode, encodes, scalar, scalars, next}
use Rattle.rdf_lexical.specs.Characters.{is_line_end}
use Rattle.ntriples_text.specs.Document.{lines}
use Rattle.ntriples_text.specs.LineBytes.{line_length}

-- the first line, and what follows it
abbrev first_line : List ℕ → List ℕ
first_line [] = []
first_line (c ∷ cs) = cond (is_line_end c) (c ∷ []) (c ∷ first_line cs)

abbrev other_lines : List ℕ → List ℕ
other_lines [] = []
other_lines (c ∷ cs) = cond (is_line_end c) cs (other_lines cs)

-- no line ends within a character of more than one byte
high : (b : ℕ) → 128 ≤ b → is_line_end b ≡ false
high b h = grind (arith, nat_tests)

step_on : (b : ℕ) (r : List ℕ) → is_line_end b ≡ false → line_length (b ∷ r) ≡ suc (line_length r)
step_on b r e = ap (λ t. cond t 1 (suc (line_length r))) e

step_high : (b : ℕ) (r : List ℕ) → 128 ≤ b → line_length (b ∷ r) ≡ suc (line_length r)
step_high b r h = step_on b r (high b h)

past_two : (a b : ℕ) (r : List ℕ) → 128 ≤ a → 128 ≤ b → line_length (a ∷ b ∷ r) ≡ 2 + line_length r
past_two a b r h k = let one = step_high b r k in step_high a (b ∷ r) h ∙ omega arith

past_three : (a b c : ℕ) (r : List ℕ) → 128 ≤ a → 128 ≤ b → 128 ≤ c → line_length (a ∷ b ∷ c ∷ r) ≡ 3 + line_length r
past_three a b c r h k l = let two = past_two b c r k l in step_high a (b ∷ c ∷ r) h ∙ omega arith

past_four : (a b c d : ℕ) (r : List ℕ) → 128 ≤ a → 128 ≤ b → 128 ≤ c → 128 ≤ d → line_length (a ∷ b ∷ c ∷ d ∷ r) ≡ 4 + line_length r
past_four a b c d r h k l m = let three = past_three b c d r k l m in step_high a (b ∷ c ∷ d ∷ r) h ∙ omega arith

past_character : (c : ℕ) (r : List ℕ) → is_line_end c ≡ false → line_length (encode c ++ r) ≡ length (encode c) + line_length r
unfolding encode
past_character c r e =
    let one = step_on c r e in
    elim (ltb c 128) as (λ x. line_length (cond x (c ∷ []) (cond (ltb c 2048) ((192 + c / 64) ∷ next c ∷ []) (cond (ltb c 65536) ((224 + c / 4096) ∷ next (c / 64) ∷ next c ∷ []) ((240 + c / 262144) ∷ next (c / 4096) ∷ next (c / 64) ∷ next c ∷ []))) ++ r) ≡ length (cond x (c ∷ []) (cond (ltb c 2048) ((192 + c / 64) ∷ next c ∷ []) (cond (ltb c 65536) ((224 + c / 4096) ∷ next (c / 64) ∷ next c ∷ []) ((240 + c / 262144) ∷ next (c / 4096) ∷ next (c / 64) ∷ next c ∷ [])))) + line_length r) [
      | true ↦ one ∙ omega arith
      | false ↦ elim (ltb c 2048) as (λ x. line_length (cond x ((192 + c / 64) ∷ next c ∷ []) (cond (ltb c 65536) ((224 + c / 4096) ∷ next (c / 64) ∷ next c ∷ []) ((240 + c / 262144) ∷ next (c / 4096) ∷ next (c / 64) ∷ next c ∷ [])) ++ r) ≡ length (cond x ((192 + c / 64) ∷ next c ∷ []) (cond (ltb c 65536) ((224 + c / 4096) ∷ next (c / 64) ∷ next c ∷ []) ((240 + c / 262144) ∷ next (c / 4096) ∷ next (c / 64) ∷ next c ∷ []))) + line_length r) [
        | true ↦ past_two (192 + c / 64) (next c) r (omega arith) (omega arith)
        | false ↦ elim (ltb c 65536) as (λ x. line_length (cond x ((224 + c / 4096) ∷ next (c / 64) ∷ next c ∷ []) ((240 + c / 262144) ∷ next (c / 4096) ∷ next (c / 64) ∷ next c ∷ []) ++ r) ≡ length (cond x ((224 + c / 4096) ∷ next (c / 64) ∷ next c ∷ []) ((240 + c / 262144) ∷ next (c / 4096) ∷ next (c / 64) ∷ next c ∷ [])) + line_length r) [
          | true ↦ past_three (224 + c / 4096) (next (c / 64)) (next c) r (omega arith) (omega arith) (omega arith)
          | false ↦ past_four (240 + c / 262144) (next (c / 4096)) (next (c / 64)) (next c) r (omega arith) (omega arith) (omega arith) (omega arith)
        ]
      ]
    ]

end_is_short : (c : ℕ) → is_line_end c ≡ true → encode c ≡ c ∷ []
end_is_short c e = let small : c < 128 = grind (arith, nat_tests) in encode_ascii c small

abbrev IsSplit : ℕ → List ℕ → List ℕ → List ℕ → Type 0
IsSplit n bytes first others = (take n bytes ≡ encodes first) × (drop n bytes ≡ encodes others)

split_end : (c : ℕ) (cs : List ℕ) → is_line_end c ≡ true → IsSplit (line_length (encode c ++ encodes cs)) (encode c ++ encodes cs) (c ∷ []) cs
split_end c cs e =
    let short = end_is_short c e in
    subst (λ (bs : List ℕ). IsSplit (line_length (bs ++ encodes cs)) (bs ++ encodes cs) (c ∷ []) cs) (sym short)
    (subst (λ (n : ℕ). IsSplit n (c ∷ encodes cs) (c ∷ []) cs) (sym (ap (λ t. cond t 1 (suc (line_length (encodes cs)))) e)) (sym (ap (λ x. x ++ []) short), refl))

split_on : (c : ℕ) (cs first others : List ℕ) → is_line_end c ≡ false → IsSplit (line_length (encodes cs)) (encodes cs) first others → IsSplit (line_length (encode c ++ encodes cs)) (encode c ++ encodes cs) (c ∷ first) others
split_on c cs first others e h =
    let a = encode c in
    let m = line_length (encodes cs) in
    subst (λ (n : ℕ). IsSplit n (a ++ encodes cs) (c ∷ first) others) (sym (past_character c (encodes cs) e))
    (take-append-add a (encodes cs) m ∙ ap (λ x. a ++ x) h.0, drop-append-add a (encodes cs) m ∙ h.1)

split_bytes : (cs : List ℕ) → IsSplit (line_length (encodes cs)) (encodes cs) (first_line cs) (other_lines cs)
split_bytes [] = (refl, refl)
split_bytes (c ∷ cs) =
    let more = split_bytes cs in
    elim (is_line_end c) as (λ b. is_line_end c ≡ b → IsSplit (line_length (encode c ++ encodes cs)) (encode c ++ encodes cs) (cond b (c ∷ []) (c ∷ first_line cs)) (cond b cs (other_lines cs))) [
      | true ↦ λ e. split_end c cs e
      | false ↦ λ e. split_on c cs (first_line cs) (other_lines cs) e more
    ] refl

split_scalars : (cs : List ℕ) → scalars cs ≡ true → (scalars (first_line cs) ≡ true) × (scalars (other_lines cs) ≡ true)
split_scalars [] h = (refl, refl)
split_scalars (c ∷ cs) h =
    let parts = and_parts (scalar c) (scalars cs) h in
    let more = split_scalars cs parts.1 in
    elim (is_line_end c) as (λ b. (scalars (cond b (c ∷ []) (c ∷ first_line cs)) ≡ true) × (scalars (cond b cs (other_lines cs)) ≡ true)) [
      | true ↦ (and_from (scalar c) true parts.0 refl, parts.1)
      | false ↦ (and_from (scalar c) (scalars (first_line cs)) parts.0 more.0, more.1)
    ]

split_lines : (c : ℕ) (cs : List ℕ) → lines (c ∷ cs) ≡ first_line (c ∷ cs) ∷ lines (other_lines (c ∷ cs))
split_lines c [] = elim (is_line_end c) as (λ b. cond {A = List (List ℕ)} b ((c ∷ []) ∷ []) ((c ∷ []) ∷ []) ≡ cond {A = List ℕ} b (c ∷ []) (c ∷ []) ∷ lines (cond {A = List ℕ} b [] [])) [ true ↦ refl | false ↦ refl ]
split_lines c (d ∷ cs) =
    let more = split_lines d cs in
    elim (is_line_end c) as (λ b. cond b ((c ∷ []) ∷ lines (d ∷ cs)) (onto_first c (lines (d ∷ cs))) ≡ cond b (c ∷ []) (c ∷ first_line (d ∷ cs)) ∷ lines (cond b (d ∷ cs) (other_lines (d ∷ cs)))) [
      | true ↦ refl
      | false ↦ ap (onto_first c) more
    ]

all_lines : (cs : List ℕ) → 0 < length cs → lines cs ≡ first_line cs ∷ lines (other_lines cs)
all_lines [] h = absurd (omega arith)
all_lines (c ∷ cs) h = split_lines c cs

pub within_text : (bs : List ℕ) → line_length bs ≤ length bs
within_text [] = omega arith
within_text (b ∷ bs) = let more = within_text bs in elim (is_line_end b) as (λ t. cond t 1 (suc (line_length bs)) ≤ suc (length bs)) [ true ↦ omega arith | false ↦ omega arith ]

pub some_bytes : (bs : List ℕ) → 0 < length bs → 0 < line_length bs
some_bytes [] h = absurd (omega arith)
some_bytes (b ∷ bs) h = elim (is_line_end b) as (λ t. 0 < cond t 1 (suc (line_length bs))) [ true ↦ omega arith | false ↦ omega arith ]

-- a text that isn't empty has a character
pub some_chars : (bs : List ℕ) → IsUtf8 bs → 0 < length bs → 0 < length (chars bs)
some_chars bs utf8 some = elim (chars bs) as (λ cs. chars bs ≡ cs → 0 < length cs) [
  | [] ↦ λ e. let none : 0 ≡ length bs = ap length (ap encodes (sym e) ∙ encodes-chars bs utf8) in absurd (omega (arith, none, some))
  | c ∷ cs ↦ λ e. omega arith
] refl

-- a line ends between two characters
pub line_boundary : (bs : List ℕ) → IsUtf8 bs → IsCharBoundary bs (line_length bs)
line_boundary bs (cs, (ok, is)) =
    let split = subst (λ (x : List ℕ). IsSplit (line_length x) x (first_line cs) (other_lines cs)) is (split_bytes cs) in
    IsCharBoundary-from_drop bs (line_length bs) (within_text bs) (other_lines cs, ((split_scalars cs ok).1, sym split.1))

lines_of_text : (bs : List ℕ) → IsUtf8 bs → 0 < length bs → lines (chars bs) ≡ chars (take (line_length bs) bs) ∷ lines (chars (drop (line_length bs) bs))
lines_of_text bs (cs, (ok, is)) some =
    let split = subst (λ (x : List ℕ). IsSplit (line_length x) x (first_line cs) (other_lines cs)) is (split_bytes cs) in
    let good = split_scalars cs ok in
    let whole : chars bs ≡ cs = ap chars (sym is) ∙ chars-encodes cs ok in
    let first : chars (take (line_length bs) bs) ≡ first_line cs = ap chars split.0 ∙ chars-encodes (first_line cs) good.0 in
    let others : chars (drop (line_length bs) bs) ≡ other_lines cs = ap chars split.1 ∙ chars-encodes (other_lines cs) good.1 in
    let long : 0 < length cs = subst (λ (x : List ℕ). 0 < length x) whole (some_chars bs (cs, (ok, is)) some) in
    ap lines whole ∙ all_lines cs long ∙ sym (ap (λ x. x ∷ lines (other_lines cs)) first) ∙ ap (λ x. chars (take (line_length bs) bs) ∷ lines x) (sym others)

pub lines_split : (bs line rest : List ℕ) (n : ℕ) → IsUtf8 bs → 0 < length bs → n ≡ line_length bs → line ≡ take n bs → rest ≡ drop n bs → lines (chars bs) ≡ chars line ∷ lines (chars rest)
lines_split bs line rest n utf8 some is front back =
    lines_of_text bs utf8 some
    ∙ ap (λ k. chars (take k bs) ∷ lines (chars (drop k bs))) (sym is)
    ∙ ap (λ x. chars x ∷ lines (chars (drop n bs))) (sym front)
    ∙ ap (λ x. chars line ∷ lines (chars x)) (sym back)

pub line_is_some : (bs line : List ℕ) (n : ℕ) → 0 < length bs → n ≡ line_length bs → line ≡ take n bs → 0 < length line
line_is_some bs line n some is front =
    let size : length line ≡ n = ap length front ∙ length-take-le n bs (omega (arith, within_text bs)) in
    omega (arith, some_bytes bs some)

-- room for fewer is room for more
pub more_room : {T E : Type 0} (r : Result T E) (a b m n : ℕ) → m ≤ n → OnOk r (a ≤ b + m) → OnOk r (a ≤ b + n)
more_room (Ok x) a b m n h k = omega arith
more_room (Err e) a b m n h k = tt
