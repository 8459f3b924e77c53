-- Escaping a text byte by byte is escaping it character by character, in stretches too.
use Rattle.std.proofs.Common.{◌≡◌, ◌∙◌, ◌<◌, ◌≤◌, ◌+◌, ◌-◌, ◌/◌, ◌%◌, ℕ, Bool, true, false, cond, eqb, ltb, List, [], ◌∷◌, ◌++◌, append_assoc, append-nil, drop, get_or, length, refl, sym, ap, arith, subst, take}
use Rattle.std.specs.Prelude.{Option, Some, None, OnOk, Ok, Err, if◌then◌else◌}
use Rattle.std.specs.declared.alloc.AllocError.{AllocError}
use Rattle.std.specs.declared.result.Result.{Result}
use Rattle.std.specs.Result.{is_ok}
use Rattle.std.specs.List.{flat_map}
use Rattle.std.specs.Option.{unwrap_or}
use Rattle.std.specs.Str.{IsUtf8, chars}
use Rattle.std.proofs.lemmas.Grind.{flat_map-append}
use Rattle.std.proofs.lemmas.List.{flat_map_more, get_or-drop, length-drop, take_all, take_more}
use Rattle.std.proofs.lemmas.Str.{encode_ascii, encodes-chars}
use lib.Utf8.{encodes, encode}
use Rattle.rdf_model.specs.NTriples.{escaped}
use Rattle.report_writer.specs.EscapedBytes.{escape, escaped_byte}

apart : (b k : ℕ) → k < 128 → 128 ≤ b → eqb b k ≡ false
apart b k l h = grind arith

-- what is written for a byte or a character, by which of the four characters it is
abbrev chosen : {X : Type 0} → (List ℕ → X) → X → ℕ → X
chosen some other c = cond (eqb c 34) (some (92 ∷ 34 ∷ [])) (cond (eqb c 92) (some (92 ∷ 92 ∷ [])) (cond (eqb c 10) (some (92 ∷ 110 ∷ [])) (cond (eqb c 13) (some (92 ∷ 114 ∷ [])) other)))

chosen_other : {X : Type 0} → (some : List ℕ → X) (other : X) (c : ℕ) → 128 ≤ c → chosen some other c ≡ other
chosen_other some other c h = rw (apart c 34 (omega arith) h, apart c 92 (omega arith) h, apart c 10 (omega arith) h, apart c 13 (omega arith) h) refl

-- a byte beyond ASCII stands for itself
high : (b : ℕ) → 128 ≤ b → escaped_byte b ≡ b ∷ []
high b h = ap (λ (e : Option (List ℕ)). unwrap_or e (b ∷ [])) (chosen_other (λ e. Some e) None b h)

low_by : (c : ℕ) (quote backslash feed return : Bool)
    → unwrap_or (cond quote (Some (92 ∷ 34 ∷ [])) (cond backslash (Some (92 ∷ 92 ∷ [])) (cond feed (Some (92 ∷ 110 ∷ [])) (cond return (Some (92 ∷ 114 ∷ [])) None)))) (c ∷ []) ++ []
    ≡ cond quote (92 ∷ 34 ∷ []) (cond backslash (92 ∷ 92 ∷ []) (cond feed (92 ∷ 110 ∷ []) (cond return (92 ∷ 114 ∷ []) (c ∷ []))))
low_by c true backslash feed return = refl
low_by c false true feed return = refl
low_by c false false true return = refl
low_by c false false false true = refl
low_by c false false false false = refl

low : (c : ℕ) (bytes : List ℕ) → bytes ≡ c ∷ [] → flat_map escaped_byte bytes ≡ chosen (λ e. e) bytes c
low c bytes e = subst (λ (bs : List ℕ). flat_map escaped_byte bs ≡ chosen (λ e. e) bs c) (sym e) (low_by c (eqb c 34) (eqb c 92) (eqb c 10) (eqb c 13))

two : (a b : ℕ) → 128 ≤ a → 128 ≤ b → flat_map escaped_byte (a ∷ b ∷ []) ≡ a ∷ b ∷ []
two a b p q = λ i. high a p i ++ (high b q i ++ [])

three : (a b c : ℕ) → 128 ≤ a → 128 ≤ b → 128 ≤ c → flat_map escaped_byte (a ∷ b ∷ c ∷ []) ≡ a ∷ b ∷ c ∷ []
three a b c p q r = λ i. high a p i ++ two b c q r i

four : (a b c d : ℕ) → 128 ≤ a → 128 ≤ b → 128 ≤ c → 128 ≤ d → flat_map escaped_byte (a ∷ b ∷ c ∷ d ∷ []) ≡ a ∷ b ∷ c ∷ d ∷ []
four a b c d p q r s = λ i. high a p i ++ three b c d q r s i

-- a character beyond ASCII stands for itself
above : (c : ℕ) → 128 ≤ c → flat_map escaped_byte (encode c) ≡ encode c
unfolding encode
above c h = elim (ltb c 128) as (λ t. ltb c 128 ≡ t → flat_map escaped_byte (cond t (c ∷ []) (cond (ltb c 2048) ((192 + c / 64) ∷ (128 + c % 64) ∷ []) (cond (ltb c 65536) ((224 + c / 4096) ∷ (128 + c / 64 % 64) ∷ (128 + c % 64) ∷ []) ((240 + c / 262144) ∷ (128 + c / 4096 % 64) ∷ (128 + c / 64 % 64) ∷ (128 + c % 64) ∷ []))))
    ≡ cond t (c ∷ []) (cond (ltb c 2048) ((192 + c / 64) ∷ (128 + c % 64) ∷ []) (cond (ltb c 65536) ((224 + c / 4096) ∷ (128 + c / 64 % 64) ∷ (128 + c % 64) ∷ []) ((240 + c / 262144) ∷ (128 + c / 4096 % 64) ∷ (128 + c / 64 % 64) ∷ (128 + c % 64) ∷ [])))) [
      | true ↦ λ k. rw (high c h) refl
      | false ↦ λ k. elim (ltb c 2048) as (λ t. flat_map escaped_byte (cond t ((192 + c / 64) ∷ (128 + c % 64) ∷ []) (cond (ltb c 65536) ((224 + c / 4096) ∷ (128 + c / 64 % 64) ∷ (128 + c % 64) ∷ []) ((240 + c / 262144) ∷ (128 + c / 4096 % 64) ∷ (128 + c / 64 % 64) ∷ (128 + c % 64) ∷ [])))
          ≡ cond t ((192 + c / 64) ∷ (128 + c % 64) ∷ []) (cond (ltb c 65536) ((224 + c / 4096) ∷ (128 + c / 64 % 64) ∷ (128 + c % 64) ∷ []) ((240 + c / 262144) ∷ (128 + c / 4096 % 64) ∷ (128 + c / 64 % 64) ∷ (128 + c % 64) ∷ []))) [
            | true ↦ two (192 + c / 64) (128 + c % 64) (omega arith) (omega arith)
            | false ↦ elim (ltb c 65536) as (λ t. flat_map escaped_byte (cond t ((224 + c / 4096) ∷ (128 + c / 64 % 64) ∷ (128 + c % 64) ∷ []) ((240 + c / 262144) ∷ (128 + c / 4096 % 64) ∷ (128 + c / 64 % 64) ∷ (128 + c % 64) ∷ []))
                ≡ cond t ((224 + c / 4096) ∷ (128 + c / 64 % 64) ∷ (128 + c % 64) ∷ []) ((240 + c / 262144) ∷ (128 + c / 4096 % 64) ∷ (128 + c / 64 % 64) ∷ (128 + c % 64) ∷ [])) [
                  | true ↦ three (224 + c / 4096) (128 + c / 64 % 64) (128 + c % 64) (omega arith) (omega arith) (omega arith)
                  | false ↦ four (240 + c / 262144) (128 + c / 4096 % 64) (128 + c / 64 % 64) (128 + c % 64) (omega arith) (omega arith) (omega arith) (omega arith)
                ]
          ]
    ] refl

by_character : (c : ℕ) → flat_map escaped_byte (encode c) ≡ escaped c
by_character c = elim (ltb c 128) as (λ t. ltb c 128 ≡ t → flat_map escaped_byte (encode c) ≡ escaped c) [
  | true ↦ λ k. low c (encode c) (encode_ascii c (grind arith))
  | false ↦ λ k. let h : 128 ≤ c = grind arith in above c h ∙ sym (chosen_other (λ e. e) (encode c) c h)
] refl

by_characters : (cs : List ℕ) → flat_map escaped_byte (encodes cs) ≡ flat_map escaped cs
by_characters [] = refl
by_characters (c ∷ cs) = flat_map-append escaped_byte (encode c) (encodes cs) ∙ (λ i. by_character c i ++ by_characters cs i)

by_bytes : (text : List ℕ) → IsUtf8 text → flat_map escaped_byte text ≡ flat_map escaped (chars text)
by_bytes text u = ap (flat_map escaped_byte) (sym (encodes-chars text u)) ∙ by_characters (chars text)

-- the bytes so far, with one more
bytes_more : (text out : List ℕ) (i x : ℕ) → i < length text → x ≡ get_or text i 0 → (out ++ flat_map escaped_byte (take i text)) ++ escaped_byte x ≡ out ++ flat_map escaped_byte (take (i + 1) text)
bytes_more text out i x less is =
    flat_map_more escaped_byte out (take i text) x
    ∙ ap (λ (bs : List ℕ). out ++ flat_map escaped_byte bs) (ap (λ (y : ℕ). take i text ++ y ∷ []) is ∙ sym (take_more text i 0 less))

-- a byte that isn't escaped makes the stretch one longer
pub plain_more : (text out new : List ℕ) (written i x : ℕ) → written ≤ i → i < length text → x ≡ get_or text i 0 → escape x ≡ None
    → new ++ take (i - written) (drop written text) ≡ out ++ flat_map escaped_byte (take i text)
    → new ++ take (i + 1 - written) (drop written text) ≡ out ++ flat_map escaped_byte (take (i + 1) text)
plain_more text out new written i x le less is plain before =
    let rest = drop written text in
    let count : i + 1 - written ≡ (i - written) + 1 = omega arith in
    let at : written + (i - written) ≡ i = omega arith in
    let inside : i - written < length rest = simp length-drop (omega arith) in
    let here : get_or rest (i - written) 0 ≡ x = get_or-drop written text (i - written) 0 ∙ ap (λ n. get_or text n 0) at ∙ sym is in
    let longer : take (i + 1 - written) rest ≡ take (i - written) rest ++ x ∷ [] = ap (λ n. take n rest) count ∙ take_more rest (i - written) 0 inside ∙ ap (λ (y : ℕ). take (i - written) rest ++ y ∷ []) here in
    let itself : x ∷ [] ≡ escaped_byte x = ap (λ (e : Option (List ℕ)). unwrap_or e (x ∷ [])) (sym plain) in
    ap (λ bs. new ++ bs) longer
    ∙ sym (append_assoc new (take (i - written) rest) (x ∷ []))
    ∙ (λ j. before j ++ itself j)
    ∙ bytes_more text out i x less is

-- a byte that is escaped ends the stretch
pub escape_more : (text out new last e : List ℕ) (written i x : ℕ) → i < length text → x ≡ get_or text i 0 → escape x ≡ Some e
    → new ++ take (i - written) (drop written text) ≡ out ++ flat_map escaped_byte (take i text)
    → last ≡ (new ++ take (i - written) (drop written text)) ++ e
    → last ++ take (i + 1 - (i + 1)) (drop (i + 1) text) ≡ out ++ flat_map escaped_byte (take (i + 1) text)
escape_more text out new last e written i x less is found before added =
    let none : i + 1 - (i + 1) ≡ 0 = omega arith in
    let it : e ≡ escaped_byte x = ap (λ (o : Option (List ℕ)). unwrap_or o (x ∷ [])) (sym found) in
    ap (λ n. last ++ take n (drop (i + 1) text)) none
    ∙ append-nil last
    ∙ added
    ∙ (λ j. before j ++ it j)
    ∙ bytes_more text out i x less is

-- the last stretch ends the text
pub all_escaped : (text out new last : List ℕ) (written i : ℕ) → IsUtf8 text → length text ≤ i
    → new ++ take (i - written) (drop written text) ≡ out ++ flat_map escaped_byte (take i text)
    → last ≡ new ++ drop written text
    → last ≡ out ++ flat_map escaped (chars text)
all_escaped text out new last written i u le before added =
    let short : length (drop written text) ≤ i - written = simp length-drop (omega arith) in
    added
    ∙ ap (λ bs. new ++ bs) (sym (take_all (i - written) (drop written text) short))
    ∙ before
    ∙ ap (λ bs. out ++ flat_map escaped_byte bs) (take_all i text le)
    ∙ ap (λ bs. out ++ bs) (by_bytes text u)

-- what is escaped is ASCII
pub escaped_below : (x : ℕ) (e : List ℕ) → escape x ≡ Some e → x < 128
escaped_below x e found = elim (ltb x 128) as (λ t. ltb x 128 ≡ t → x < 128) [
  | true ↦ λ k. grind arith
  | false ↦ λ k. let none : escape x ≡ None = chosen_other (λ e. Some e) None x (grind arith) in absurd (cc (none, found))
] refl

-- what a push of a text ensures, where it succeeds
pub on_ok_pushed : {A : Type 0} (r : Result (Unit {0}) AllocError) (now old text : List ℕ) → (now ≡ old ++ text → A) → now ≡ (if is_ok r then old ++ text else old) → OnOk r A
on_ok_pushed (Ok u) now old text f e = f e
on_ok_pushed (Err err) now old text f e = tt
