-- The characters of a text, and which bytes are one.
use Rattle.std.proofs.Common.{◌≡◌, ◌∙◌, ℕ, ◌+◌, ◌≤◌, cond, List, length, Ok, Err, Result, sym, ap, subst, arith}
use Rattle.std.specs.Prelude.{MatchResult, IfOk}
use Rattle.std.specs.Str.{IsUtf8, is_utf8, chars}
use Rattle.std.specs.Str.Lossy.{utf8_valid_len}
use Rattle.std.proofs.lemmas.Str.{encodes-chars, length-le-encodes, is_utf8-from_IsUtf8, IsUtf8-from_is_utf8}
use Rattle.std.proofs.lemmas.Bool.{false_from_ne_true}
use Rattle.rdf_model.specs.declared.triple.Triple.{Triple}
use Rattle.rdf_lexical.specs.declared.refusal.RefusalKind.TheVariants.{NotUtf8}
use Rattle.rdf_lexical.specs.declared.refusal.ReadFault.{ReadFault}
use Rattle.rdf_lexical.specs.Refusals.{Refuses}
use Rattle.turtle_reader.specs.Parsers.{Refusal}
use Rattle.turtle_reader.specs.Document.{text_read, line_of, reads}

-- as many characters as bytes, or fewer
pub fewer_chars : (bs cs : List ℕ) → IsUtf8 bs → cs ≡ chars bs → (cs ≡ chars bs) × (length cs ≤ length bs)
fewer_chars bs cs u e = (e, subst (λ (xs : List ℕ). length xs ≤ length bs) (sym e) (subst (λ (xs : List ℕ). length (chars bs) ≤ length xs) (encodes-chars bs u) (length-le-encodes (chars bs))))

-- room for fewer is room for more
pub more_room : {T E : Type 0} (r : Result (T × ℕ) E) (first m n : ℕ) → m ≤ n → IfOk r (λ found. (first ≤ found.1) × (found.1 ≤ first + m)) → IfOk r (λ found. (first ≤ found.1) × (found.1 ≤ first + n))
more_room (Ok found) first m n h k = (k.0, omega arith)
more_room (Err e) first m n h k = tt

abbrev refused : List ℕ → Result (List Triple × ℕ) Refusal
refused bs = Err (line_of bs (utf8_valid_len bs), NotUtf8)

of_text : (bs : List ℕ) (session first : ℕ) → IsUtf8 bs → reads bs session first ≡ text_read (chars bs) session first
of_text bs session first u = ap (λ b. cond b (text_read (chars bs) session first) (refused bs)) (is_utf8-from_IsUtf8 bs u)

pub of_no_text : (bs : List ℕ) (session first : ℕ) → (IsUtf8 bs → ⊥) → reads bs session first ≡ Err (line_of bs (utf8_valid_len bs), NotUtf8)
of_no_text bs session first n = ap (λ b. cond b (text_read (chars bs) session first) (refused bs)) (false_from_ne_true (is_utf8 bs) (λ e. n (IsUtf8-from_is_utf8 bs e)))

-- what is made of a reading of the characters is made of that of the bytes
pub whole_text : {T : Type 0} (f : T → List Triple) (r : Result T ReadFault) (bs text : List ℕ) (session first next : ℕ) → IsUtf8 bs → text ≡ bs
    → MatchResult r (λ read. text_read (chars text) session first ≡ Ok (f read, next)) (λ fault. Refuses fault (text_read (chars text) session first))
    → MatchResult r (λ read. reads bs session first ≡ Ok (f read, next)) (λ fault. Refuses fault (reads bs session first))
whole_text f (Ok read) bs text session first next u e h = of_text bs session first u ∙ ap (λ t. text_read (chars t) session first) (sym e) ∙ h
whole_text f (Err fault) bs text session first next u e h = subst (λ x. Refuses fault x) (ap (λ t. text_read (chars t) session first) e ∙ sym (of_text bs session first u)) h
