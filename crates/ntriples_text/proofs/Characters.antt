-- The characters of a text, and which bytes are one.
use Rattle.std.proofs.Common.{◌≡◌, ◌∙◌, ℕ, ◌≤◌, cond, List, length, Option, None, Ok, Err, Result, sym, ap, subst}
use Rattle.std.specs.Prelude.{MatchResult, IfOk}
use Rattle.std.specs.declared.alloc.AllocError.{AllocError}
use Rattle.std.specs.Str.{IsUtf8, is_utf8, chars}
use Rattle.std.specs.Str.Lossy.{utf8_valid_len}
use Rattle.std.proofs.lemmas.Str.{encodes-chars, length-le-encodes, is_utf8-from_IsUtf8, IsUtf8-from_is_utf8}
use Rattle.std.proofs.lemmas.Bool.{false_from_ne_true}
use Rattle.rdf_model.specs.declared.term.Term.{Term}
use Rattle.rdf_model.specs.declared.triple.Triple.{Triple}
use Rattle.rdf_lexical.specs.declared.refusal.RefusalKind.{RefusalKind}
use Rattle.rdf_lexical.specs.declared.refusal.RefusalKind.TheVariants.{NotUtf8}
use Rattle.rdf_lexical.specs.declared.refusal.ReadFault.{ReadFault}
use Rattle.rdf_lexical.specs.declared.refusal.ReadFault.TheVariants.{Memory, Refusal}
use Rattle.ntriples_text.specs.declared.statement.LabelKind.{LabelKind}
use Rattle.ntriples_text.specs.declared.statement.Statement.{Statement}
use Rattle.rdf_lexical.specs.Refusals.{Refuses}
use Rattle.ntriples_text.specs.Document.{lines, lines_from, numbered, line_of, reads_by, triples_of, named_term}
use Rattle.ntriples_text.specs.Grammar.{alone}

-- as many characters as bytes, or fewer
pub fewer_chars : (bs cs : List ℕ) → IsUtf8 bs → cs ≡ chars bs → (cs ≡ chars bs) × (length cs ≤ length bs)
fewer_chars bs cs u e = (e, subst (λ (xs : List ℕ). length xs ≤ length bs) (sym e) (subst (λ (xs : List ℕ). length (chars bs) ≤ length xs) (encodes-chars bs u) (length-le-encodes (chars bs))))

abbrev reading_of : LabelKind → List ℕ → Result (List Statement) (ℕ × RefusalKind)
reading_of labels bs = lines_from labels 1 (lines (chars bs))

abbrev refused : List ℕ → Result (List Triple × ℕ) (ℕ × RefusalKind)
refused bs = Err (line_of bs (utf8_valid_len bs), NotUtf8)

pub of_text : (labels : LabelKind) (bs : List ℕ) (session first : ℕ) → IsUtf8 bs → reads_by labels bs session first ≡ numbered session first (reading_of labels bs)
of_text labels bs session first u = ap (λ b. cond b (numbered session first (reading_of labels bs)) (refused bs)) (is_utf8-from_IsUtf8 bs u)

pub of_no_text : (labels : LabelKind) (bs : List ℕ) (session first : ℕ) → (IsUtf8 bs → ⊥) → reads_by labels bs session first ≡ Err (line_of bs (utf8_valid_len bs), NotUtf8)
of_no_text labels bs session first n = ap (λ b. cond b (numbered session first (reading_of labels bs)) (refused bs)) (false_from_ne_true (is_utf8 bs) (λ e. n (IsUtf8-from_is_utf8 bs e)))

-- what is made of a reading of the characters is made of that of the bytes
pub whole_text : {T : Type 0} (f : T → List Triple) (labels : LabelKind) (r : Result T ReadFault) (bs text : List ℕ) (session first next : ℕ) → IsUtf8 bs → text ≡ bs
    → MatchResult r (λ read. numbered session first (reading_of labels text) ≡ Ok (f read, next)) (λ fault. Refuses fault (numbered session first (reading_of labels text)))
    → MatchResult r (λ read. reads_by labels bs session first ≡ Ok (f read, next)) (λ fault. Refuses fault (reads_by labels bs session first))
whole_text f labels (Ok read) bs text session first next u e h = of_text labels bs session first u ∙ ap (λ t. numbered session first (reading_of labels t)) (sym e) ∙ h
whole_text f labels (Err fault) bs text session first next u e h = subst (λ x. Refuses fault x) (ap (λ t. numbered session first (reading_of labels t)) e ∙ sym (of_text labels bs session first u)) h

-- a reading of names, by the reading with numbers
pub named_reading : {T : Type 0} (f : T → List Triple) (r : Result T ReadFault) (reading : Result (List Triple × ℕ) (ℕ × RefusalKind)) (next : ℕ) → MatchResult r (λ read. reading ≡ Ok (f read, next)) (λ fault. Refuses fault reading)
    → MatchResult r (λ read. triples_of reading ≡ Ok (f read)) (λ fault. Refuses fault (triples_of reading))
named_reading f (Ok read) reading next h = ap triples_of h
named_reading f (Err Memory) reading next h = tt
named_reading f (Err (Refusal n k)) reading next h = ap triples_of h

-- a term alone
pub alone_text : (bs text : List ℕ) (r : Result (Option Term) AllocError) → IsUtf8 bs → text ≡ bs → IfOk r (λ t. t ≡ alone (chars text)) → IfOk r (λ t. t ≡ named_term bs)
alone_text bs text (Ok t) u same is = is ∙ (ap (λ x. alone (chars x)) same ∙ sym (ap (λ b. cond b (alone (chars bs)) None) (is_utf8-from_IsUtf8 bs u)))
alone_text bs text (Err e) u same is = tt

pub alone_no_text : (bs : List ℕ) → (IsUtf8 bs → ⊥) → named_term bs ≡ None
alone_no_text bs n = ap (λ b. cond b (alone (chars bs)) None) (false_from_ne_true (is_utf8 bs) (λ e. n (IsUtf8-from_is_utf8 bs e)))
