-- Triples and terms by their texts.
use Rattle.std.proofs.Common.{◌≡◌, ◌≢◌, ◌∙◌, ℕ, zero, suc, ◌-◌, ◌<◌, true, List, [], ◌∷◌, ◌++◌, length, get_or, Option, Some, None, Result, Ok, Err, codes, refl, sym, ap, subst, append_assoc, append-nil, length-append, arith, inl, inr}
use Rattle.std.specs.Prelude.{MatchOption}
use Rattle.std.specs.Option.{option_to_list}
use Rattle.std.specs.List.{AllByRecursion, list_all}
use Rattle.std.specs.Str.{chars}
use Rattle.std.proofs.lemmas.Str.{chars-encodes, encodes-chars, inside_one}
use Rattle.std.proofs.lemmas.Bool.{and_parts, cases_lt}
use Rattle.std.proofs.lemmas.List.{get_or-append_right}
use lib.Utf8.{encodes, encode}
use Rattle.rdf_lexical.specs.Characters.{is_iri_char}
use Rattle.rdf_lexical.specs.declared.refusal.ReadFault.{ReadFault}
use Rattle.rdf_lexical.specs.declared.refusal.ReadFault.TheVariants.{Refusal}
use Rattle.rdf_lexical.specs.declared.refusal.RefusalKind.{RefusalKind}
use Rattle.rdf_lexical.specs.Refusals.{Refuses}
use Rattle.rdf_model.specs.declared.term.Term.{Term}
use Rattle.rdf_model.specs.declared.term.Term.TheVariants.{Blank, Iri, Literal}
use Rattle.rdf_model.specs.declared.triple.Triple.{Triple}
use Rattle.rdf_model.specs.NTriples.{term_text, triple_text}
use Rattle.ntriples_text.specs.Document.{reads_named}
use Rattle.ntriples_text.specs.Laws.{IsIriText, IsReadable, IsReadableIri, IsStored}
use Rattle.ntriples_text.specs.Writing.{written_line}
use Rattle.ntriples_text.proofs.RoundTrip.{reads_named_again}
use Rattle.record_text.proofs.StoredTerms.{gives_readable_graph}
use Rattle.record_text.proofs.TripleLines.{triple_has_no_end}
use Rattle.evidence_blocks.specs.Readable.{IsReadableTerm}
use Rattle.evidence_reader.specs.Finding.{FindsAlone, HasNo}

-- the line of one triple is read as just that
reads_one : (line : List ℕ) (t : Triple) → IsReadable IsStored t → line ≡ written_line t → reads_named line ≡ Ok (t ∷ [])
reads_one line t r e = ap reads_named (e ∙ sym (append-nil (written_line t))) ∙ reads_named_again (t ∷ []) (r, tt) (tt, tt)

all_last : (P : Triple → Type 0) (ts : List Triple) (t : Triple) → AllByRecursion P (ts ++ t ∷ []) → P t
all_last P [] t a = a.0
all_last P (u ∷ ts) t a = all_last P ts t a.1

last_readable : (ts : List Triple) (last : Option Triple) → AllByRecursion (IsReadable IsStored) (ts ++ option_to_list last) → MatchOption last (Unit {0}) (IsReadable IsStored)
last_readable ts None a = tt
last_readable ts (Some t) a = all_last (IsReadable IsStored) ts t a

-- the last triple of what is read; one triple alone is it
pub last_read : (line : List ℕ) (ts items rest : List Triple) (last : Option Triple) (k : ℕ) → reads_named line ≡ Ok ts → items ≡ ts → k ≡ length items → items ≡ rest ++ option_to_list last → ((d : Triple) → 0 < k → last ≡ Some (get_or items (k - 1) d))
    → FindsAlone (IsReadable IsStored) written_line line last
last_read line ts items rest last k h is count split value = record {
  sound = last_readable rest last (subst (λ (us : List Triple). AllByRecursion (IsReadable IsStored) us) (sym is ∙ split) (gives_readable_graph line ts h).0);
  every = λ t r e. (
      let both : Ok ts ≡ Ok (t ∷ []) = sym h ∙ reads_one line t r e in
      let one : items ≡ t ∷ [] = is ∙ cc in
      let size : k ≡ 1 = count ∙ ap (λ (us : List Triple). length us) one in
      value t (omega (arith, size)) ∙ (λ i. Some (get_or (one i) (size i - 1) t))
      );
}

-- a refusal gives no triples
pub refused : (reading : Result (List Triple) (ℕ × RefusalKind)) (fault : ReadFault) (line : ℕ) (kind : RefusalKind) → fault ≡ Refusal line kind → Refuses fault reading → (ts : List Triple) → reading ≢ Ok ts
refused reading fault line kind is h ts e =
    let told : reading ≡ Err (line, kind) = subst (λ (f : ReadFault). Refuses f reading) is h in
    let both : Err (line, kind) ≡ Ok ts = sym told ∙ e in
    cc

-- the bytes of the line of an object
pub object_line_of : (text none first second all : List ℕ) → none ≡ [] → first ≡ none ++ codes "<e:s> <e:p> " → second ≡ first ++ text → all ≡ second ++ codes " .\n" → all ≡ codes "<e:s> <e:p> " ++ text ++ codes " .\n"
object_line_of text none first second all a b c d = d ∙ ap (λ (l : List ℕ). l ++ codes " .\n") (c ∙ ap (λ (l : List ℕ). l ++ text) (b ∙ ap (λ (l : List ℕ). l ++ codes "<e:s> <e:p> ") a))

-- a text that isn't read is that of no triple
pub none_read : (line : List ℕ) → ((ts : List Triple) → reads_named line ≢ Ok ts) → FindsAlone (IsReadable IsStored) written_line line None
none_read line never = record { sound = tt; every = λ t r e. absurd (never (t ∷ []) (reads_one line t r e)) }

-- a line with its LF, or without
pub without_end : (line whole : List ℕ) (found : Option Triple) → whole ≡ line ++ codes "\n" → FindsAlone (IsReadable IsStored) written_line whole found → FindsAlone (IsReadable IsStored) triple_text line found
without_end line whole found is f = record { sound = f.sound; every = λ t r e. f.every t r (is ∙ ap (λ (l : List ℕ). l ++ codes "\n") e) }

-- the triple whose object is a term
abbrev some_subject : Term
some_subject = Iri (codes "e:s")

abbrev some_predicate : Term
some_predicate = Iri (codes "e:p")

abbrev with_object : Term → Triple
with_object t = record { subject = some_subject; predicate = some_predicate; object = t }

subject_text : IsIriText (codes "e:s")
unfolding encode
subject_text = ((codes "e:s", (refl, refl)), ap (list_all is_iri_char) (chars-encodes (codes "e:s") refl), refl)

predicate_text : IsIriText (codes "e:p")
unfolding encode
predicate_text = ((codes "e:p", (refl, refl)), ap (list_all is_iri_char) (chars-encodes (codes "e:p") refl), refl)

object_readable : (t : Term) → IsReadableTerm t → IsReadable IsStored (with_object t)
object_readable t r = record { subject = subject_text; predicate = predicate_text; object = r }

abbrev pub before_object : List ℕ
before_object = codes "<e:s> <e:p> "

object_line : (t : Term) → written_line (with_object t) ≡ before_object ++ term_text t ++ codes " .\n"
object_line t = ap (λ (l : List ℕ). before_object ++ l) (append_assoc (term_text t) (codes " .") (codes "\n"))

abbrev pub IsObjectOf : Option Triple → Option Term → Type 0
IsObjectOf None term = term ≡ None
IsObjectOf (Some t) term = term ≡ Some t.object

-- a term is found as the object of that triple
pub as_object_found : (text line : List ℕ) (triple : Option Triple) (found : Option Term) → line ≡ before_object ++ text ++ codes " .\n" → FindsAlone (IsReadable IsStored) written_line line triple → IsObjectOf triple found
    → FindsAlone IsReadableTerm term_text text found
as_object_found text line None found is f same = record {
  sound = subst (λ (o : Option Term). MatchOption o (Unit {0}) IsReadableTerm) (sym same) tt;
  every = λ t r e. (let k : None ≡ Some (with_object t) = f.every (with_object t) (object_readable t r) (is ∙ ap (λ (l : List ℕ). before_object ++ l ++ codes " .\n") e ∙ sym (object_line t)) in cc);
}
as_object_found text line (Some x) found is f same = record {
  sound = subst (λ (o : Option Term). MatchOption o (Unit {0}) IsReadableTerm) (sym same) f.sound.object;
  every = λ t r e. (let k : Some x ≡ Some (with_object t) = f.every (with_object t) (object_readable t r) (is ∙ ap (λ (l : List ℕ). before_object ++ l ++ codes " .\n") e ∙ sym (object_line t)) in
      let j : x ≡ with_object t = cc in same ∙ ap (λ (y : Triple). Some y.object) j);
}

-- terms with one text are one
pub same_term : (t u : Term) → IsReadableTerm t → IsReadableTerm u → term_text t ≡ term_text u → t ≡ u
same_term t u a b e =
    let line : written_line (with_object t) ≡ written_line (with_object u) = object_line t ∙ ap (λ (l : List ℕ). before_object ++ l ++ codes " .\n") e ∙ sym (object_line u) in
    let both : Ok (with_object t ∷ []) ≡ Ok (with_object u ∷ []) = sym (reads_one (written_line (with_object t)) (with_object t) (object_readable t a) refl) ∙ reads_one (written_line (with_object t)) (with_object u) (object_readable u b) line in
    let same : with_object t ≡ with_object u = cc in
    ap (λ (x : Triple). x.object) same

-- an IRI is found where a term is
abbrev pub IsIriOf : Option Term → Option Term → Type 0
IsIriOf None iri = iri ≡ None
IsIriOf (Some (Iri a)) iri = iri ≡ Some (Iri a)
IsIriOf (Some (Blank s n)) iri = iri ≡ None
IsIriOf (Some (Literal l d t)) iri = iri ≡ None

pub iri_term : (t : Term) → IsReadableIri t → IsReadableTerm t
iri_term (Iri a) r = r
iri_term (Blank s n) r = absurd r
iri_term (Literal l d t) r = absurd r

-- what isn't an IRI
not_iri : (term : Term) → (IsReadableIri term → ⊥) → (t : Term) → IsReadableIri t → Some term ≡ Some t → ⊥
not_iri term never t r e = let same : t ≡ term = cc in never (subst (λ (x : Term). IsReadableIri x) same r)

pub as_iri_found : (text : List ℕ) (term iri : Option Term) → FindsAlone IsReadableTerm term_text text term → IsIriOf term iri → FindsAlone IsReadableIri term_text text iri
as_iri_found text None iri f same = record {
  sound = subst (λ (o : Option Term). MatchOption o (Unit {0}) IsReadableIri) (sym same) tt;
  every = λ t r e. (let k : None ≡ Some t = f.every t (iri_term t r) e in cc);
}
as_iri_found text (Some (Iri a)) iri f same = record {
  sound = subst (λ (o : Option Term). MatchOption o (Unit {0}) IsReadableIri) (sym same) f.sound;
  every = λ t r e. same ∙ f.every t (iri_term t r) e;
}
as_iri_found text (Some (Blank s n)) iri f same = record {
  sound = subst (λ (o : Option Term). MatchOption o (Unit {0}) IsReadableIri) (sym same) tt;
  every = λ t r e. absurd (not_iri (Blank s n) (λ x. x) t r (f.every t (iri_term t r) e));
}
as_iri_found text (Some (Literal l d g)) iri f same = record {
  sound = subst (λ (o : Option Term). MatchOption o (Unit {0}) IsReadableIri) (sym same) tt;
  every = λ t r e. absurd (not_iri (Literal l d g) (λ x. x) t r (f.every t (iri_term t r) e));
}

-- parts of a text that has no such byte
no_byte_right : (b : ℕ) (xs ys : List ℕ) → HasNo b (xs ++ ys) → HasNo b ys
no_byte_right b [] ys h = h
no_byte_right b (x ∷ xs) ys h = no_byte_right b xs ys (λ i lt. h (suc i) (omega (arith, lt)))

no_byte_left : (b : ℕ) (xs ys : List ℕ) → HasNo b (xs ++ ys) → HasNo b xs
no_byte_left b [] ys h i lt = absurd (omega (arith, lt))
no_byte_left b (x ∷ xs) ys h zero lt = h 0 (omega arith)
no_byte_left b (x ∷ xs) ys h (suc i) lt = no_byte_left b xs ys (λ j l. h (suc j) (omega (arith, l))) i (omega (arith, lt))

pub no_byte_both : (b : ℕ) (xs ys : List ℕ) → HasNo b xs → HasNo b ys → HasNo b (xs ++ ys)
no_byte_both b [] ys g h i lt = h i lt
no_byte_both b (x ∷ xs) ys g h zero lt = g 0 (omega arith)
no_byte_both b (x ∷ xs) ys g h (suc i) lt = no_byte_both b xs ys (λ j l. g (suc j) (omega (arith, l))) h i (omega (arith, lt))

pub one_byte : (b c : ℕ) → c ≢ b → HasNo b (c ∷ [])
one_byte b c n zero lt = n
one_byte b c n (suc i) lt = absurd (omega (arith, lt))

-- the text of a term has no LF
pub term_has_no_end : (t : Term) → IsReadableTerm t → HasNo 10 (term_text t)
term_has_no_end t r =
    let whole : HasNo 10 (before_object ++ (term_text t ++ codes " .")) = triple_has_no_end (with_object t) (object_readable t r) in
    no_byte_left 10 (term_text t) (codes " .") (no_byte_right 10 before_object (term_text t ++ codes " .") whole)

-- that of an IRI has no space
no_space_char : (c : ℕ) (rest : List ℕ) (k : ℕ) → is_iri_char c ≡ true → k < length (encode c) → get_or (encode c ++ rest) k 0 ≢ 32
no_space_char c rest k iri lt e =
    let is : c ≡ 32 = inside_one c rest (encode c ++ rest) k refl lt (omega (arith, e)) ∙ e in
    let bad : is_iri_char 32 ≡ true = subst (λ (x : ℕ). is_iri_char x ≡ true) is iri in
    cc

no_space : (cs : List ℕ) → list_all is_iri_char cs ≡ true → HasNo 32 (encodes cs)
no_space [] h k lt = absurd (omega (arith, lt))
no_space (c ∷ cs) h k lt =
    let p = and_parts (is_iri_char c) (list_all is_iri_char cs) h in
    elim (cases_lt k (length (encode c))) [
      | inl less ↦ no_space_char c (encodes cs) k p.0 less
      | inr more ↦ λ e.
          let whole = length-append (encode c) (encodes cs) in
          no_space cs p.1 (k - length (encode c)) (omega (arith, lt, whole, more)) (sym (get_or-append_right (encode c) (encodes cs) (length (encode c)) k 0 refl more) ∙ e)
    ]

pub iri_has_no_space : (t : Term) → IsReadableIri t → HasNo 32 (term_text t)
iri_has_no_space (Iri a) r =
    let inside : HasNo 32 a = subst (λ (bs : List ℕ). HasNo 32 bs) (encodes-chars a r.0) (no_space (chars a) r.1) in
    no_byte_both 32 (60 ∷ []) (a ++ 62 ∷ []) (one_byte 32 60 (λ e. omega (arith, e))) (no_byte_both 32 a (62 ∷ []) inside (one_byte 32 62 (λ e. omega (arith, e))))
iri_has_no_space (Blank s n) r = absurd r
iri_has_no_space (Literal l d t) r = absurd r

pub iri_has_no_end : (t : Term) → IsReadableIri t → HasNo 10 (term_text t)
iri_has_no_end t r = term_has_no_end t (iri_term t r)
