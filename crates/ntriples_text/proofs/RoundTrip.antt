-- Reading what was written.
use Rattle.std.proofs.Common.{◌≡◌, ◌∙◌, ℕ, ◌+◌, List, [], ◌∷◌, map, Ok, refl, sym, ap, arith}
use Rattle.std.specs.List.{AllByRecursion}
use Rattle.std.specs.Str.{chars, IsUtf8}
use Rattle.std.proofs.lemmas.Str.{chars-encodes}
use Rattle.rdf_model.specs.declared.term.Term.{Term}
use Rattle.rdf_model.specs.declared.term.Term.TheVariants.{Blank, Iri, Literal}
use Rattle.rdf_model.specs.declared.triple.Triple.{Triple}
use Rattle.rdf_model.specs.Terms.{triple_cmp}
use Rattle.rdf_model.specs.Graphs.{with_each}
use Rattle.collections.specs.Ordered.{IsAscending}
use Rattle.ntriples_text.specs.declared.statement.LabelKind.{LabelKind}
use Rattle.ntriples_text.specs.declared.statement.LabelKind.TheVariants.{OfText, OfStore}
use Rattle.ntriples_text.specs.declared.statement.Statement.{Statement}
use Rattle.ntriples_text.specs.Blanks.{all_labels, once, triple_of}
use Rattle.ntriples_text.specs.Document.{lines, lines_from, number_after, with_line, with_statement, with_labels, numbered, reads_by, triples_of}
use Rattle.ntriples_text.specs.Writing.{written}
use Rattle.ntriples_text.specs.Laws.{IsReadableSubject, IsReadableIri, IsReadableObject, IsReadable, ReadsAgain, ReadsNamedAgain}
use Rattle.ntriples_text.proofs.Characters.{of_text}
use Rattle.ntriples_text.proofs.Sorting.{ascending_each}
use Rattle.ntriples_text.proofs.Written.{all_chars, parts_chars, as_object, encodes-all, scalars-all}
use Rattle.ntriples_text.proofs.StoreNodes.{IsNodeOf}
use Rattle.ntriples_text.proofs.ReadAgain.{plain_statement, read_parts, parts_on}

-- the statement of a triple whose nodes have no labels of the text
abbrev iri_text : Term → List ℕ
iri_text (Iri a) = a
iri_text (Blank s n) = []
iri_text (Literal l d t) = []

abbrev as_statement : Triple → Statement
as_statement t = plain_statement t.subject (iri_text t.predicate) t.object

is_iri : (t : Term) → IsReadableIri t → t ≡ Iri (iri_text t)
is_iri (Iri a) r = refl
is_iri (Blank s n) r = absurd r
is_iri (Literal l d t) r = absurd r

line_first : (labels : LabelKind) (s p o : Term) (rest : List ℕ) (n : ℕ) → IsReadableSubject (IsNodeOf labels) s → IsReadableIri p → IsReadableObject (IsNodeOf labels) o
    → lines_from labels n (lines (parts_chars s p o rest)) ≡ with_statement (plain_statement s (iri_text p) o) (lines_from labels (number_after n (parts_chars s p o [])) (lines rest))
line_first labels s (Iri b) o rest n hs hp ho =
    let first = parts_chars s (Iri b) o [] in
    ap (lines_from labels n) (parts_on labels s b o rest (as_object (IsNodeOf labels) s hs) hp ho)
    ∙ ap (λ l. with_line n l (lines_from labels (number_after n first) (lines rest))) (read_parts labels s b o hs hp ho)
line_first labels s (Blank t k) o rest n hs hp ho = absurd hp
line_first labels s (Literal l d t) o rest n hs hp ho = absurd hp

all_read : (labels : LabelKind) (ts : List Triple) (n : ℕ) → AllByRecursion (IsReadable (IsNodeOf labels)) ts → lines_from labels n (lines (all_chars ts)) ≡ Ok (map as_statement ts)
all_read labels [] n r = refl
all_read labels (t ∷ ts) n r =
    line_first labels t.subject t.predicate t.object (all_chars ts) n r.0.subject r.0.predicate r.0.object
    ∙ ap (with_statement (as_statement t)) (all_read labels ts (number_after n (parts_chars t.subject t.predicate t.object [])) r.1)

no_labels : (ts : List Triple) → all_labels (map as_statement ts) ≡ []
no_labels [] = refl
no_labels (t ∷ ts) = no_labels ts

same_triples : (labels : LabelKind) (session first : ℕ) (ts : List Triple) → AllByRecursion (IsReadable (IsNodeOf labels)) ts → map (triple_of session first []) (map as_statement ts) ≡ ts
same_triples labels session first [] r = refl
same_triples labels session first (t ∷ ts) r =
    let one : triple_of session first [] (as_statement t) ≡ t = λ i. record { subject = t.subject; predicate = sym (is_iri t.predicate r.0.predicate) i; object = t.object } in
    ap (λ x. x ∷ map (triple_of session first []) (map as_statement ts)) one ∙ ap (λ xs. t ∷ xs) (same_triples labels session first ts r.1)

paired : (labels : LabelKind) (session first : ℕ) (ts : List Triple) → AllByRecursion (IsReadable (IsNodeOf labels)) ts → IsAscending triple_cmp ts → with_labels session first [] (map as_statement ts) ≡ (ts, first)
paired labels session first ts r a =
    let each : with_each [] (map (triple_of session first []) (map as_statement ts)) ≡ ts = ap (with_each []) (same_triples labels session first ts r) ∙ ascending_each ts a in
    let last : first + 0 ≡ first = omega arith in
    ap (λ us. (us, first + 0)) each ∙ ap (λ n. (ts, n)) last

read_by_labels : (labels : LabelKind) (ts : List Triple) (session first : ℕ) → AllByRecursion (IsReadable (IsNodeOf labels)) ts → IsAscending triple_cmp ts → reads_by labels (written ts) session first ≡ Ok (ts, first)
read_by_labels labels ts session first r a =
    let bytes = encodes-all labels ts r in
    let utf8 : IsUtf8 (written ts) = (all_chars ts, (scalars-all labels ts r, bytes)) in
    let same : chars (written ts) ≡ all_chars ts = ap chars (sym bytes) ∙ chars-encodes (all_chars ts) (scalars-all labels ts r) in
    let statements = map as_statement ts in
    of_text labels (written ts) session first utf8
    ∙ (ap (λ cs. numbered session first (lines_from labels 1 (lines cs))) same
    ∙ (ap (numbered session first) (all_read labels ts 1 r)
    ∙ (ap (λ (ls : List (List ℕ)). Ok (with_labels session first (once ls) statements)) (no_labels ts)
    ∙ ap Ok (paired labels session first ts r a))))

pub reads_again : ReadsAgain
reads_again = read_by_labels OfText

pub reads_named_again : ReadsNamedAgain
reads_named_again ts r a = ap triples_of (read_by_labels OfStore ts 1 1 r a)
