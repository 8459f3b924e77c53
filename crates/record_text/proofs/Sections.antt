-- The lists of a record in its text.
use Rattle.std.proofs.Common.{◌≡◌, ◌≢◌, ◌∙◌, ℕ, zero, suc, ◌+◌, ◌<◌, ◌≤◌, ◌^◌, List, [], ◌∷◌, ◌++◌, Option, Some, None, Result, Ok, Err, codes, length, get_or, map, refl, sym, ap, subst, arith, length-append}
use Rattle.std.specs.Prelude.{MatchOption, nat_eq, take, false}
use lib.Pointwise.{pointwise}
use Rattle.std.proofs.lemmas.Bool.Decides.{Decides-eqb}
use Rattle.std.proofs.lemmas.Slice.Eq.{strip_prefix_is}
use Rattle.std.specs.Borrow.{Bor}
use Rattle.std.specs.Option.{option_copied, option_map}
use Rattle.std.specs.List.{AllByRecursion, flat_map}
use Rattle.std.specs.Fmt.{decimal}
use Rattle.std.proofs.lemmas.Fmt.{decimal_is_IsNumeral}
use Rattle.std.proofs.lemmas.Str.Parse.{digit_at}
use Rattle.std.proofs.lemmas.List.{append_cancel_left}
use Rattle.rdf_model.specs.declared.triple.Triple.{Triple}
use Rattle.rdf_model.specs.NTriples.{triple_text}
use Rattle.ntriples_text.specs.Document.{reads_named}
use Rattle.ntriples_text.specs.Laws.{IsReadable, IsStored}
use Rattle.ntriples_text.specs.Writing.{written, written_line}
use Rattle.rdf_lexical.specs.declared.refusal.RefusalKind.{RefusalKind}
use Rattle.rdf_lexical.specs.declared.refusal.ReadFault.{ReadFault}
use Rattle.rdf_lexical.specs.declared.refusal.ReadFault.TheVariants.{Refusal}
use Rattle.rdf_lexical.specs.Refusals.{Refuses}
use Rattle.ntriples_text.proofs.RoundTrip.{reads_named_again}
use Rattle.record_text.specs.declared.record.Record.{Record}
use Rattle.record_text.specs.Lines.{HasNoEnd, ended, HasNoMark, IsUnmarked}
use Rattle.record_text.specs.Records.{marked_line, count_line, shapes_text, lists_text, record_text, number_line, IsReadableGraph, HasReadableShapes, IsReadableRecord, TextsAreApart}
use Rattle.record_text.specs.declared.reading.TextFault.TheVariants.{NoRecord}
use Rattle.record_text.specs.Sections.{AreSections, IsOnlyOne, IsNothing, IsNumbered}
use Rattle.record_text.proofs.StoredTerms.{gives_readable_graph}
use Rattle.record_text.proofs.OneSplit.{same_first, same_lines}
use Rattle.record_text.proofs.TripleLines.{no_ends, marked_lines, ended_lines}

-- graphs with one text are one
pub same_graph : (ts us : List Triple) → IsReadableGraph ts → IsReadableGraph us → written ts ≡ written us → ts ≡ us
same_graph ts us a b e =
    let same : Ok ts ≡ Ok us = sym (reads_named_again ts a.0 a.1) ∙ ap reads_named e ∙ reads_named_again us b.0 b.1 in
    cc

-- a text that is read as a graph, and one that is refused
pub only_graph : (text : List ℕ) (ts : List Triple) → reads_named text ≡ Ok ts → IsOnlyOne IsReadableGraph written text ts
only_graph text ts h = record {
  is = gives_readable_graph text ts h;
  only = λ other good e. (let same : Ok ts ≡ Ok other = sym h ∙ ap reads_named e ∙ reads_named_again other good.0 good.1 in cc);
}

pub no_graph : (text : List ℕ) (fault : ReadFault) (line : ℕ) (kind : RefusalKind) → fault ≡ Refusal line kind → Refuses fault (reads_named text) → (other : List Triple) → IsReadableGraph other → text ≢ written other
no_graph text fault line kind is h other good e =
    let reading : reads_named text ≡ Err (line, kind) = subst (λ (f : ReadFault). Refuses f (reads_named text)) is h in
    let moved : reads_named text ≡ reads_named (written other) = ap reads_named e in
    let again : reads_named (written other) ≡ Ok other = reads_named_again other good.0 good.1 in
    apart (reads_named text) (line, kind) other reading (moved ∙ again)
  where
    apart : (r : Result (List Triple) (ℕ × RefusalKind)) (f : ℕ × RefusalKind) (ts : List Triple) → r ≡ Err f → r ≡ Ok ts → ⊥
    apart r f ts a b = cc

pub same_shapes : (a b : Option (List Triple)) → HasReadableShapes a → HasReadableShapes b → option_map written a ≡ option_map written b → a ≡ b
same_shapes None None p q e = refl
same_shapes None (Some us) p q e = cc
same_shapes (Some ts) None p q e = cc
same_shapes (Some ts) (Some us) p q e = let same : written ts ≡ written us = cc in ap (λ x. Some x) (same_graph ts us p q same)

-- a text that begins otherwise than the mark
no_mark : (c : ℕ) (mark text : List ℕ) → get_or text 0 0 ≢ c → HasNoMark (c ∷ mark) text
no_mark c mark text ne line rest n e = ne (ap (λ (l : List ℕ). get_or l 0 0) e)

pub before_shapes : (c : ℕ) (mark : List ℕ) (shapes : Option (List Triple)) → c ≢ 0 → c ≢ 115 → HasNoMark (c ∷ mark) (shapes_text shapes)
before_shapes c mark None z s = no_mark c mark [] (λ e. z (sym e))
before_shapes c mark (Some ts) z s = no_mark c mark (shapes_text (Some ts)) (λ e. s (sym e))

pub before_added : (ts : List Triple) (shapes : Option (List Triple)) → HasNoMark (codes "- ") (flat_map (marked_line (codes "+ ")) ts ++ shapes_text shapes)
before_added [] shapes = before_shapes 45 (32 ∷ []) shapes (λ e. omega (arith, e)) (λ e. omega (arith, e))
before_added (t ∷ ts) shapes = no_mark 45 (32 ∷ []) (flat_map (marked_line (codes "+ ")) (t ∷ ts) ++ shapes_text shapes) (λ e. let bad : 43 ≡ 45 = e in omega (arith, bad))

-- the lines of triples without their marks, and what follows them
pub unmarked_graph : (mark : List ℕ) (ts : List Triple) (more text lines rest : List ℕ) → AllByRecursion (IsReadable IsStored) ts → HasNoMark mark more → text ≡ flat_map (marked_line mark) ts ++ more
    → IsUnmarked mark text lines rest → (lines ≡ written ts) × (rest ≡ more)
unmarked_graph mark ts more text lines rest r free e u =
    let same = same_lines mark u.each (map triple_text ts) rest more u.lines_of (no_ends ts r) u.no_more free (sym u.text_is ∙ e ∙ ap (λ (l : List ℕ). l ++ more) (marked_lines mark ts)) in
    (u.lines_are ∙ ap (flat_map ended) same.0 ∙ sym (ended_lines ts), same.1)

-- the line before the shapes graph
no_end_both : (a b : List ℕ) → AllByRecursion (λ c. c ≢ 10) a → HasNoEnd b → HasNoEnd (a ++ b)
no_end_both [] b n m i lt e = m i lt e
no_end_both (c ∷ a) b n m zero lt e = n.0 e
no_end_both (c ∷ a) b n m (suc i) lt e = no_end_both a b n.1 m i (omega (arith, lt)) e

word_has_no_end : AllByRecursion (λ c. c ≢ 10) (codes "shapes ")
word_has_no_end = (λ e. omega (arith, e), (λ e. omega (arith, e), (λ e. omega (arith, e), (λ e. omega (arith, e), (λ e. omega (arith, e), (λ e. omega (arith, e), (λ e. omega (arith, e), tt)))))))

no_end_count : (n : ℕ) → n < 2 ^ 64 → HasNoEnd (decimal n)
no_end_count n small i lt e = let range = digit_at (decimal n) i ((decimal_is_IsNumeral n small).0.1) lt in omega (arith, range.0, range.1, e)

pub fewer_triples : (ts : List Triple) → length ts ≤ length (written ts)
fewer_triples [] = omega arith
fewer_triples (t ∷ ts) = omega (arith, fewer_triples ts, length-append (written_line t) (written ts), length-append (triple_text t) (10 ∷ []))

-- the line of the count, as a line
count_is_ended : (word count : List ℕ) → word ++ count ++ 10 ∷ [] ≡ ended (word ++ count)
count_is_ended word count = refl

behind_small : (line rest text : List ℕ) → text ≡ line ++ rest → length text < 2 ^ 64 → length rest < 2 ^ 64
behind_small line rest text e small = omega (arith, ap length e, small, length-append line rest)

written_small : (ts : List Triple) (text : List ℕ) → text ≡ shapes_text (Some ts) → length text < 2 ^ 64 → length (written ts) < 2 ^ 64
written_small ts text e small = behind_small (count_line (length ts)) (written ts) text e small

pub shapes_line : (ts : List Triple) → length (written ts) < 2 ^ 64 → HasNoEnd (codes "shapes " ++ decimal (length ts)) × (shapes_text (Some ts) ≡ ended (codes "shapes " ++ decimal (length ts)) ++ written ts)
shapes_line ts small = (
  no_end_both (codes "shapes ") (decimal (length ts)) word_has_no_end (no_end_count (length ts) (omega (arith, fewer_triples ts, small))),
  ap (λ (l : List ℕ). l ++ written ts) (count_is_ended (codes "shapes ") (decimal (length ts))),
)

abbrev pub IsBehind : List ℕ → Option (Bor (List ℕ)) → Type 0
IsBehind text r = MatchOption r ((line rest : List ℕ) → HasNoEnd line → text ≢ ended line ++ rest) (λ x. (line : List ℕ) × HasNoEnd line × (text ≡ ended line ++ x.now))

pub behind_shapes : (shapes : Option (List Triple)) (text : List ℕ) (r : Option (Bor (List ℕ))) → text ≡ shapes_text shapes → length text < 2 ^ 64 → IsBehind text r → option_copied r ≡ option_map written shapes
behind_shapes None text None e small b = refl
behind_shapes None text (Some x) e small (line, n, is) = absurd (let size = ap length (sym is ∙ e) in omega (arith, size, length-append (ended line) x.now, length-append line (10 ∷ [])))
behind_shapes (Some ts) text None e small b =
    let line = shapes_line ts (written_small ts text e small) in
    absurd (b (codes "shapes " ++ decimal (length ts)) (written ts) line.0 (e ∙ line.1))
behind_shapes (Some ts) text (Some x) e small (line, n, is) =
    let first = shapes_line ts (written_small ts text e small) in
    ap (λ y. Some y) ((same_first line (codes "shapes " ++ decimal (length ts)) x.now (written ts) n first.0 (sym is ∙ e ∙ first.1)).1)

-- the texts of the lists of a record are those found in its text
pub lists_split : (r : Record) (text removed rest added tail : List ℕ) (shapes : Option (Bor (List ℕ))) → IsReadableRecord r → text ≡ lists_text r → length text < 2 ^ 64 → length tail ≤ length text
    → IsUnmarked (codes "- ") text removed rest → IsUnmarked (codes "+ ") rest added tail → IsBehind tail shapes → AreSections r removed added (option_copied shapes)
lists_split r text removed rest added tail shapes good e small fits first second last =
    let more = flat_map (marked_line (codes "+ ")) r.added ++ shapes_text r.shapes in
    let a = unmarked_graph (codes "- ") r.removed more text removed rest good.removed.0 (before_added r.added r.shapes) e first in
    let b = unmarked_graph (codes "+ ") r.added (shapes_text r.shapes) rest added tail good.added.0 (before_shapes 43 (32 ∷ []) r.shapes (λ x. omega (arith, x)) (λ x. omega (arith, x))) a.1 second in
    record { removed_is = a.0; added_is = b.0; shapes_is = behind_shapes r.shapes tail shapes b.1 (omega (arith, fits, small)) last }

-- lists with one text are one
pub same_lists : (r s : Record) → IsReadableRecord r → IsReadableRecord s → r.number ≡ s.number → written r.removed ≡ written s.removed → written r.added ≡ written s.added
    → option_map written r.shapes ≡ option_map written s.shapes → r ≡ s
same_lists r s a b n x y z =
    let removed = same_graph r.removed s.removed a.removed b.removed x in
    let added = same_graph r.added s.added a.added b.added y in
    let shapes = same_shapes r.shapes s.shapes a.shapes b.shapes z in
    λ i. record { number = n i; removed = removed i; added = added i; shapes = shapes i }

-- the lines of triples, unmarked
is_unmarked : (mark : List ℕ) (ts : List Triple) (more : List ℕ) → AllByRecursion (IsReadable IsStored) ts → HasNoMark mark more → IsUnmarked mark (flat_map (marked_line mark) ts ++ more) (written ts) more
is_unmarked mark ts more r free = record {
  each = map triple_text ts;
  lines_of = no_ends ts r;
  text_is = ap (λ (l : List ℕ). l ++ more) (marked_lines mark ts);
  lines_are = ended_lines ts;
  no_more = free;
}

shapes_apart : (a b : Option (List Triple)) → length (shapes_text a) < 2 ^ 64 → shapes_text a ≡ shapes_text b → option_map written a ≡ option_map written b
shapes_apart None None small e = refl
shapes_apart None (Some us) small e = cc
shapes_apart (Some ts) None small e = cc
shapes_apart (Some ts) (Some us) small e =
    let first = shapes_line ts (written_small ts (shapes_text (Some ts)) refl small) in
    let second = shapes_line us (written_small us (shapes_text (Some ts)) e small) in
    ap (λ x. Some x) ((same_first (codes "shapes " ++ decimal (length ts)) (codes "shapes " ++ decimal (length us)) (written ts) (written us) first.0 second.0 (sym first.1 ∙ e ∙ second.1)).1)

pub texts_apart : TextsAreApart
texts_apart r s a b n small e =
    let lists : lists_text r ≡ lists_text s = append_cancel_left (number_line r.number) _ _ (e ∙ ap (λ k. number_line k ++ lists_text s) (sym n)) in
    let more = flat_map (marked_line (codes "+ ")) s.added ++ shapes_text s.shapes in
    let removed = unmarked_graph (codes "- ") r.removed _ (lists_text s) (written s.removed) more a.removed.0 (before_added r.added r.shapes) (sym lists)
    (is_unmarked (codes "- ") s.removed more b.removed.0 (before_added s.added s.shapes)) in
    let added = unmarked_graph (codes "+ ") r.added (shapes_text r.shapes) more (written s.added) (shapes_text s.shapes) a.added.0 (before_shapes 43 (32 ∷ []) r.shapes (λ x. omega (arith, x)) (λ x. omega (arith, x))) removed.1
    (is_unmarked (codes "+ ") s.added (shapes_text s.shapes) b.added.0 (before_shapes 43 (32 ∷ []) s.shapes (λ x. omega (arith, x)) (λ x. omega (arith, x)))) in
    let size : length (shapes_text r.shapes) ≤ length (record_text r) =
    omega (arith, length-append (number_line r.number) (lists_text r), length-append (flat_map (marked_line (codes "- ")) r.removed) (flat_map (marked_line (codes "+ ")) r.added ++ shapes_text r.shapes), length-append (flat_map (marked_line (codes "+ ")) r.added) (shapes_text r.shapes)) in
    same_lists r s a b n (sym removed.0) (sym added.0) (shapes_apart r.shapes s.shapes (omega (arith, size, small)) (sym added.1))

-- a text without the line of the number, and one whose lists are those of another record
pub no_number : (number : ℕ) (text line : List ℕ) → line ≡ number_line number → pointwise nat_eq (take (length line) text) line ≡ false → (r : Record) → r.number ≡ number → text ≢ record_text r
no_number number text line is h r n e =
    strip_prefix_is Decides-eqb text line None h (lists_text r) (e ∙ ap (λ (k : ℕ). number_line k ++ lists_text r) n ∙ ap (λ (l : List ℕ). l ++ lists_text r) (sym is))

pub other_text : (number : ℕ) (text line lists : List ℕ) (found : Record) → line ≡ number_line number → text ≡ line ++ lists → IsOnlyOne (IsNumbered number) lists_text lists found
    → text ≢ record_text found → (r : Record) → r.number ≡ number → IsReadableRecord r → text ≢ record_text r
other_text number text line lists found is whole one ne r n good e =
    let same : lists ≡ lists_text r = append_cancel_left line _ _ (sym whole ∙ e ∙ ap (λ (k : ℕ). number_line k ++ lists_text r) n ∙ ap (λ (l : List ℕ). l ++ lists_text r) (sym is)) in
    ne (e ∙ ap record_text (sym (one.only r (n, good) same)))

-- the same where no record has the lists
pub no_lists : (number : ℕ) (text line lists : List ℕ) → line ≡ number_line number → text ≡ line ++ lists → IsNothing (IsNumbered number) lists_text lists NoRecord → (r : Record) → r.number ≡ number → IsReadableRecord r → text ≢ record_text r
no_lists number text line lists is whole none r n good e =
    none r (n, good) (append_cancel_left line _ _ (sym whole ∙ e ∙ ap (λ (k : ℕ). number_line k ++ lists_text r) n ∙ ap (λ (l : List ℕ). l ++ lists_text r) (sym is)))
