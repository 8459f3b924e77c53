-- A text has no more triples than bytes.
use Rattle.std.proofs.Common.{◌≡◌, ℕ, suc, ◌+◌, ◌≤◌, true, false, cond, List, [], ◌∷◌, length, map, Option, Some, None, Result, Ok, Err, refl, ap, subst, arith}
use Rattle.std.specs.Prelude.{IfOk}
use Rattle.std.specs.List.{onto_first}
use Rattle.std.specs.Str.{chars, is_utf8}
use Rattle.std.specs.Str.Lossy.{utf8_valid_len}
use Rattle.std.specs.declared.cmp.Ordering.TheVariants.{Less, Equal, Greater}
use Rattle.std.specs.Ordering.{match_ordering}
use Rattle.std.proofs.lemmas.Str.{IsUtf8-from_is_utf8}
use Rattle.rdf_model.specs.declared.triple.Triple.{Triple}
use Rattle.rdf_model.specs.Graphs.{with_each}
use Rattle.rdf_model.specs.Terms.{triple_cmp}
use Rattle.collections.specs.Ordered.{with_item}
use Rattle.rdf_lexical.specs.declared.refusal.RefusalKind.{RefusalKind}
use Rattle.rdf_lexical.specs.declared.refusal.RefusalKind.TheVariants.{NotUtf8}
use Rattle.ntriples_text.specs.declared.statement.LabelKind.TheVariants.{OfText}
use Rattle.ntriples_text.specs.declared.statement.Statement.{Statement}
use Rattle.rdf_lexical.specs.Characters.{is_line_end}
use Rattle.ntriples_text.specs.Grammar.{line}
use Rattle.ntriples_text.specs.Blanks.{all_labels, once, triple_of}
use Rattle.ntriples_text.specs.Document.{line_of, lines, lines_from, number_after, numbered, reads, with_line, with_statement}
use Rattle.ntriples_text.proofs.Characters.{fewer_chars}

-- a triple more
one_more : (t : Triple) (ts : List Triple) → length (with_item triple_cmp t ts) ≤ suc (length ts)
one_more t [] = omega arith
one_more t (u ∷ us) = elim (triple_cmp t u) as (λ o. length (match_ordering o (t ∷ u ∷ us) (u ∷ us) (u ∷ with_item triple_cmp t us)) ≤ suc (suc (length us))) [
  | Less ↦ omega arith
  | Equal ↦ omega arith
  | Greater ↦ omega (arith, one_more t us)
]

with_each_length : (g ts : List Triple) → length (with_each g ts) ≤ length g + length ts
with_each_length g [] = omega arith
with_each_length g (t ∷ ts) = omega (arith, with_each_length (with_item triple_cmp t g) ts, one_more t g)

-- no more lines than characters
onto_length : (c : ℕ) (ls : List (List ℕ)) → length (onto_first c ls) ≤ suc (length ls)
onto_length c [] = omega arith
onto_length c (l ∷ ls) = omega arith

lines_length : (cs : List ℕ) → length (lines cs) ≤ length cs
lines_length [] = omega arith
lines_length (c ∷ cs) = elim (is_line_end c) as (λ b. length (cond b ((c ∷ []) ∷ lines cs) (onto_first c (lines cs))) ≤ suc (length cs)) [
  | true ↦ omega (arith, lines_length cs)
  | false ↦ omega (arith, lines_length cs, onto_length c (lines cs))
]

-- no more statements than lines
abbrev IsWithin : ℕ → Result (List Statement) (ℕ × RefusalKind) → Type 0
IsWithin n r = IfOk r (λ ss. length ss ≤ n)

statement_within : (n : ℕ) (s : Statement) (r : Result (List Statement) (ℕ × RefusalKind)) → IsWithin n r → IsWithin (suc n) (with_statement s r)
statement_within n s (Ok ss) h = omega (arith, h)
statement_within n s (Err fault) h = tt

more_within : (n : ℕ) (r : Result (List Statement) (ℕ × RefusalKind)) → IsWithin n r → IsWithin (suc n) r
more_within n (Ok ss) h = omega (arith, h)
more_within n (Err fault) h = tt

line_within : (n k : ℕ) (l : Result (Option Statement) RefusalKind) (r : Result (List Statement) (ℕ × RefusalKind)) → IsWithin n r → IsWithin (suc n) (with_line k l r)
line_within n k (Err kind) r h = tt
line_within n k (Ok None) r h = more_within n r h
line_within n k (Ok (Some s)) r h = statement_within n s r h

lines_within : (k : ℕ) (ls : List (List ℕ)) → IsWithin (length ls) (lines_from OfText k ls)
lines_within k [] = omega arith
lines_within k (l ∷ ls) = line_within (length ls) k (line OfText l) (lines_from OfText (number_after k l) ls) (lines_within (number_after k l) ls)

map_length : (session first : ℕ) (labels : List (List ℕ)) (ss : List Statement) → length (map (triple_of session first labels) ss) ≡ length ss
map_length session first labels [] = refl
map_length session first labels (s ∷ ss) = ap suc (map_length session first labels ss)

-- no more triples than statements
numbered_within : (n session first : ℕ) (r : Result (List Statement) (ℕ × RefusalKind)) → IsWithin n r → IfOk (numbered session first r) (λ p. length p.0 ≤ n)
numbered_within n session first (Err fault) h = tt
numbered_within n session first (Ok ss) h =
    let labels = once (all_labels ss) in
    let triples = map (triple_of session first labels) ss in
    omega (arith, h, with_each_length [] triples, map_length session first labels ss)

more_triples : (n m : ℕ) (r : Result (List Triple × ℕ) (ℕ × RefusalKind)) → n ≤ m → IfOk r (λ p. length p.0 ≤ n) → IfOk r (λ p. length p.0 ≤ m)
more_triples n m (Ok p) le h = omega (arith, le, h)
more_triples n m (Err fault) le h = tt

text_within : (text : List ℕ) (session first : ℕ) → is_utf8 text ≡ true → IfOk (numbered session first (lines_from OfText 1 (lines (chars text)))) (λ p. length p.0 ≤ length text)
text_within text session first u =
    let count : length (chars text) ≤ length text = (fewer_chars text (chars text) (IsUtf8-from_is_utf8 text u) refl).1 in
    let le : length (lines (chars text)) ≤ length text = omega (arith, count, lines_length (chars text)) in
    let reading = lines_from OfText 1 (lines (chars text)) in
    more_triples (length (lines (chars text))) (length text) (numbered session first reading) le
    (numbered_within (length (lines (chars text))) session first reading (lines_within 1 (lines (chars text))))

reads_within : (text : List ℕ) (session first : ℕ) → IfOk (reads text session first) (λ p. length p.0 ≤ length text)
reads_within text session first =
    let reading = numbered session first (lines_from OfText 1 (lines (chars text))) in
    let refusal : Result (List Triple × ℕ) (ℕ × RefusalKind) = Err (line_of text (utf8_valid_len text), NotUtf8) in
    elim (is_utf8 text) as (λ b. is_utf8 text ≡ b → IfOk (cond b reading refusal) (λ p. length p.0 ≤ length text)) [
      | true ↦ λ u. text_within text session first u
      | false ↦ λ u. tt
    ] refl

pub few_triples : (text : List ℕ) (session first next : ℕ) (ts : List Triple) → reads text session first ≡ Ok (ts, next) → length ts ≤ length text
few_triples text session first next ts e = subst (λ (r : Result (List Triple × ℕ) (ℕ × RefusalKind)). IfOk r (λ p. length p.0 ≤ length text)) e (reads_within text session first)
