-- What a text gives ascends and can be written and read again.
use Rattle.std.proofs.Common.{◌≡◌, ℕ, ◌≤◌, true, false, cond, List, [], ◌∷◌, Ok, Err, Result, refl, subst, arith}
use Rattle.std.specs.Prelude.{IfOk}
use Rattle.std.specs.List.{AllByRecursion}
use Rattle.std.specs.Str.{chars, is_utf8}
use Rattle.std.specs.Str.Lossy.{utf8_valid_len}
use Rattle.std.proofs.lemmas.Str.{scalars-chars, IsUtf8-from_is_utf8}
use lib.Utf8.{scalars}
use Rattle.std.specs.Ordering.{match_ordering}
use Rattle.std.specs.declared.cmp.Ordering.TheVariants.{Less, Equal, Greater}
use Rattle.collections.specs.Ordered.{IsAscending, with_item}
use Rattle.rdf_model.specs.declared.triple.Triple.{Triple}
use Rattle.rdf_model.specs.Terms.{triple_cmp}
use Rattle.rdf_model.specs.Graphs.{with_each}
use Rattle.rdf_lexical.specs.declared.refusal.RefusalKind.TheVariants.{NotUtf8}
use Rattle.turtle_reader.specs.Parsers.{Outcome, Refusal}
use Rattle.turtle_reader.specs.Grammar.{turtle_doc}
use Rattle.turtle_reader.specs.Document.{opening, found_by, graph_of, text_read, line_of, reads}
use Rattle.ntriples_text.specs.Laws.{IsReadable, IsWithin}
use Rattle.turtle_reader.specs.Laws.{GivesReadable}
use Rattle.turtle_reader.proofs.Nodes.{Reached, next_lexed, sound_doc}
use Rattle.turtle_reader.proofs.Sorting.{each_ascends}

item_stands : (P : Triple → Type 0) (t : Triple) (ts : List Triple) → P t → AllByRecursion P ts → AllByRecursion P (with_item triple_cmp t ts)
item_stands P t [] r a = (r, tt)
item_stands P t (u ∷ ts) r a = elim (triple_cmp t u) as (λ o. AllByRecursion P (match_ordering o (t ∷ u ∷ ts) (u ∷ ts) (u ∷ with_item triple_cmp t ts))) [
  | Less ↦ (r, a)
  | Equal ↦ a
  | Greater ↦ (a.0, item_stands P t ts r a.1)
]

each_stands : (P : Triple → Type 0) (ts g : List Triple) → AllByRecursion P ts → AllByRecursion P g → AllByRecursion P (with_each g ts)
each_stands P [] g r a = a
each_stands P (t ∷ ts) g r a = each_stands P ts (with_item triple_cmp t g) r.1 (item_stands P t g r.0 a)

abbrev Any : Unit {0} → ℕ → Type 0
Any x n = Unit {0}

-- of what was found
abbrev IsGraph : ℕ → ℕ → List Triple × ℕ → Type 0
IsGraph session first g = (first ≤ g.1) × AllByRecursion (IsReadable (IsWithin session first g.1)) g.0 × IsAscending triple_cmp g.0

graph_within : (session first : ℕ) (text : List ℕ) (are : scalars text ≡ true) (low : ℕ) (o : Outcome (Unit {0})) → IfOk o (Reached session first text are low Any) → IfOk (graph_of (found_by o)) (IsGraph session first)
graph_within session first text are low (Ok r) h = (h.fine.first-is, each_stands (IsReadable (IsWithin session first r.1.next)) r.1.triples [] h.fine.triples-are tt, each_ascends r.1.triples [] tt)
graph_within session first text are low (Err e) h = tt

text_within : (text : List ℕ) (session first : ℕ) → scalars text ≡ true → IfOk (text_read text session first) (IsGraph session first)
text_within text session first are = graph_within session first text are first (turtle_doc text 255 (opening text session first))
    (sound_doc session first text are 255 (opening text session first)
    (record { ahead-is = next_lexed session first text are 0 false; prefixes-are = tt; base-is = tt; session-is = refl; first-is = omega arith; labels-are = tt; triples-are = tt }) (omega arith))

reads_within : (bytes : List ℕ) (session first : ℕ) → IfOk (reads bytes session first) (IsGraph session first)
reads_within bytes session first = elim (is_utf8 bytes) as (λ b. is_utf8 bytes ≡ b → IfOk (cond b (text_read (chars bytes) session first) (Err (line_of bytes (utf8_valid_len bytes), NotUtf8))) (IsGraph session first)) [
  | true ↦ λ e. text_within (chars bytes) session first (scalars-chars bytes (IsUtf8-from_is_utf8 bytes e))
  | false ↦ λ e. tt
] refl

pub gives_readable : GivesReadable
gives_readable bytes session first next triples h = subst (λ (o : Result (List Triple × ℕ) Refusal). IfOk o (IsGraph session first)) h (reads_within bytes session first)
