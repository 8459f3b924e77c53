-- The text of a record, and which texts are records.
use Rattle.std.specs.Prelude.{◌≡◌, ◌≢◌, ℕ, ◌<◌, ◌^◌, List, [], ◌++◌, codes, length, Option, Some, None}
use Rattle.std.specs.List.{AllByRecursion, flat_map}
use Rattle.std.specs.Fmt.{decimal}
use Rattle.collections.specs.Ordered.{IsAscending}
use Rattle.rdf_model.specs.declared.triple.Triple.{Triple}
use Rattle.rdf_model.specs.Terms.{triple_cmp}
use Rattle.ntriples_text.specs.Laws.{IsReadable, IsStored}
use Rattle.ntriples_text.specs.Writing.{written, written_line}
use Rattle.record_text.specs.declared.record.Record.{Record}
use Rattle.record_text.specs.declared.reading.TextFault.{TextFault}
use Rattle.record_text.specs.declared.reading.TextFault.TheVariants.{NoRecord, Memory}

-- the line of a triple behind a mark
abbrev pub marked_line : List ℕ → Triple → List ℕ
marked_line mark t = mark ++ written_line t

-- the line of how many triples the shapes graph has
abbrev pub count_line : ℕ → List ℕ
count_line count = codes "shapes " ++ decimal count ++ codes "\n"

-- the shapes graph, if one was staged: how many triples it has, and their lines
abbrev pub shapes_text : Option (List Triple) → List ℕ
shapes_text None = []
shapes_text (Some triples) = count_line (length triples) ++ written triples

-- the lists of a record: the removed triples behind `- `, the added ones behind `+ `, and the shapes graph
abbrev pub lists_text : Record → List ℕ
lists_text r = flat_map (marked_line (codes "- ")) r.removed ++ (flat_map (marked_line (codes "+ ")) r.added ++ shapes_text r.shapes)

-- the line of the number
abbrev pub number_line : ℕ → List ℕ
number_line number = codes "commit " ++ decimal number ++ codes "\n"

-- the number, and the lists
abbrev pub record_text : Record → List ℕ
record_text r = number_line r.number ++ lists_text r

-- triples that ascend, each of which a text can give
abbrev pub IsReadableGraph : List Triple → Type 0
IsReadableGraph triples = AllByRecursion (IsReadable IsStored) triples × IsAscending triple_cmp triples

-- the shapes graph, if one was staged, is such a graph
abbrev pub HasReadableShapes : Option (List Triple) → Type 0
HasReadableShapes None = Unit {0}
HasReadableShapes (Some triples) = IsReadableGraph triples

-- each list of the record is such a graph
pub record IsReadableRecord (r : Record) : Type 0 where
  pub removed : IsReadableGraph r.removed
  pub added : IsReadableGraph r.added
  pub shapes : HasReadableShapes r.shapes

-- the text is the one of the record, which has this number and can be read
abbrev pub IsReadRecord : ℕ → List ℕ → Record → Type 0
IsReadRecord number text r = (r.number ≡ number) × IsReadableRecord r × (text ≡ record_text r)

-- why no record was read: none with this number that can be read has this text, unless memory ran out
abbrev pub IsNoRecord : ℕ → List ℕ → TextFault → Type 0
IsNoRecord number text NoRecord = (r : Record) → r.number ≡ number → IsReadableRecord r → text ≢ record_text r
IsNoRecord number text Memory = Unit {0}

-- no text is that of two records with one number
abbrev pub TextsAreApart : Type 0
TextsAreApart = (r s : Record) → IsReadableRecord r → IsReadableRecord s → r.number ≡ s.number → length (record_text r) < 2 ^ 64 → record_text r ≡ record_text s → r ≡ s
