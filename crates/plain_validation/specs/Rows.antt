-- What the validation of a data graph by a shapes graph answers, where both are N-Triples texts.
use Rattle.std.specs.Prelude.{◌≡◌, ℕ, List, Ok, Err}
use Rattle.rdf_model.specs.declared.triple.Triple.{Triple}
use Rattle.rdf_lexical.specs.declared.refusal.RefusalKind.{RefusalKind}
use Rattle.ntriples_text.specs.Document.{reads}
use Rattle.shape_model.specs.Validation.{Listing}
use Rattle.shape_rules.specs.Broken.{IsLeast, IsWellFormed}
use Rattle.outside.specs.Faults.{Refusal}
use Rattle.shape_reader.specs.Parts.{IsRefused as HasRefused}
use Rattle.shape_reader.specs.declared.fault.ShapeFault.{ShapeFault}
use Rattle.shape_reader.specs.declared.fault.ShapeFault.TheVariants as faults
use Rattle.plain_validation.specs.declared.fault.RowsFault.{RowsFault}
use Rattle.plain_validation.specs.declared.fault.RowsFault.TheVariants.{Data, Shapes, Rule, Pattern, Memory}
use Rattle.plain_validation.specs.declared.rows.BothListings.{BothListings}

-- the text reads to the triples, or is refused; its blank nodes belong to the session, and are numbered from 1
abbrev pub IsRead : ℕ → List ℕ → List Triple → Type 0
IsRead session text ts = (next : ℕ) × (reads text session 1 ≡ Ok (ts, next))

abbrev pub IsRefused : ℕ → List ℕ → ℕ → RefusalKind → Type 0
IsRefused session text line kind = reads text session 1 ≡ Err (line, kind)

-- The compiled list is the listing (SHACL 3.6) of the data's triples under those of the shapes, which are well-formed
-- (SHACL 3.4.2); so is the plain one. The data is session 1, the shapes are session 2.
pub record AreListings (data_text shapes_text : List ℕ) (both : BothListings) : Type 0 where
  pub graph : List Triple
  pub shapes_graph : List Triple
  pub data_read : IsRead 1 data_text graph
  pub shapes_read : IsRead 2 shapes_text shapes_graph
  pub well_formed : IsWellFormed shapes_graph
  pub compiled : Listing graph shapes_graph both.compiled
  pub plain : Listing graph shapes_graph both.plain

-- the shapes are read, after the data
abbrev pub HasShapes : List ℕ → List ℕ → List Triple → Type 0
HasShapes data_text shapes_text s = ((g : List Triple) × IsRead 1 data_text g) × IsRead 2 shapes_text s

-- Why there are none: the data is refused; or else the shapes are; or else they break a rule, which is reported; or else the
-- pattern of a shape joined those that the maker refused.
abbrev pub IsCause : List ℕ → List ℕ → List Refusal → List Refusal → RowsFault → Type 0
IsCause data_text shapes_text old new (Data line kind) = IsRefused 1 data_text line kind × (new ≡ old)
IsCause data_text shapes_text old new (Shapes line kind) = ((g : List Triple) × IsRead 1 data_text g) × IsRefused 2 shapes_text line kind × (new ≡ old)
IsCause data_text shapes_text old new (Rule b) = (s : List Triple) × HasShapes data_text shapes_text s × IsLeast s b × (new ≡ old)
IsCause data_text shapes_text old new (Pattern n) = (s : List Triple) × HasShapes data_text shapes_text s × IsWellFormed s × HasRefused s n old new
IsCause data_text shapes_text old new Memory = new ≡ old

-- the fault of a reader of shapes, as it is told here
abbrev pub rows_fault : ShapeFault → RowsFault
rows_fault (faults.Rule r) = Rule r
rows_fault (faults.Pattern n) = Pattern n
rows_fault faults.Memory = Memory
