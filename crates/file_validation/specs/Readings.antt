-- What the texts of the data and of the shapes were read to, each by itself.
use Rattle.std.specs.Prelude.{ℕ, List, [], Result, Ok, Err, MatchResult}
use Rattle.rdf_lexical.specs.Refusals.{Refuses}
use Rattle.rdf_lexical.specs.declared.refusal.ReadFault.{ReadFault}
use Rattle.rdf_lexical.specs.declared.refusal.ReadFault.TheVariants as read
use Rattle.data_graph.specs.DataGraphs.{IsIndexOf}
use Rattle.rdf_model.specs.declared.triple.Triple.{Triple}
use Rattle.rdf_model.specs.Graphs.{with_each}
use Rattle.turtle_reader.specs.Document.{reads}
use Rattle.file_validation.specs.declared.fault.InputFault.{InputFault}
use Rattle.file_validation.specs.declared.fault.InputFault.TheVariants.{Data, Shapes, Memory}
use Rattle.file_validation.specs.declared.naming.IndexedTriples.{IndexedTriples}
use Rattle.file_validation.specs.declared.reading.TextReadings.{TextReadings}
use Rattle.file_validation.specs.Validations.{AreRead, IsRead}

-- the data is session 1, the shapes are session 2
pub record AreReadings (data_text shapes_text : List ℕ) (r : TextReadings) : Type 0 where
  pub data_read : MatchResult r.table (λ table. IsRead 1 data_text (with_each [] table)) (λ fault. Refuses fault (reads data_text 1 1))
  pub shapes_read : MatchResult r.triples (IsRead 2 shapes_text) (λ fault. Refuses fault (reads shapes_text 2 1))

-- the same fault, as it is told of the data
abbrev pub of_data : ReadFault → InputFault
of_data (read.Refusal line kind) = Data line kind
of_data read.Memory = Memory

-- as it is told of the shapes
abbrev pub of_shapes : ReadFault → InputFault
of_shapes (read.Refusal line kind) = Shapes line kind
of_shapes read.Memory = Memory

-- what both were read to, or the refusal that is told: that of the data before that of the shapes
abbrev pub both_read : Result (List Triple) ReadFault → Result (List Triple) ReadFault → Result (List Triple × List Triple) InputFault
both_read (Err fault) shapes = Err (of_data fault)
both_read (Ok found) (Err fault) = Err (of_shapes fault)
both_read (Ok found) (Ok shapes) = Ok (found, shapes)

-- these are the graphs of the two texts, that of the data by the numbers of its terms
abbrev pub AreGraphs : List ℕ → List ℕ → IndexedTriples × List Triple → Type 0
AreGraphs data_text shapes_text both = (graph : List Triple) × AreRead data_text shapes_text graph both.1 × IsIndexOf both.0.names both.0.triples graph
