-- What the validation of a data graph by a shapes graph answers, where both are Turtle texts.
use Rattle.std.specs.Prelude.{◌≡◌, ◌↔◌, ◌≤◌, ◌^◌, ℕ, List, [], Ok, Err, IsTrue}
use Rattle.rdf_lexical.specs.declared.refusal.RefusalKind.{RefusalKind}
use Rattle.rdf_model.specs.declared.triple.Triple.{Triple}
use Rattle.turtle_reader.specs.Document.{reads}
use Rattle.shape_model.specs.declared.result_row.ResultRow.{ResultRow}
use Rattle.shape_model.specs.Validation.{Listing, NoResult}
use Rattle.shape_rules.specs.Broken.{IsLeast, IsWellFormed}
use Rattle.outside.specs.Faults.{Refusal}
use Rattle.shape_reader.specs.declared.fault.ShapeFault.{ShapeFault}
use Rattle.shape_reader.specs.declared.fault.ShapeFault.TheVariants as reader
use Rattle.shape_reader.specs.Parts.{IsRefused as HasRefused}
use Rattle.report_writer.specs.Report.{report_text}
use Rattle.evidence_blocks.specs.Verdicts.{IsVerified, IsWrongAt}
use Rattle.graph_explanation.specs.Explanations.{IsExplanation}
use Rattle.file_validation.specs.declared.fault.InputFault.{InputFault}
use Rattle.file_validation.specs.declared.fault.InputFault.TheVariants.{Data, Shapes, Rule, Pattern, Memory}
use Rattle.file_validation.specs.declared.validating.Explanation.{Explanation}
use Rattle.file_validation.specs.declared.validating.Validation.{Validation}
use Rattle.file_validation.specs.declared.validating.EvidenceVerdict.{EvidenceVerdict}
use Rattle.file_validation.specs.declared.validating.EvidenceVerdict.TheVariants.{Verified, Wrong}

-- the text reads to the triples, or is refused; its blank nodes belong to the session, and are numbered from 1 with 32 bits
abbrev pub IsRead : ℕ → List ℕ → List Triple → Type 0
IsRead session text ts = (next : ℕ) × (reads text session 1 ≡ Ok (ts, next)) × (next ≤ 2 ^ 32)

abbrev pub IsRefused : ℕ → List ℕ → ℕ → RefusalKind → Type 0
IsRefused session text line kind = reads text session 1 ≡ Err (line, kind)

-- The report is that of the results of validating the graph by the shapes graph (SHACL 3.6), and the graph conforms where
-- there is none (SHACL 3.6.1.1).
pub record IsReported (graph shapes_graph : List Triple) (v : Validation) : Type 0 where
  pub rows : List ResultRow
  pub listing : Listing graph shapes_graph rows
  pub report : v.report ≡ report_text shapes_graph rows
  pub conforms : IsTrue v.conforms ↔ (rows ≡ [])

-- So it is for the graphs of the two texts, of which the shapes are well-formed (SHACL 3.4.2). The data is session 1, the
-- shapes are session 2.
pub record IsValidation (data_text shapes_text : List ℕ) (v : Validation) : Type 0 where
  pub graph : List Triple
  pub shapes_graph : List Triple
  pub data_read : IsRead 1 data_text graph
  pub shapes_read : IsRead 2 shapes_text shapes_graph
  pub well_formed : IsWellFormed shapes_graph
  pub reported : IsReported graph shapes_graph v

-- The blocks are those of exactly the results of validating the graph by the shapes graph (SHACL 3.6), and the graph conforms
-- where there is none (SHACL 3.6.1.1).
pub record IsExplained (graph shapes_graph : List Triple) (e : Explanation) : Type 0 where
  pub explanation : IsExplanation graph shapes_graph e.blocks
  pub conforms : IsTrue e.conforms ↔ NoResult graph shapes_graph

-- these are the graphs of the two texts, and the shapes are well-formed (SHACL 3.4.2)
pub record AreRead (data_text shapes_text : List ℕ) (graph shapes_graph : List Triple) : Type 0 where
  pub data_read : IsRead 1 data_text graph
  pub shapes_read : IsRead 2 shapes_text shapes_graph
  pub well_formed : IsWellFormed shapes_graph

-- so the validation of these graphs is explained
pub record IsExplanationOf (data_text shapes_text : List ℕ) (e : Explanation) : Type 0 where
  pub graph : List Triple
  pub shapes_graph : List Triple
  pub read : AreRead data_text shapes_text graph shapes_graph
  pub explained : IsExplained graph shapes_graph e

-- The verdict on a text of evidence: each of its blocks shows a result of validating the graph by the shapes graph, or this is the
-- first that doesn't.
abbrev pub IsVerdict : List Triple → List Triple → List ℕ → EvidenceVerdict → Type 0
IsVerdict graph shapes_graph evidence (Verified blocks) = IsVerified graph shapes_graph evidence blocks
IsVerdict graph shapes_graph evidence (Wrong block) = IsWrongAt graph shapes_graph evidence block

-- so it is for the graphs of the two texts, of which the shapes are well-formed
pub record IsVerdictOn (data_text shapes_text evidence_text : List ℕ) (v : EvidenceVerdict) : Type 0 where
  pub graph : List Triple
  pub shapes_graph : List Triple
  pub read : AreRead data_text shapes_text graph shapes_graph
  pub verdict : IsVerdict graph shapes_graph evidence_text v

-- the data is read
abbrev pub HasData : List ℕ → Type 0
HasData data_text = (g : List Triple) × IsRead 1 data_text g

-- Why there is none: the data is refused; or else the shapes are; or else they break a rule, of which the least is told; or
-- else the pattern of a shape joined those that the maker refused; or memory ran out.
abbrev pub IsCause : List ℕ → List ℕ → List Refusal → List Refusal → InputFault → Type 0
IsCause data_text shapes_text old new (Data line kind) = IsRefused 1 data_text line kind × (new ≡ old)
IsCause data_text shapes_text old new (Shapes line kind) = HasData data_text × IsRefused 2 shapes_text line kind × (new ≡ old)
IsCause data_text shapes_text old new (Rule row) = (s : List Triple) × HasData data_text × IsRead 2 shapes_text s × IsLeast s row × (new ≡ old)
IsCause data_text shapes_text old new (Pattern n) = (s : List Triple) × HasData data_text × IsRead 2 shapes_text s × IsWellFormed s × HasRefused s n old new
IsCause data_text shapes_text old new Memory = new ≡ old

-- the same fault, as it is told of two texts
abbrev pub input_fault : ShapeFault → InputFault
input_fault (reader.Rule row) = Rule row
input_fault (reader.Pattern n) = Pattern n
input_fault reader.Memory = Memory
