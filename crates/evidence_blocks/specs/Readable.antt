-- Blocks of the format: those whose terms a text of N-Triples can give, with the labels of the store for blank nodes. No two of
-- them have one text.
use Rattle.std.specs.Prelude.{Option, Some, None}
use Rattle.std.specs.List.{AllByRecursion}
use Rattle.rdf_model.specs.declared.term.Term.{Term}
use Rattle.rdf_model.specs.declared.look.Look.{Look}
use Rattle.rdf_model.specs.declared.look.Look.TheVariants.{Out, In, OutAny}
use Rattle.ntriples_text.specs.Laws.{IsReadable, IsReadableIri, IsReadableObject, IsStored}
use Rattle.shape_model.specs.declared.result_row.ResultRow.{ResultRow}
use Rattle.evidence_blocks.specs.declared.block.Block.{Block}
use Rattle.evidence_blocks.specs.declared.block.ShownLook.{ShownLook}

-- any term that N-Triples can give
abbrev pub IsReadableTerm : Term → Type 0
IsReadableTerm t = IsReadableObject IsStored t

abbrev pub IsReadableOption : Option Term → Type 0
IsReadableOption None = Unit {0}
IsReadableOption (Some t) = IsReadableTerm t

pub record IsReadableRow (r : ResultRow) : Type 0 where
  pub source_shape : IsReadableTerm r.source_shape
  pub focus_node : IsReadableTerm r.focus_node
  pub parameter : IsReadableOption r.parameter
  pub about : IsReadableOption r.about
  pub value : IsReadableOption r.value
  pub other : IsReadableOption r.other

-- its predicate is an IRI
abbrev pub IsReadableLook : Look Term → Type 0
IsReadableLook (Out x p) = IsReadableTerm x × IsReadableIri p
IsReadableLook (In p x) = IsReadableIri p × IsReadableTerm x
IsReadableLook (OutAny x) = IsReadableTerm x

abbrev pub IsReadableShown : ShownLook → Type 0
IsReadableShown x = IsReadableLook x.look × AllByRecursion (IsReadable IsStored) x.triples

pub record IsReadableBlock (b : Block) : Type 0 where
  pub shape : IsReadableTerm b.shape
  pub focus : IsReadableTerm b.focus
  pub row : IsReadableRow b.row
  pub looks : AllByRecursion IsReadableShown b.looks
