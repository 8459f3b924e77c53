-- Which patterns the maker is asked for: those of the shapes graph.
use Rattle.std.specs.Prelude.{◌≡◌, ℕ, List, Result, Ok, Err}
use Rattle.rdf_lexical.specs.declared.refusal.RefusalKind.{RefusalKind}
use Rattle.rdf_model.specs.declared.triple.Triple.{Triple}
use Rattle.outside.specs.Faults.{Request}
use Rattle.turtle_reader.specs.Document.{reads}
use Rattle.shape_reader.specs.Asked.{AsksAll, AsksSome, AsksUpTo}
use Rattle.file_validation.specs.declared.fault.InputFault.{InputFault}
use Rattle.file_validation.specs.declared.fault.InputFault.TheVariants.{Data, Shapes, Rule, Pattern, Memory}
use Rattle.file_validation.specs.Validations.{IsRead}

-- all of the text's, where what had been asked is old before, and new after
abbrev pub AsksOfText : List ℕ → List Request → List Request → Type 0
AsksOfText shapes_text old new = (s : List Triple) × IsRead 2 shapes_text s × AsksAll s old new

-- some of those of a text that was read so, from the first on; of one that can't be read, none
abbrev pub AsksSomeOf : Result (List Triple × ℕ) (ℕ × RefusalKind) → List Request → List Request → Type 0
AsksSomeOf (Ok r) old new = AsksSome r.0 old new
AsksSomeOf (Err e) old new = new ≡ old

-- Where there is no validation: those up to the refused one, and none where something else is told before.
abbrev pub AsksInVain : List ℕ → InputFault → List Request → List Request → Type 0
AsksInVain shapes_text (Data line kind) old new = new ≡ old
AsksInVain shapes_text (Shapes line kind) old new = new ≡ old
AsksInVain shapes_text (Rule row) old new = new ≡ old
AsksInVain shapes_text (Pattern n) old new = (s : List Triple) × IsRead 2 shapes_text s × AsksUpTo s n old new
AsksInVain shapes_text Memory old new = AsksSomeOf (reads shapes_text 2 1) old new
