-- The lines of two files that aren't validated.
use Rattle.std.specs.Prelude.{ℕ, List, ◌++◌, codes}
use Rattle.std.specs.Fmt.{decimal}
use Rattle.rdf_lexical.specs.Refusals.{number_of}
use Rattle.rdf_model.specs.NTriples.{term_text}
use Rattle.validate_command.specs.declared.bad_input.BadInput.{BadInput}
use Rattle.validate_command.specs.declared.bad_input.BadInput.TheVariants.{Data, Shapes, Rule, Pattern}

-- what is told of the files, behind `error `
abbrev pub bad_input_text : BadInput → List ℕ
bad_input_text (Data line kind) = codes "data line " ++ decimal line ++ codes " kind " ++ decimal (number_of kind)
bad_input_text (Shapes line kind) = codes "shapes line " ++ decimal line ++ codes " kind " ++ decimal (number_of kind)
bad_input_text (Rule row) = codes "shapes rule " ++ decimal row.rule ++ codes " " ++ term_text row.node
bad_input_text (Pattern node) = codes "shapes pattern " ++ term_text node
