-- How far the reading of a session file has come: what its loops carry.
use Rattle.std.specs.Prelude.{ℕ, List, [], ◌++◌, Option, Some, None, Result, Ok, Err}
use Rattle.rdf_model.specs.declared.term.Term.{Term}
use Rattle.bgp_query.specs.declared.pattern.JoinPattern.{JoinPattern}
use Rattle.session_reader.specs.declared.find_line.LinePlace.TheVariants.{Outside}
use Rattle.session_reader.specs.declared.read_command.ReadCommand.{ReadCommand}
use Rattle.session_reader.specs.FindLine.{pieces}
use Rattle.session_reader.specs.SessionFile.{file_lines}

-- the commands so far, before those of the rest
abbrev pub with_commands : List ReadCommand → Result (List ReadCommand) ℕ → Result (List ReadCommand) ℕ
with_commands cs (Ok ds) = Ok (cs ++ ds)
with_commands cs (Err n) = Err n

-- the pieces of what stands behind a blank, if one does
abbrev pub pieces_behind : Option (List ℕ) → List (List ℕ)
pieces_behind None = []
pieces_behind (Some rest) = pieces Outside rest

-- the lines of what is left of a file: none behind its last
abbrev pub lines_left : Option (List ℕ) → List (List ℕ)
lines_left None = []
lines_left (Some rest) = file_lines rest

-- the patterns so far, before those of the rest
abbrev pub with_patterns : List (JoinPattern Term) → Result (List (JoinPattern Term)) ℕ → Result (List (JoinPattern Term)) ℕ
with_patterns ps (Ok qs) = Ok (ps ++ qs)
with_patterns ps (Err n) = Err n
