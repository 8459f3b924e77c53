-- The block of a select: a pattern in each line, whose variables are numbered in the order of their first appearance.
use Rattle.std.specs.Prelude.{ℕ, suc, ◌+◌, Bool, false, ◌&&◌, ◌||◌, List, [], ◌∷◌, ◌++◌, Option, Some, None, Result, Ok, Err, nat_le, nat_lt, ◌==◌, if◌then◌else◌, bytes_eq}
use Rattle.std.specs.List.{flat_map, list_all, list_any}
use Rattle.rdf_model.specs.declared.term.Term.{Term}
use Rattle.bgp_query.specs.declared.pattern.JoinPattern.{JoinPattern}
use Rattle.bgp_query.specs.declared.pattern.Part.{Part}
use Rattle.bgp_query.specs.declared.pattern.Part.TheVariants.{Variable, Constant}
use Rattle.session_reader.specs.declared.find_line.Role.{Role}
use Rattle.session_reader.specs.declared.find_line.Role.TheVariants.{Subject, Predicate, Object}
use Rattle.session_reader.specs.declared.read_command.ReadCommand.{ReadCommand}
use Rattle.session_reader.specs.declared.read_command.ReadCommand.TheVariants.{Select, BadSelect}
use Rattle.session_reader.specs.FindLine.{asked, has_blank_end, parts}
use Rattle.session_reader.specs.LineEnds.{without_cr}

-- ASCII letters and digits
abbrev pub is_letter : ℕ → Bool
is_letter c = (nat_le 65 c && nat_le c 90) || (nat_le 97 c && nat_le c 122)

abbrev pub is_digit : ℕ → Bool
is_digit c = nat_le 48 c && nat_le c 57

abbrev pub is_letter_or_digit : ℕ → Bool
is_letter_or_digit c = is_letter c || is_digit c

-- a letter, and then letters and digits
abbrev pub is_name : List ℕ → Bool
is_name [] = false
is_name (c ∷ cs) = is_letter c && list_all is_letter_or_digit cs

-- the name of the variable that a part of a line is, `?` before it; None where it is no variable
abbrev pub name_of : List ℕ → Option (List ℕ)
name_of [] = None
name_of (c ∷ cs) = if c == 63 && is_name cs then Some cs else None

-- names, with another where it is new
abbrev pub with_name : List (List ℕ) → Option (List ℕ) → List (List ℕ)
with_name names None = names
with_name names (Some name) = if list_any (λ n. bytes_eq n name) names then names else names ++ name ∷ []

-- names, with those of the variables among parts of lines, in the order of their first appearance
abbrev pub with_names : List (List ℕ) → List (List ℕ) → List (List ℕ)
with_names names [] = names
with_names names (part ∷ more) = with_names (with_name names (name_of part)) more

-- the names of a block's variables, each once, in the order of their first appearance
abbrev pub block_names : List (List ℕ) → List (List ℕ)
block_names lines = with_names [] (flat_map (λ line. parts (without_cr line)) lines)

-- a variable's number: how many of the names stand before its own
abbrev pub number_of : List (List ℕ) → List ℕ → ℕ
number_of [] name = 0
number_of (n ∷ names) name = if bytes_eq n name then 0 else suc (number_of names name)

-- A constant is a term as a find has it; a bare `?` is none.
abbrev pub constant_of : Option (Option Term) → Option (Part Term)
constant_of (Some (Some t)) = Some (Constant t)
constant_of (Some None) = None
constant_of None = None

abbrev pub part_by : List (List ℕ) → Option (List ℕ) → Option (Option Term) → Option (Part Term)
part_by names (Some name) term = Some (Variable (number_of names name))
part_by names None term = constant_of term

-- what a part is in its role, where the variables of its block have these names: a variable or a constant, or neither
abbrev pub part_of : List (List ℕ) → Role → List ℕ → Option (Part Term)
part_of names role text = part_by names (name_of text) (asked role text)

abbrev pub pattern_from : Option (Part Term) → Option (Part Term) → Option (Part Term) → Option (JoinPattern Term)
pattern_from (Some s) (Some p) (Some o) = Some (record { subject = s; predicate = p; object = o })
pattern_from _ _ _ = None

abbrev pub pattern_by : List (List ℕ) → List (List ℕ) → Option (JoinPattern Term)
pattern_by names (s ∷ p ∷ o ∷ []) = pattern_from (part_of names Subject s) (part_of names Predicate p) (part_of names Object o)
pattern_by names _ = None

-- the pattern of a line, whose parts stand as those of a find; None where it is none
abbrev pub pattern_of : List (List ℕ) → List ℕ → Option (JoinPattern Term)
pattern_of names line = if has_blank_end line then None else pattern_by names (parts line)

-- a block has no more patterns
abbrev pub most_patterns : ℕ
most_patterns = 8

abbrev pub with_pattern : ℕ → Option (JoinPattern Term) → Result (List (JoinPattern Term)) ℕ → Result (List (JoinPattern Term)) ℕ
with_pattern n (Some p) (Ok ps) = Ok (p ∷ ps)
with_pattern n (Some p) (Err k) = Err k
with_pattern n None rest = Err n

-- the pattern of line n before those of the lines after it
abbrev pub with_line : List (List ℕ) → ℕ → List ℕ → Result (List (JoinPattern Term)) ℕ → Result (List (JoinPattern Term)) ℕ
with_line names n line rest = if nat_lt most_patterns n then Err n else with_pattern n (pattern_of names (without_cr line)) rest

-- the patterns of the lines from number n on, or the number of the first that is no pattern or one too many
abbrev pub patterns_from : List (List ℕ) → ℕ → List (List ℕ) → Result (List (JoinPattern Term)) ℕ
patterns_from names n [] = Ok []
patterns_from names n (line ∷ lines) = with_line names n line (patterns_from names (n + 1) lines)

abbrev pub command_of : Result (List (JoinPattern Term)) ℕ → ReadCommand
command_of (Ok ps) = Select ps
command_of (Err n) = BadSelect n

-- The command of a select with this block: an empty one is refused at line 1.
abbrev pub select_of : List (List ℕ) → ReadCommand
select_of [] = BadSelect 1
select_of (line ∷ lines) = command_of (patterns_from (block_names (line ∷ lines)) 1 (line ∷ lines))
