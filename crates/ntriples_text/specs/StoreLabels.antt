-- The labels of the store's blank nodes: `_:sIxN` is number N of session I, as a term is printed.
use Rattle.std.specs.Prelude.{ℕ, ◌&&◌, List, [], ◌∷◌, Option, Some, None, ◌==◌, nat_lt, nat_le, if◌then◌else◌, bytes_eq}
use Rattle.std.specs.List.{before_first, after_first}
use Rattle.std.specs.Fmt.{decimal}
use Rattle.std.specs.Str.Parse.{digits_value}
use Rattle.rdf_model.specs.declared.term.Term.{Term}
use Rattle.rdf_model.specs.declared.term.Term.TheVariants.{Blank}

-- the number from 1 to the highest that a text is in decimal, without a leading zero
abbrev pub number_within : ℕ → List ℕ → Option ℕ
number_within highest text = let n = digits_value 10 text in if bytes_eq text (decimal n) && nat_lt 0 n && nat_le n highest then Some n else None

abbrev pub node_of_numbers : Option ℕ → Option ℕ → Option Term
node_of_numbers (Some session) (Some number) = Some (Blank session number)
node_of_numbers _ _ = None

-- the blank node of a label behind its `s`: a session from 1 to 64, `x`, and a number below 2^32
abbrev pub node_behind_s : List ℕ → Option Term
node_behind_s text = node_of_numbers (number_within 64 (before_first (λ c. c == 120) text)) (number_within 4294967295 (after_first (λ c. c == 120) text))

-- the blank node of a label, without its `_:`
abbrev pub stored_node : List ℕ → Option Term
stored_node [] = None
stored_node (c ∷ cs) = if c == 115 then node_behind_s cs else None
