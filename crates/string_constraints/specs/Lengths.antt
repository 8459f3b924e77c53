-- Texts that are too short or too long for a bound (SHACL 4.4.1 and 4.4.2).
use Rattle.std.specs.Prelude.{◌≡◌, ◌⊎◌, ℕ, ℤ, List, length, chars, Option, Some, None}
use Rattle.rdf_model.specs.declared.term.Term.{Term}
use Rattle.literal_order.specs.Texts.{string_value}
use Rattle.component_rows.specs.Bounds.{IsWrong}
use Rattle.component_rows.specs.declared.bound.End.{End}

-- a term without a text, or with one of a wrong length
abbrev pub HasWrongLength : End → Option ℤ → Term → Type 0
HasWrongLength end count v = (string_value v ≡ None) ⊎ ((text : List ℕ) × (string_value v ≡ Some text) × IsWrong end count (length (chars text)))
