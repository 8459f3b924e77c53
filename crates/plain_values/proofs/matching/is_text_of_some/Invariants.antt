use Rattle.std.proofs.Common.{◌≡◌, Some, take}
use Rattle.std.specs.List.{Contains}
use Rattle.literal_order.specs.Texts.{string_value}
use Rattle.rdf_model.specs.declared.term.Term.{Term}
use Rattle.plain_values.proofs.matching.is_text_of_some.Given as goal

abbrev pub invariant-loop-term : goal.invariant-loop-term
invariant-loop-term l = (q : Term) → Contains (take l.term-index l.terms) q → string_value q ≡ Some l.text → ⊥
