use Rattle.std.proofs.Common.{◌≡◌, take, true}
use Rattle.std.specs.List.{Contains}
use Rattle.rdf_model.specs.declared.term.Term.{Term}
use Rattle.plain_values.specs.Tests.{does_match}
use Rattle.plain_values.proofs.by_list.is_in_languages.Given as goal

abbrev pub invariant-loop-range : goal.invariant-loop-range
invariant-loop-range l = (m : Term) → Contains (take l.range-index l.ranges) m → does_match m l.value ≡ true → ⊥
