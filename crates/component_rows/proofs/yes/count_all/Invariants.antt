use Rattle.std.proofs.Common.{◌≡◌, ◌≤◌, take}
use Rattle.component_rows.specs.Conformance.{how_many}
use Rattle.component_rows.proofs.yes.count_all.Given as goal

abbrev pub invariant-loop-answer : goal.invariant-loop-answer
invariant-loop-answer l = (l.yes ≡ how_many (take l.answer-index l.answers)) × (l.yes ≤ l.answer-index)
