use Rattle.std.proofs.Common.{◌≡◌}
use Rattle.turtle_reader.specs.Parsers.{left}
use Rattle.turtle_reader.specs.Grammar.{turtle_doc}
use Rattle.turtle_reader.specs.Progress.{Moved}
use Rattle.turtle_reader.proofs.grammar.read_statements.Given as goal

abbrev pub invariant-loop-state : goal.invariant-loop-state
invariant-loop-state l = record {
  same : turtle_doc l.text l.levels l.fn.state ≡ turtle_doc l.text l.levels l.state;
  moved : Moved l.text 0 0 0 l.fn.state l.state;
}

abbrev pub decreases-loop-state : goal.decreases-loop-state
decreases-loop-state l = left l.text l.state
