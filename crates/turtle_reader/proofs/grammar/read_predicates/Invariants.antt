use Rattle.std.proofs.Common.{◌≡◌}
use Rattle.turtle_reader.specs.Parsers.{left}
use Rattle.turtle_reader.specs.Grammar.{predicate_object_list, object}
use Rattle.turtle_reader.specs.Stack.{properties_from}
use Rattle.turtle_reader.specs.Progress.{Moved}
use Rattle.turtle_reader.proofs.grammar.read_predicates.Given as goal

abbrev pub invariant-loop-predicate : goal.invariant-loop-predicate
invariant-loop-predicate l = record {
  same : predicate_object_list l.text (object l.text l.levels) l.node l.fn.state ≡ properties_from l.text (object l.text l.levels) l.node l.predicate l.state;
  moved : Moved l.text 1 1 0 l.fn.state l.state;
}

abbrev pub decreases-loop-predicate : goal.decreases-loop-predicate
decreases-loop-predicate l = left l.text l.state
