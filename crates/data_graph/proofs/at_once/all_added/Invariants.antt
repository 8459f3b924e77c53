use Rattle.std.proofs.Common.{◌≡◌, take}
use Rattle.std.specs.Prelude.{map}
use Rattle.triple_index.specs.declared.change.NumberedChange.TheVariants.{Add}
use Rattle.data_graph.proofs.at_once.all_added.Given as goal

abbrev pub invariant-loop-change : goal.invariant-loop-change
invariant-loop-change l = take l.change-index l.changes ≡ map Add l.added.items
