use Rattle.std.proofs.Common.{◌≡◌, true, take, map}
use Rattle.std.specs.List.{list_all}
use Rattle.triple_index.specs.Changes.{change_at}
use Rattle.commit_core.specs.Conditions.{change_named}
use Rattle.commit_core.proofs.asking.are_changes_named.Given as goal

abbrev pub invariant-loop-change : goal.invariant-loop-change
invariant-loop-change l = list_all (change_named l.named.terms) (map (change_at l.terms) (take l.change-index l.changes)) ≡ true
