use Rattle.std.proofs.Common.{◌≡◌, drop}
use Rattle.triple_index.specs.Changes.{after_ids}
use Rattle.triple_index.proofs.index.after_all.Given as goal

abbrev pub invariant-loop-change : goal.invariant-loop-change
invariant-loop-change l = after_ids l.next (drop l.change-index l.net) ≡ after_ids l.fn.index l.net
