use Rattle.std.proofs.Common.{◌≡◌, drop}
use Rattle.blocking.specs.Sources.{some_blocks}
use Rattle.blocking.proofs.rows.pairs_block.Given as goal

abbrev pub invariant-loop-pair : goal.invariant-loop-pair
invariant-loop-pair l = some_blocks l.mode l.graph (drop l.pair-index l.pairs) ≡ some_blocks l.mode l.graph l.pairs
