use Rattle.std.proofs.Common.{◌≡◌, ◌+◌, map, drop}
use Rattle.session_reader.specs.SelectBlock as block
use Rattle.session_reader.proofs.select_block.number_of.Given as goal

abbrev pub invariant-loop-i : goal.invariant-loop-i
invariant-loop-i l = block.number_of (map (λ n. n.now) l.names) l.name ≡ l.i + block.number_of (map (λ n. n.now) (drop l.i l.names)) l.name
