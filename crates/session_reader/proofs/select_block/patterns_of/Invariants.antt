use Rattle.std.proofs.Common.{◌≡◌, ◌+◌, drop, map}
use Rattle.session_reader.specs.SelectBlock.{patterns_from}
use Rattle.session_reader.specs.Progress.{with_patterns}
use Rattle.session_reader.proofs.select_block.patterns_of.Given as goal

abbrev pub invariant-loop-i : goal.invariant-loop-i
invariant-loop-i l = with_patterns l.patterns (patterns_from (map (λ n. n.now) l.names) (l.i + 1) (map (λ t. t.now) (drop l.i l.lines))) ≡ patterns_from (map (λ n. n.now) l.names) 1 (map (λ t. t.now) l.lines)
