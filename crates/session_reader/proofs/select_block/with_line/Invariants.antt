use Rattle.std.proofs.Common.{◌≡◌, map, drop}
use Rattle.session_reader.specs.FindLine.{parts}
use Rattle.session_reader.specs.SelectBlock.{with_names}
use Rattle.session_reader.proofs.select_block.with_line.Given as goal

abbrev pub invariant-loop-part : goal.invariant-loop-part
invariant-loop-part l = with_names (map (λ n. n.now) l.names.items) (map (λ p. p.now) (drop l.part-index l.part-items)) ≡ with_names (map (λ n. n.now) l.fn.names.items) (parts l.line)
