use Rattle.std.proofs.Common.{◌≡◌, map, drop}
use Rattle.std.specs.List.{flat_map}
use Rattle.session_reader.specs.FindLine.{parts}
use Rattle.session_reader.specs.LineEnds.{without_cr}
use Rattle.session_reader.specs.SelectBlock.{block_names, with_names}
use Rattle.session_reader.proofs.select_block.names_of.Given as goal

abbrev pub invariant-loop-line : goal.invariant-loop-line
invariant-loop-line l = with_names (map (λ n. n.now) l.names.items) (flat_map (λ t. parts (without_cr t)) (map (λ t. t.now) (drop l.line-index l.lines))) ≡ block_names (map (λ t. t.now) l.lines)
