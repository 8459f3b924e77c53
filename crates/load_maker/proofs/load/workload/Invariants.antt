use Rattle.std.proofs.Common.{◌≡◌, ◌++◌, string_bytes}
use Rattle.std.specs.List.{flat_map, range_with_len}
use Rattle.load_maker.specs.Workload.{lines_text, own_lines, shapes_lines}
use Rattle.load_maker.proofs.load.workload.Given as goal

abbrev pub invariant-loop-before : goal.invariant-loop-before
invariant-loop-before l = string_bytes l.text ≡ lines_text (shapes_lines ++ flat_map (own_lines l.n l.session) (range_with_len 1 l.before))
