use Rattle.std.proofs.Common.{take}
use Rattle.path_ast.proofs.Sizes.{list_size, path_size}
use Rattle.shape_plans.proofs.Comparing.{ReadAllSame}
use Rattle.shape_plans.proofs.alike.+comparing.Given as goal

-- the paths so far are the same
abbrev pub invariant-are_same_paths-loop-index : goal.invariant-are_same_paths-loop-index
invariant-are_same_paths-loop-index l = ReadAllSame (take l.index l.paths) (take l.index l.others)

abbrev pub decreases-is_same_path : goal.decreases-is_same_path
decreases-is_same_path a = path_size a.path.now

abbrev pub decreases-are_same_paths : goal.decreases-are_same_paths
decreases-are_same_paths a = list_size a.paths.now
