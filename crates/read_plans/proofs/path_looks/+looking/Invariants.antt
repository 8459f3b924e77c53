use Rattle.std.proofs.Common.{◌+◌, ◌*◌, ◌∷◌, map, drop}
use Rattle.path_ast.specs.PathReadings.{defined_path}
use Rattle.path_ast.proofs.Sizes.{list_size, path_size}
use Rattle.read_plans.specs.MemberRows.{backward_rows, each_rows, forward_rows}
use Rattle.read_plans.proofs.Growing.{IsLeft}
use Rattle.read_plans.proofs.path_looks.+looking.Given as goal

-- the rows of the other members, after those before them, are left
abbrev pub invariant-push_forward-loop-path : goal.invariant-push_forward-loop-path
invariant-push_forward-loop-path l =
    IsLeft l.fn.rows l.rows (forward_rows (defined_path l.first ∷ map defined_path l.others) (map defined_path l.way)) (forward_rows (map defined_path (drop l.path-index l.others)) (map defined_path l.longer))

abbrev pub invariant-push_backward-loop-index : goal.invariant-push_backward-loop-index
invariant-push_backward-loop-index l =
    IsLeft l.fn.rows l.rows (backward_rows (defined_path l.first ∷ map defined_path l.others) (map defined_path l.way)) (backward_rows (map defined_path (drop l.index l.others)) (map defined_path l.way))

abbrev pub invariant-push_each-loop-path : goal.invariant-push_each-loop-path
invariant-push_each-loop-path l =
    IsLeft l.fn.rows l.rows (each_rows l.reversed (defined_path l.first ∷ map defined_path l.others) (map defined_path l.way)) (each_rows l.reversed (map defined_path (drop l.path-index l.others)) (map defined_path l.way))

abbrev pub decreases-push_path : goal.decreases-push_path
decreases-push_path a = 4 * path_size a.path.now

abbrev pub decreases-push_repeated : goal.decreases-push_repeated
decreases-push_repeated a = 4 * path_size a.path.now + 1

abbrev pub decreases-push_through : goal.decreases-push_through
decreases-push_through a = 4 * (path_size a.first.now + list_size a.others.now) + 2

abbrev pub decreases-push_forward : goal.decreases-push_forward
decreases-push_forward a = 4 * (path_size a.first.now + list_size a.others.now) + 1

abbrev pub decreases-push_backward : goal.decreases-push_backward
decreases-push_backward a = 4 * (path_size a.first.now + list_size a.others.now) + 1

abbrev pub decreases-push_each : goal.decreases-push_each
decreases-push_each a = 4 * (path_size a.first.now + list_size a.others.now) + 1
