use Rattle.std.proofs.Common.{◌≡◌, map, take}
use Rattle.path_ast.specs.PathReadings.{defined_path}
use Rattle.read_plans.proofs.ways.+copying.Given as goal

-- the paths so far are copied
abbrev pub invariant-copied_paths-loop-path : goal.invariant-copied_paths-loop-path
invariant-copied_paths-loop-path l = map defined_path l.copies.items ≡ map defined_path (take l.path-index l.paths)
