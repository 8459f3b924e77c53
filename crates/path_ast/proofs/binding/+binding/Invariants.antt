use Rattle.std.proofs.Common.{◌≡◌, length, map, take}
use Rattle.std.specs.List.{All}
use Rattle.path_ast.specs.PathReadings.{IsBoundPath, defined_path, path_of}
use Rattle.path_ast.proofs.Sizes.{list_size, path_size}
use Rattle.path_ast.proofs.binding.+binding.Given as goal

-- the paths so far are bound
abbrev pub invariant-bind_paths-loop-path : goal.invariant-bind_paths-loop-path
invariant-bind_paths-loop-path g l = record {
  in_range : All (IsBoundPath (length (g.N.Names.terms l.names))) l.bound.items;
  same : map (path_of (g.N.Names.terms l.names)) l.bound.items ≡ map defined_path (take l.path-index l.paths);
}

abbrev pub decreases-bind_path : goal.decreases-bind_path
decreases-bind_path g a = path_size a.path.now

abbrev pub decreases-bind_paths : goal.decreases-bind_paths
decreases-bind_paths g a = list_size a.paths.now
