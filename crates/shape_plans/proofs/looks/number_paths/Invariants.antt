use Rattle.std.proofs.Common.{◌≡◌, length, map, take}
use Rattle.std.specs.List.{All}
use Rattle.path_ast.specs.PathReadings.{IsBoundPath, defined_path, path_of}
use Rattle.shape_plans.proofs.looks.number_paths.Given as goal

-- the paths so far are bound
abbrev pub invariant-loop-path : goal.invariant-loop-path
invariant-loop-path g l = record {
  bound : All (IsBoundPath (length (g.N.Names.terms l.names))) l.bound.items;
  same : map (path_of (g.N.Names.terms l.names)) l.bound.items ≡ map defined_path (take l.path-index l.paths);
}
