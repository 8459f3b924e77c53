use Rattle.std.proofs.Common.{◌≡◌, ◌++◌, ◌+◌, codes, string_bytes, take}
use Rattle.std.specs.List.{flat_map}
use Rattle.path_ast.specs.PathReadings.{defined_path}
use Rattle.path_ast.proofs.Sizes.{list_size, path_size}
use Rattle.report_writer.specs.PathTexts.{path_text}
use Rattle.report_writer.proofs.PathLists.{further}
use Rattle.report_writer.proofs.paths.+texts.Given as goal

-- the paths so far are written
abbrev pub invariant-push_list-loop-path : goal.invariant-push_list-loop-path
invariant-push_list-loop-path l = string_bytes l.out ≡ string_bytes l.fn.out ++ (codes "( " ++ path_text (defined_path l.first) ++ flat_map further (take l.path-index l.others))

abbrev pub decreases-push_path : goal.decreases-push_path
decreases-push_path a = path_size a.path.now + path_size a.path.now

abbrev pub decreases-push_node : goal.decreases-push_node
decreases-push_node a = path_size a.inner.now + path_size a.inner.now + 1

abbrev pub decreases-push_list : goal.decreases-push_list
decreases-push_list a = path_size a.first.now + path_size a.first.now + list_size a.others.now + list_size a.others.now + 1
