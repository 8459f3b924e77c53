use Rattle.path_ast.proofs.Sizes.{list_size, path_size}
use Rattle.path_eval.proofs.making.+making.Given as goal

abbrev pub decreases-walker_of : goal.decreases-walker_of
decreases-walker_of a = path_size a.path.now

abbrev pub decreases-onward_of : goal.decreases-onward_of
decreases-onward_of a = list_size a.paths.now

abbrev pub decreases-backward_of : goal.decreases-backward_of
decreases-backward_of a = list_size a.paths.now

abbrev pub decreases-any_of : goal.decreases-any_of
decreases-any_of a = list_size a.paths.now
