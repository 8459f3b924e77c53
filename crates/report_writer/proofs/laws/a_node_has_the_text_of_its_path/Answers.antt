use Rattle.shape_model.specs.Limits.{levels_limit}
use Rattle.report_writer.proofs.GraphPaths.{path_law}
use Rattle.report_writer.proofs.WellFormed.{shallow}
use Rattle.report_writer.proofs.laws.a_node_has_the_text_of_its_path.Goals as goal

pub returns-clause-node : goal.returns-clause-node
returns-clause-node c = λ s n p h less. path_law p levels_limit s n h less

pub returns-clause-shape : goal.returns-clause-shape
returns-clause-shape c = λ s well shape n p is has h. path_law p levels_limit s n h (shallow s well shape is n p has h)
