use Rattle.shape_reader.proofs.constraint.read_constraint.Goals as goal

pub returns-in_ok-found-in-List : goal.returns-in_ok-found-in-List
returns-in_ok-found-in-List c = rw c.in-List.is c.in_ok-found-in-List.ensures

pub returns-in_ok-found-in-Shapes : goal.returns-in_ok-found-in-Shapes
returns-in_ok-found-in-Shapes c = rw c.in-Shapes.is c.in_ok-found-in-Shapes.ensures
