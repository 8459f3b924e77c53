use Rattle.shape_properties.proofs.shapes.push_by_role.Goals as goal

pub returns-in_ok-push_members-in-TakesShapes : goal.returns-in_ok-push_members-in-TakesShapes
returns-in_ok-push_members-in-TakesShapes c = rw c.in-TakesShapes.is c.in_ok-push_members-in-TakesShapes.ensures
