use Rattle.shape_references.proofs.SiblingValues.{only_one}
use Rattle.shape_references.proofs.siblings.parent_of.Goals as goal

pub returns-in-Some : goal.returns-in-Some
returns-in-Some c =
    let one = rw c.in-Some.is at c.only_of.ensures in
    only_one c.args.graph.now c.args.reversed.now c.properties_in.result.now c.args.shape.now c.in-Some.triple.now c.requires.reversed c.properties_in.ensures one.0 one.1
