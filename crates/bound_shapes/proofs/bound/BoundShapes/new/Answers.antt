use Rattle.parallel_validate.proofs.Bounded.{well_acyclic, well_shallow}
use Rattle.bound_shapes.proofs.bound.BoundShapes.new.Goals as goal

pub returns-clause-bound : goal.returns-clause-bound
returns-clause-bound g c =
    let s = c.args.graph in
    let well = c.plan_graph.ensures.well_formed in
    rw c.in_ok-planned-2.ensures.ok (record { planned = c.in_ok-planned.ensures.planned; stand = c.in_ok-planned.ensures.stand; acyclic = well_acyclic s well; shallow = well_shallow s well })
