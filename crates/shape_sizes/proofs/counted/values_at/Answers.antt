use Rattle.std.proofs.Common.{◌≡◌}
use Rattle.rdf_model.specs.declared.term.Term.{Term}
use Rattle.rdf_model.specs.declared.triple.Triple.{Triple}
use Rattle.shape_syntax.proofs.Loops.{from_none}
use Rattle.shape_sizes.proofs.Gathered.{values_found}
use Rattle.shape_sizes.proofs.counted.values_at.Goals as goal

pub returns : goal.returns
returns c =
    let found = from_none (λ (t : Triple) (v : Term). t.object ≡ v) c.property_values.result.now c.push_objects.new.nodes (rw c.new-objects.ensures at c.in_ok-push_objects.ensures) in
    values_found c.args.graph.now c.property_values.result.now c.args.node.now c.args.property c.push_objects.new.nodes c.in_ok-sorted.sorted.items c.property_values.ensures.each c.property_values.ensures.all found (rw c.into_vec.ensures at c.in_ok-sorted.ensures)
