use Rattle.shape_syntax.proofs.Loops.{from_none}
use Rattle.shape_references.specs.Bundles.{IsNodeOf}
use Rattle.shape_references.proofs.names.nodes_of.Goals as goal

pub returns : goal.returns
returns c =
    let sorted = rw c.into_vec.ensures at c.in_ok-sorted.ensures in
    record {
      ascending = sorted.ascending;
      members = λ n. let a = sorted.members n in let f = from_none IsNodeOf c.args.bundles.now c.in_ok-nodes.nodes c.in_ok-nodes.ensures n in (λ h. f.0 (a.0 h), λ h. a.1 (f.1 h));
    }
