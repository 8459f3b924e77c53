use Rattle.shape_references.specs.Siblings.{IsQualifiedUnder}
use Rattle.shape_references.proofs.BoundSteps.{in_new}
use Rattle.shape_references.proofs.siblings.qualified_under.Goals as goal

pub returns : goal.returns
returns c =
    let sorted = rw c.into_vec.ensures at c.in_ok-sorted.ensures in
    let all = in_new (IsQualifiedUnder c.args.graph.now c.args.parent.now) c.new-nodes.result c.push_all_qualified.new.nodes c.new-nodes.ensures c.in_ok-push_all_qualified.ensures in
    record {
      ascending = sorted.ascending;
      members = λ t. let a = sorted.members t in let f = all t in (λ h. f.0 (a.0 h), λ h. a.1 (f.1 h));
    }
