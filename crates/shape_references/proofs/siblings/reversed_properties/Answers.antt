use Rattle.shape_references.proofs.SiblingValues.{reversed_by}
use Rattle.shape_references.proofs.siblings.reversed_properties.Goals as goal

pub returns : goal.returns
returns c =
    let sorted = rw c.into_vec.ensures at c.in_ok-sorted.ensures in
    record {
      ascending = sorted.ascending;
      members = λ t. let a = sorted.members t in let f = (rw c.as_slice.ensures at c.in_ok-unsorted.ensures) t in let k = reversed_by c.args.graph.now t in (λ h. k.0 (f.0 (a.0 h)), λ h. a.1 (f.1 (k.1 h)));
    }
