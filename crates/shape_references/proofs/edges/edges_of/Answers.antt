use Rattle.shape_references.proofs.edges.edges_of.Goals as goal

pub returns : goal.returns
returns c =
    let sorted = rw c.into_vec.ensures at c.in_ok-sorted.ensures in
    record {
      ascending = sorted.ascending;
      members = λ t. let a = sorted.members t in let f = c.in_ok-edges.ensures t in (λ h. f.0 (a.0 h), λ h. a.1 (f.1 h));
    }
