use Rattle.shape_model.specs.Vocabulary.{rdfs_class}
use Rattle.shape_syntax.proofs.Scans.{contains_member, member_contains}
use Rattle.shape_reader.proofs.target.is_class.Goals as goal

pub returns : goal.returns
returns c =
    let has = rw c.as_slice.ensures at c.has_rdfs_class.ensures in
    let all = rw (c.graph.ensures.value, c.node.ensures) at c.in_ok-classes.ensures rdfs_class in (
      λ h. all.0 (contains_member c.in_ok-classes.classes rdfs_class (has.0 h)),
      λ i. has.1 (member_contains c.in_ok-classes.classes rdfs_class (all.1 i)),
    )
