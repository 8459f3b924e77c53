use Rattle.shape_sizes.proofs.counted.push_members_at.Goals as goal

pub returns : goal.returns
returns c = (c.in_ok-members.members, c.in_ok-members.ensures, rw c.as_slice.ensures at c.in_ok-push_copies.ensures)
