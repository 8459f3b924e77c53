use Rattle.std.proofs.Common.{inl, inr}
use Rattle.shape_sizes.proofs.counted.shapes_or_name.Goals as goal

pub returns-in_ok-nodes-in-Some : goal.returns-in_ok-nodes-in-Some
returns-in_ok-nodes-in-Some c =
    let stands = rw c.in-Some.is at c.in_ok-name.ensures in
    let by = c.in_ok-nodes-in-Some.ensures in
    inr (by.0, c.in-Some.name, by.1, stands, by.2)

pub returns-in_ok-shapes-in-None : goal.returns-in_ok-shapes-in-None
returns-in_ok-shapes-in-None c = inl c.in_ok-shapes-in-None.ensures
