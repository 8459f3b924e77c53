use Rattle.shape_rules.proofs.limits.measures_of.Goals as goal

pub returns : goal.returns
returns c =
    let same = c.indexed-indexed.ensures.value in
    record { deep = rw same at c.in_ok-deep.ensures; sizes = rw same at c.in_ok-sizes.ensures; looks = rw same at c.in_ok-looks.ensures }
