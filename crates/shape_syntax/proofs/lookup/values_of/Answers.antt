use Rattle.shape_syntax.proofs.lookup.values_of.Goals as goal

pub returns : goal.returns
returns c = λ t.
    let own = c.triples_of-own.ensures.members t in
    let found = c.values.ensures t in (
      λ h. let k = found.0 h in ((own.0 k.0).0, k.1),
      λ h. found.1 (own.1 (h.0, h.1.0), h.1),
    )
