use Rattle.reverse_walk.proofs.back_from.Goals as goal

pub returns : goal.returns
returns g c = record {
  walkers = λ terms numbering numbered bound within. let v = c.in_ok-back_from.ensures.values terms numbering numbered bound within in record { listed = v.listed; every = v.every };
  looks = λ terms numbering numbered bound within. let a = c.in_ok-back_from.ensures.looks terms numbering numbered bound within in record { added = a.added; every = a.every };
  kept = c.back_from.ensures.kept;
}
