use Rattle.reverse_walk.proofs.back.Goals as goal

pub returns : goal.returns
returns g c = record {
  walkers = λ terms numbering numbered bound lt. let v = c.in_ok-back.ensures.values terms numbering numbered bound lt in record { listed = v.listed; every = v.every };
  looks = λ terms numbering numbered bound lt. let a = c.in_ok-back.ensures.looks terms numbering numbered bound lt in record { added = a.added; every = a.every };
  kept = c.back.ensures.kept;
}
