use Rattle.plain_values.proofs.Matched.{pattern_made}
use Rattle.plain_values.proofs.matching.pattern_rows.Goals as goal

pub refused_rows-requires : goal.refused_rows-requires
refused_rows-requires c = c.requires.patterns.built

pub returns : goal.returns
returns c =
    pattern_made c.args.at.now c.args.patterns.now c.args.parameter.now c.in_ok-flags.flags c.as_slice.result.now c.in_ok-rows.rows.items c.requires.patterns c.requires.parameter c.in_ok-flags.ensures c.as_slice.ensures c.in_ok-rows.ensures
