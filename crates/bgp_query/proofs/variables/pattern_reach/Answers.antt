use Rattle.std.proofs.Common.{◌∙◌, ℕ, ap}
use Rattle.std.specs.Prelude.{max}
use Rattle.bgp_query.proofs.Reaching.{pattern_reach}
use Rattle.bgp_query.proofs.variables.pattern_reach.Goals as goal

pub returns : goal.returns
returns c = pattern_reach c.args.pattern.now c.part_reach.result c.part_reach-2.result c.part_reach-3.result c.max-2.result c.part_reach.ensures c.part_reach-2.ensures c.part_reach-3.ensures
    (c.max-2.ensures ∙ ap (λ (n : ℕ). max n c.part_reach-3.result) c.max.ensures)
