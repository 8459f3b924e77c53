use Rattle.turn_counter.proofs.chain.Chain.drop.Given as goal
use Rattle.turn_counter.specs.Chains.{links_left}

abbrev pub decreases-loop-rest : goal.decreases-loop-rest
decreases-loop-rest l = links_left l.rest
