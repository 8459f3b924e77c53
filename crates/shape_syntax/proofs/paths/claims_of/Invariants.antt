use Rattle.std.proofs.Common.{take}
use Rattle.std.specs.List.{Contains}
use Rattle.shape_syntax.specs.declared.claim.Claim.{Claim}
use Rattle.shape_syntax.specs.PathSteps.{MayStand, node_of}
use Rattle.shape_syntax.proofs.paths.claims_of.Given as goal

abbrev pub invariant-loop-node : goal.invariant-loop-node
invariant-loop-node l = (c : Claim) → Contains (take l.node-index l.nodes) (node_of c) → MayStand l.graph c → Contains l.claims c
