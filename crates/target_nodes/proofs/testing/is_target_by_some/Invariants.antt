use Rattle.std.proofs.Common.{take}
use Rattle.collections.specs.Listings.{Keeps}
use Rattle.target_nodes.specs.TargetNumbers.{AtNode, Declared, IsDecidedBySome}
use Rattle.target_nodes.proofs.testing.is_target_by_some.Given as goal

-- what the declarations so far say
abbrev pub invariant-loop-target : goal.invariant-loop-target
invariant-loop-target g l = record {
  decided : Declared (g.R.Triples.triples l.graph) l.words l.declared l.shape
      (AtNode l.node (λ terms. IsDecidedBySome terms (g.R.Triples.triples l.graph) (take l.target-index l.declared) l.shape l.node l.answer l.fn.footprint l.footprint));
  kept : Keeps l.fn.footprint l.footprint;
}
