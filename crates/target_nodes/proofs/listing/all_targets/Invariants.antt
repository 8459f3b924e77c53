use Rattle.std.proofs.Common.{take}
use Rattle.rdf_model.specs.Numbers.{graph_of, term_at}
use Rattle.target_nodes.specs.Declarations.{IsTargetBySome}
use Rattle.target_nodes.specs.TargetNumbers.{AreMembers, Declared}
use Rattle.target_nodes.proofs.listing.all_targets.Given as goal

-- the targets that the declarations so far give
abbrev pub invariant-loop-target : goal.invariant-loop-target
invariant-loop-target g l = Declared (g.R.Triples.triples l.graph) l.words l.declared l.shape
    (λ terms. AreMembers terms (IsTargetBySome terms (graph_of terms (g.R.Triples.triples l.graph)) (term_at terms l.shape) (take l.target-index l.declared)) l.found.items)
