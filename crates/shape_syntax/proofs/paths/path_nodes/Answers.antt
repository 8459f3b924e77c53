use Rattle.std.proofs.Common.{subst, sym, List}
use Rattle.std.specs.List.{Contains}
use Rattle.rdf_model.specs.declared.term.Term.{Term}
use Rattle.shape_syntax.specs.PathSteps.{node_of}
use Rattle.shape_syntax.proofs.PathSteps.{may_subject}
use Rattle.shape_syntax.proofs.paths.path_nodes.Goals as goal

pub ask_all-requires-clause-claims : goal.ask_all-requires-clause-claims
ask_all-requires-clause-claims c = λ d may.
    let there = c.in_ok-nodes.ensures (node_of d) (may_subject c.args.graph.now d may) in
    c.in_ok-claims.ensures d (subst (λ (xs : List Term). Contains xs (node_of d)) (sym c.as_slice.ensures) there) may
