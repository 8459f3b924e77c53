use Rattle.std.proofs.Common.{inl, inr}
use Rattle.shape_syntax.proofs.PathSteps.{may_among}
use Rattle.shape_syntax.proofs.paths.push_claims.Goals as goal

pub returns-in_ok-push_cell_claims-in-Some-clause-new : goal.returns-in_ok-push_cell_claims-in-Some-clause-new
returns-in_ok-push_cell_claims-in-Some-clause-new c = may_among c.args.graph.now c.args.node.now c.push_cell_claims.new.claims
    (λ cell. c.in_ok-push_cell_claims-in-Some.ensures.list) (λ blank may. c.in_ok-push_cell_claims-in-Some.ensures.path blank)

pub returns-in_ok-push_other_claim-in-None-clause-new : goal.returns-in_ok-push_other_claim-in-None-clause-new
returns-in_ok-push_other_claim-in-None-clause-new c = may_among c.args.graph.now c.args.node.now c.push_other_claim.new.claims
    (λ cell. absurd (c.in-None.ensures cell.0 cell.1 cell.2))
    (λ blank may. elim may [
      | inl cell ↦ absurd (c.in-None.ensures cell.0 cell.1 cell.2)
      | inr one ↦ c.in_ok-push_other_claim-in-None.ensures.path blank one
    ])
