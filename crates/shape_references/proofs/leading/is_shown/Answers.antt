use Rattle.shape_references.proofs.Asked.{shown_by}
use Rattle.shape_references.proofs.leading.is_shown.Goals as goal

pub returns : goal.returns
returns c =
    let same = shown_by c.args.graph.now c.triples_in.result.now c.args.goal.now c.args.known.now.keys c.args.node.now c.triples_in.ensures.members in
    (λ h. same.0 (c.one_leads.ensures.0 h), λ h. c.one_leads.ensures.1 (same.1 h))
