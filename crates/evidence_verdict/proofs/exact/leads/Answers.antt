use Rattle.std.proofs.Common.{◌<◌, length, arith}
use Rattle.evidence_verdict.proofs.Searching.{lead_yes}
use Rattle.evidence_verdict.proofs.exact.leads.Goals as goal

pub returns-in-len1-up-clause-yes : goal.returns-in-len1-up-clause-yes
returns-in-len1-up-clause-yes c =
    let some : 0 < length c.args.others.now = omega (arith, c.in-len1-up.len_at_least) in
    λ yes. lead_yes c.args.first.now c.args.others.now c.second-item.result c.is_before.result some c.second-item.is c.is_before.ensures yes
