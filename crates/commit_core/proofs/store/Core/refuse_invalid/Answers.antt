use Rattle.std.proofs.Common.{◌∙◌}
use Rattle.commit_core.proofs.Consistency.{commit_refused}
use Rattle.commit_core.proofs.store.Core.refuse_invalid.Goals as goal

pub refuse-requires : goal.refuse-requires
refuse-requires c =
    let why = c.requires.reasons in
    let p = c.requires.plan in
    rw (c.into_transaction.ensures, c.into_parts-rows.ensures, c.into_parts-again.ensures) (commit_refused c.args.self.now c.args.session c.args.checked.transaction c.args.refusal c.args.reasons.recorded c.requires.running c.requires.opened c.requires.committable (why.1 ∙ why.0) p.0 p.1)
