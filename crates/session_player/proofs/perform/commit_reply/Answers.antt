use Rattle.session_transaction.specs.Checks.{verdict_of}
use Rattle.session_transaction.proofs.Checking.{committable_kept, pairs_kept}
use Rattle.session_transaction.proofs.Listed.{listed_answer}
use Rattle.session_player.proofs.Playing.{commits_with}
use Rattle.session_player.proofs.perform.commit_reply.Goals as goal

pub commit-requires-clause-committable : goal.commit-requires-clause-committable
commit-requires-clause-committable g c κs within =
    let s = c.args.core.now in
    rw c.into_parts-handed.ensures (committable_kept s.limits s.start s.history c.args.open.transaction c.args.open.checked s.state c.requires.fits c.requires.change c.requires.kept c.recall_consistent.ensures.replays)

pub commit-requires-clause-verdict : goal.commit-requires-clause-verdict
commit-requires-clause-verdict g c κs within =
    let s = c.args.core.now in
    rw c.into_parts-handed.ensures (pairs_kept s.limits s.start s.history c.args.open.transaction.net c.args.open.checked c.requires.kept)

pub reply_of_commit-requires : goal.reply_of_commit-requires
reply_of_commit-requires g c = listed_answer c.args.core.now.state c.into_parts-handed.result.0.transaction c.in-Ok.ensures.answer.reply c.in-Ok.committed c.in-Ok.ensures.answer.told

pub returns-in-Ok : goal.returns-in-Ok
returns-in-Ok g c =
    let x = c.args.open in
    commits_with _ _ _ x.transaction (verdict_of x.checked) _ _ c.in-Ok.committed _ (rw c.into_parts-handed.ensures at c.in-Ok.ensures.answer) c.in-Ok.ensures.no_fault c.reply_of_commit.ensures
