use Rattle.session_transaction.proofs.Refusing.{refused_block}
use Rattle.session_threads.proofs.perform.perform.Goals as goal

pub unreachable-requires : goal.unreachable-requires
unreachable-requires g c = c.if-is_refused.ensures (refused_block _ c.in-BadAdd.is)
