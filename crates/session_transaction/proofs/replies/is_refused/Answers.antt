use Rattle.session_transaction.proofs.Refusing.{refused_block}
use Rattle.session_transaction.proofs.replies.is_refused.Goals as goal

pub returns-in-BadAdd : goal.returns-in-BadAdd
returns-in-BadAdd c = refused_block _ c.in-BadAdd.is

pub returns-in-BadAdd-2 : goal.returns-in-BadAdd-2
returns-in-BadAdd-2 c = refused_block _ c.in-BadAdd.is

pub returns-in-BadAdd-3 : goal.returns-in-BadAdd-3
returns-in-BadAdd-3 c = refused_block _ c.in-BadAdd.is

pub returns-in-BadAdd-4 : goal.returns-in-BadAdd-4
returns-in-BadAdd-4 c = refused_block _ c.in-BadAdd.is

pub returns-in-BadAdd-5 : goal.returns-in-BadAdd-5
returns-in-BadAdd-5 c = refused_block _ c.in-BadAdd.is

pub returns-in-BadAdd-6 : goal.returns-in-BadAdd-6
returns-in-BadAdd-6 c = refused_block _ c.in-BadAdd.is

pub returns-in-BadAdd-7 : goal.returns-in-BadAdd-7
returns-in-BadAdd-7 c = refused_block _ c.in-BadAdd.is
