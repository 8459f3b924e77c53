use Rattle.commit_core.proofs.store.Core.replay_commit.Goals as goal

pub returns-in-Refused : goal.returns-in-Refused
returns-in-Refused g c = let refused = rw c.unchecked-checked.ensures at c.in-Refused.ensures.answer in record { reply = _; unlogged = tt; step = refused.0 }
