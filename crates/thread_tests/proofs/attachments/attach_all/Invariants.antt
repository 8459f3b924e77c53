use Rattle.guard_store.specs.Callers.{IsSession}
use Rattle.thread_tests.proofs.attachments.attach_all.Given as goal

abbrev pub invariant-loop-row : goal.invariant-loop-row
invariant-loop-row g l = IsSession l.store l.session
