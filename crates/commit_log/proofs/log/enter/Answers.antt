use Rattle.std.proofs.Common.{inl}
use Rattle.disk.proofs.Moments.{weaker}
use Rattle.commit_log.proofs.Puts.{entered, second_begun}
use Rattle.commit_log.proofs.log.enter.Goals as goal

pub returns-in_err-put-clause-crash : goal.returns-in_err-put-clause-crash
returns-in_err-put-clause-crash g c tells durable = weaker _ _ (λ image p. inl p) _ _ (c.put.ensures.crash tells durable)

pub returns-in_err-put-2-clause-crash : goal.returns-in_err-put-2-clause-crash
returns-in_err-put-2-clause-crash g c tells durable =
    entered _ _ _ _ _ _ _ (c.put.ensures.crash tells durable) (c.in_ok-put.ensures.bytes tells) (c.put-2.ensures.crash tells (c.in_ok-put.ensures.durable tells))

pub returns-clause-crash : goal.returns-clause-crash
returns-clause-crash g c tells durable =
    entered _ _ _ _ _ _ _ (c.put.ensures.crash tells durable) (c.in_ok-put.ensures.bytes tells) (c.put-2.ensures.crash tells (c.in_ok-put.ensures.durable tells))

pub returns-in_err-put-clause-left : goal.returns-in_err-put-clause-left
returns-in_err-put-clause-left g c tells = inl (c.put.ensures.left tells)

pub returns-in_err-put-2-clause-left : goal.returns-in_err-put-2-clause-left
returns-in_err-put-2-clause-left g c tells = second_begun _ _ _ _ _ (c.in_ok-put.ensures.bytes tells) (c.put-2.ensures.left tells)

pub returns-clause-left : goal.returns-clause-left
returns-clause-left g c tells = second_begun _ _ _ _ _ (c.in_ok-put.ensures.bytes tells) (c.put-2.ensures.left tells)
