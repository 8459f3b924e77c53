use Rattle.std.proofs.Common.{◌-◌, ◌∙◌, ap, arith, length, length-append}
use Rattle.commit_log.specs.Format.{front}
use Rattle.commit_log.proofs.Steps.{ended, reads_on, refuses}
use Rattle.commit_log.proofs.read.read_log.Goals as goal

pub returns-then-gate-eq0 : goal.returns-then-gate-eq0
returns-then-gate-eq0 c =
    let b = c.loop-rest.invariant in
    let parts = ap length b.whole ∙ length-append (front b.entries) c.loop-rest.rest.now in
    ended c.args.image.now c.loop-rest.rest.now c.loop-rest.records.items b c.in-len1-up.len_at_least (length c.args.image.now - length c.loop-rest.rest.now) c.if-gate-eq0.true (omega (arith, parts))

pub returns-in-Err : goal.returns-in-Err
returns-in-Err c =
    refuses c.args.image.now c.loop-rest.rest.now c.loop-rest.records.items c.loop-rest.invariant c.in-len1-up.len_at_least c.in-Err.fault c.if-gate-eq0.false c.in-Err.ensures

pub loop-rest-preserved : goal.loop-rest-preserved
loop-rest-preserved c =
    reads_on c.args.image.now c.loop-rest.rest.now c.loop-rest.records.items c.loop-rest.invariant c.in-len1-up.len_at_least c.read_next.new.records.items c.in-Ok.next.now c.if-gate-eq0.false c.in-Ok.ensures
