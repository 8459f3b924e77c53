use Rattle.std.proofs.Common.{[], refl, arith}
use Rattle.commit_log.specs.Format.{Opens}
use Rattle.commit_log.proofs.Logs.{durable_stays}
use Rattle.commit_log.proofs.log.create.Goals as goal

pub invariant_of-result : goal.invariant_of-result
invariant_of-result g c = record {
  bound = omega arith;
  is_settled = λ _ tells. record {
    entries = [];
    opened = tt;
    rest = _;
    whole = c.in-Ok-put.ensures.bytes tells;
    end_is = refl;
    count_is = refl;
    durable = c.in-Ok-put.ensures.durable tells;
  };
}

pub returns-in-Ok-put-clause-crash : goal.returns-in-Ok-put-clause-crash
returns-in-Ok-put-clause-crash g c tells =
    let is : Opens (g.D.Disk.bytes c.put.new.disk) [] = (_, record { numbered = tt; entries = []; opened = tt; texts_are = refl; whole = c.in-Ok-put.ensures.bytes tells }) in
    (durable_stays (λ image. Opens image []) (g.D.Disk.bytes c.put.new.disk) (g.D.Disk.history c.put.new.disk).now (c.in-Ok-put.ensures.durable tells) is, is)
