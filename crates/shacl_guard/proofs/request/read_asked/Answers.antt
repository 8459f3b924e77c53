use Rattle.std.proofs.Common.{map}
use Rattle.shacl_guard.proofs.Bounds.{asked}
use Rattle.shacl_guard.proofs.request.read_asked.Goals as goal

pub returns-in-Ok : goal.returns-in-Ok
returns-in-Ok c = asked (map (λ w. w.now) c.args.words.now) c.in-Ok.call c.asked_in.result c.in-Ok.ensures c.asked_in.ensures
