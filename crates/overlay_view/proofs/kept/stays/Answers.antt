use Rattle.std.proofs.Common.{ap}
use Rattle.std.specs.Prelude.{not}
use Rattle.overlay_view.proofs.Lasting.{same_test}
use Rattle.overlay_view.proofs.kept.stays.Goals as goal

pub returns : goal.returns
returns c = ap not (same_test c.contains.result c.args.triple c.args.removed.now c.contains.ensures.0 c.contains.ensures.1)
