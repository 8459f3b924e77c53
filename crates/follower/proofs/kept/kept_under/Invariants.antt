use Rattle.std.proofs.Common.{take}
use Rattle.std.specs.Prelude.{◌≢◌}
use Rattle.std.specs.List.{AllByRecursion}
use Rattle.record_text.specs.declared.record.Record.{Record}
use Rattle.follower.proofs.kept.kept_under.Given as goal

abbrev pub invariant-loop-found : goal.invariant-loop-found
invariant-loop-found l = AllByRecursion (λ (r : Record). r.number ≢ l.number) (take l.found-index l.kept)
