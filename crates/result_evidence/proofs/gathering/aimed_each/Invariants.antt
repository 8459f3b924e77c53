use Rattle.std.proofs.Common.{◌≡◌, map, take}
use Rattle.result_evidence.specs.AimedRows.{aimed_at}
use Rattle.result_evidence.proofs.gathering.aimed_each.Given as goal

abbrev pub invariant-loop-row : goal.invariant-loop-row
invariant-loop-row l = l.found.items ≡ map (aimed_at l.place l.focus l.number) (take l.row-index l.rows)
