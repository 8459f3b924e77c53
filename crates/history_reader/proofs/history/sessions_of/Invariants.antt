use Rattle.std.proofs.Common.{◌≡◌, map, take}
use Rattle.history_reader.specs.History
use Rattle.history_reader.proofs.history.sessions_of.Given as goal

abbrev pub invariant-loop-place : goal.invariant-loop-place
invariant-loop-place l = l.sessions ≡ map History.session_of (map (λ p. p.now) (take l.place-index l.places))
