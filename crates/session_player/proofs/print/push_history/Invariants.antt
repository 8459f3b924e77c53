use Rattle.std.proofs.Common.{◌≡◌, ◌++◌, ◌∷◌, codes, string_bytes, take}
use Rattle.std.specs.List.{flat_map}
use Rattle.std.specs.Fmt.{decimal}
use Rattle.session_player.proofs.print.push_history.Given as goal

abbrev pub invariant-loop-session : goal.invariant-loop-session
invariant-loop-session l = string_bytes l.out ≡ string_bytes l.fn.out ++ (codes "history" ++ flat_map (λ i. 32 ∷ decimal i) (take l.session-index l.order))
