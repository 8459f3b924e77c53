-- Kept events that are taken apart, the newest first.
use Rattle.std.proofs.Common.{List, [], ◌∷◌, ◌++◌, Option, Some, None}
use Rattle.event_history.specs.declared.kept.KeptEvent.{KeptEvent}

-- the newest event and those before it, in order
abbrev pub left : Option (KeptEvent × List KeptEvent) → List KeptEvent
left None = []
left (Some p) = p.1 ++ p.0 ∷ []
