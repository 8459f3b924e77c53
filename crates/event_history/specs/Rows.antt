-- Kept events in order, the oldest first.
use Rattle.std.specs.Prelude.{List, [], ◌∷◌, ◌++◌}
use Rattle.event_history.specs.declared.kept.KeptEvent.{KeptEvent}
use Rattle.event_history.specs.declared.row.Link.{Link}
use Rattle.event_history.specs.declared.row.Link.TheVariants.{End, After}

abbrev pub kept_events : Link → List KeptEvent
kept_events End = []
kept_events (After row) = row.value.older ++ row.value.event ∷ []
