-- Why a history gave no run.
use Rattle.std.specs.Prelude.{ℕ, List, Option}
use Rattle.store_model.specs.declared.event.Limits.{Limits}
use Rattle.store_model.specs.Store.{RecordedStore, State}
use Rattle.session_model.specs.declared.command.Command.{Command}
use Rattle.session_player.specs.declared.replay.HistoryFault.{HistoryFault}
use Rattle.session_player.specs.declared.replay.HistoryFault.TheVariants.{Place, Memory}
use Rattle.session_player.specs.Histories.{IsFirstBad}
use Rattle.session_player.specs.Players.{Player, StopsAt}

abbrev pub RefusesFrom : RecordedStore → List Player → List (Option ℕ) → HistoryFault → Type 0
RefusesFrom s ps places (Place k) = StopsAt s ps places k
RefusesFrom s ps places Memory = Unit {0}

abbrev pub RefusesHistory : List (List Command) → Limits → State → List (Option ℕ) → HistoryFault → Type 0
RefusesHistory files l s places (Place k) = IsFirstBad files l s places k
RefusesHistory files l s places Memory = Unit {0}
