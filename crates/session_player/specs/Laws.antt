-- Laws of histories that are handed in.
use Rattle.std.specs.Prelude.{◌≡◌, ℕ, List, map, Option, Some, None}
use Rattle.store_model.specs.declared.event.Limits.{Limits}
use Rattle.store_model.specs.Store.{State}
use Rattle.session_model.specs.declared.command.Command.{Command}
use Rattle.session_model.specs.declared.reply.SessionReply.{SessionReply}
use Rattle.session_model.specs.Sessions.{HasReplies}
use Rattle.session_player.specs.Histories.{IsFirstBad, IsReplayed}

-- a history that gives a run has no place that isn't valid
abbrev pub NeverBoth : Type 0
NeverBoth = (files : List (List Command)) (l : Limits) (s : State) (places : List (Option ℕ)) (order : List ℕ) (all : List (List SessionReply)) (k : ℕ) → IsReplayed files l s places order all → IsFirstBad files l s places k → ⊥

-- the order of a run, handed in again, gives the same replies in the same order
abbrev pub ReplaysAgain : Type 0
ReplaysAgain = (files : List (List Command)) (l : Limits) (s : State) (order again : List ℕ) (all told : List (List SessionReply)) → HasReplies files l s order None all → IsReplayed files l s (map Some order) again told → (again ≡ order) × (told ≡ all)
