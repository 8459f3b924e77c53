-- Files, an order, the place of a log's fault and the state that a store begins in have one run at most.
use Rattle.std.specs.Prelude.{◌≡◌, ℕ, List, Option}
use Rattle.store_model.specs.declared.event.Limits.{Limits}
use Rattle.store_model.specs.Store.{State}
use Rattle.session_model.specs.declared.command.Command.{Command}
use Rattle.session_model.specs.declared.reply.SessionReply.{SessionReply}
use Rattle.session_model.specs.Sessions.{HasReplies}

abbrev pub OrderGivesOneRun : Type 0
OrderGivesOneRun = (files : List (List Command)) (l : Limits) (s : State) (order : List ℕ) (fault : Option ℕ) (a b : List (List SessionReply)) → HasReplies files l s order fault a → HasReplies files l s order fault b → b ≡ a
