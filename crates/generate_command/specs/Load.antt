-- What a generated load gives that is run.
use Rattle.std.specs.Prelude.{◌≡◌, ℕ, ◌+◌, List, [], ◌∷◌, ◌++◌, None, codes, length}
use Rattle.std.specs.Fmt.{decimal}
use Rattle.outside.specs.Faults.{Refusal}
use Rattle.store_model.specs.declared.event.BlockMode.TheVariants.{All}
use Rattle.store_model.specs.declared.event.Limits.{Limits}
use Rattle.store_model.specs.Store.{empty_store}
use Rattle.session_model.specs.declared.command.Command.{Command}
use Rattle.session_model.specs.declared.reply.SessionReply.{SessionReply}
use Rattle.session_model.specs.Print.{line}
use Rattle.session_model.specs.Sessions.{HasReplies}
use Rattle.session_reader.specs.SessionFile.{IsSession}
use Rattle.load_maker.specs.Workload.{workload}
use Rattle.generate_command.specs.Counts.{count_replies, is_commit, is_refusal}

-- The commands of the sessions from number k on, of a load of the numbers from 1 to n; each goes on from the patterns that
-- were refused so far.
abbrev pub AreSessions : ℕ → ℕ → List (List Command) → List Refusal → List Refusal → Type 0
AreSessions n k [] old new = new ≡ old
AreSessions n k (commands ∷ all) old new = (mid : List Refusal) × IsSession k 1 (workload n k) commands old mid × AreSessions n (k + 1) all mid new

-- as an option that isn't given has them
abbrev pub load_limits : Limits
load_limits = record { terms = 1000000; triples = 1000000; mode = All }

-- the number of the load, the counts of the replies of two kinds, and the size of the data graph at the end
abbrev pub load_text : ℕ → List (List SessionReply) → ℕ → List ℕ
load_text n all triples =
    line (codes "generate " ++ decimal n) ++ line (codes "commits " ++ decimal (count_replies is_commit all)) ++ line (codes "refused " ++ decimal (count_replies is_refusal all)) ++ line (codes "triples " ++ decimal triples)

-- The text counts the replies of a run of the four sessions of the load in an order that is valid for them, and the triples
-- of the data graph at its end. The patterns that were refused are old before, and new after.
pub record IsLoad (n : ℕ) (old new : List Refusal) (text : List ℕ) : Type 0 where
  pub all : List (List Command)
  pub order : List ℕ
  pub replies : List (List SessionReply)
  pub four : length all ≡ 4
  pub sessions : AreSessions n 1 all old new
  pub run : HasReplies all load_limits empty_store order None replies
  pub printed : text ≡ load_text n replies (length run.last.state.graph)
