-- How many replies of a kind the sessions of a run have.
use Rattle.std.specs.Prelude.{ℕ, Bool, true, false, List}
use Rattle.std.specs.List.{count_by, sum_by}
use Rattle.session_model.specs.declared.reply.SessionReply.{SessionReply}
use Rattle.session_model.specs.declared.reply.SessionReply.TheVariants.{Committed, Refused}

-- a transaction was committed
abbrev pub is_commit : SessionReply → Bool
is_commit (Committed number) = true
is_commit _ = false

-- a commit was refused by the shapes
abbrev pub is_refusal : SessionReply → Bool
is_refusal (Refused count report) = true
is_refusal _ = false

-- over all sessions
abbrev pub count_replies : (SessionReply → Bool) → List (List SessionReply) → ℕ
count_replies is_kind all = sum_by (λ replies. count_by is_kind replies) all
