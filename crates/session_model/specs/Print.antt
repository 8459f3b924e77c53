-- What a run of session files prints.
use Rattle.std.specs.Prelude.{◌≡◌, ℕ, ◌+◌, List, [], ◌∷◌, ◌++◌, Option, Some, None, codes}
use Rattle.std.specs.List.{flat_map}
use Rattle.std.specs.Fmt.{decimal}
use Rattle.rdf_model.specs.NTriples.{term_text, triple_text}
use Rattle.store_model.specs.declared.event.Limits.{Limits}
use Rattle.store_model.specs.Store.{State}
use Rattle.session_model.specs.declared.command.Command.{Command}
use Rattle.session_model.specs.declared.reply.SessionReply.{SessionReply}
use Rattle.session_model.specs.declared.reply.SessionReply.TheVariants.{AlreadyOpen, NoTransaction, Begun, Added, AddRefused, Removed, RemoveRefused, Attached, AttachRefused, UnknownNode, ShapesStaged, ShapesRefused, ShapesBroken, PatternRefused, FullTerms, Committed, ReadOnly, Overtaken, FullGraph, Refused, Found, Selected, SelectFull, SelectRefused, Reported, Aborted, LogFailed, Stopped}
use Rattle.session_model.specs.Reports.{IsReportText}
use Rattle.session_model.specs.Sessions.{HasReplies}

-- the line of a reply, without its end; the report of a refusal has lines of its own, and `end` after them; the triples
-- of a find and the bindings of a select have a line each
abbrev pub reply_text : SessionReply → List ℕ
reply_text AlreadyOpen = codes "already open"
reply_text NoTransaction = codes "no transaction"
reply_text (Begun version) = codes "begin " ++ decimal version
reply_text (Added count) = codes "add " ++ decimal count
reply_text (AddRefused n kind) = codes "bad add " ++ decimal n ++ codes " " ++ decimal kind
reply_text (Removed count) = codes "remove " ++ decimal count
reply_text (RemoveRefused n kind) = codes "bad remove " ++ decimal n ++ codes " " ++ decimal kind
reply_text (Attached count) = codes "attach " ++ decimal count
reply_text (AttachRefused n kind) = codes "bad attach " ++ decimal n ++ codes " " ++ decimal kind
reply_text (UnknownNode node) = codes "unknown " ++ term_text node
reply_text (ShapesStaged count) = codes "shapes " ++ decimal count
reply_text (ShapesRefused n kind) = codes "bad shapes line " ++ decimal n ++ codes " " ++ decimal kind
reply_text (ShapesBroken rule node) = codes "bad shapes " ++ decimal rule ++ codes " " ++ term_text node
reply_text (PatternRefused node) = codes "bad shapes pattern " ++ term_text node
reply_text FullTerms = codes "full terms"
reply_text (Committed number) = codes "commit " ++ decimal number
reply_text (ReadOnly version) = codes "read only " ++ decimal version
reply_text (Overtaken commit triple) = codes "conflict " ++ decimal commit ++ codes " " ++ triple_text triple
reply_text FullGraph = codes "full triples"
reply_text (Refused count report) = codes "refused " ++ decimal count ++ codes "\n" ++ report ++ codes "end"
reply_text (Found count lines) = codes "find " ++ decimal count ++ lines
reply_text (Selected count lines) = codes "select " ++ decimal count ++ lines
reply_text SelectFull = codes "select full"
reply_text (SelectRefused n) = codes "bad select " ++ decimal n
reply_text (Reported r) = codes "report"
reply_text Aborted = codes "abort"
reply_text LogFailed = codes "log fault"
reply_text (Stopped version) = codes "stopped " ++ decimal version

abbrev pub line : List ℕ → List ℕ
line text = text ++ 10 ∷ []

-- what a reply shows by itself; a report does by its results
abbrev pub shown : SessionReply → Option (List ℕ)
shown (Reported r) = None
shown r = Some (reply_text r)

abbrev pub IsReplyText : SessionReply → List ℕ → Type 0
IsReplyText (Reported r) text = IsReportText r text
IsReplyText r text = text ≡ reply_text r

-- a line for each reply
abbrev pub AreReplyLines : List SessionReply → List ℕ → Type 0
AreReplyLines [] text = text ≡ []
AreReplyLines (r ∷ rs) text = (one : List ℕ) × (rest : List ℕ) × IsReplyText r one × AreReplyLines rs rest × (text ≡ line one ++ rest)

-- `session I` and the lines of its replies, for the sessions from number i on
abbrev pub AreSessionLines : ℕ → List (List SessionReply) → List ℕ → Type 0
AreSessionLines i [] text = text ≡ []
AreSessionLines i (replies ∷ more) text = (lines : List ℕ) × (rest : List ℕ) × AreReplyLines replies lines × AreSessionLines (i + 1) more rest × (text ≡ line (codes "session " ++ decimal i) ++ (lines ++ rest))

-- `history`, and the session of each event after a space
abbrev pub history_text : List ℕ → List ℕ
history_text order = line (codes "history" ++ flat_map (λ i. 32 ∷ decimal i) order)

-- the text of sessions that were answered so, in this order
abbrev pub IsRunText : List (List SessionReply) → List ℕ → List ℕ → Type 0
IsRunText replies order text = (sessions : List ℕ) × AreSessionLines 1 replies sessions × (text ≡ sessions ++ history_text order)

-- Print: the text of a run of these files over a store that begins in state s, in this order, which is valid, where the log
-- fails at this place of it, if it does.
abbrev pub IsPrint : List (List Command) → Limits → State → List ℕ → Option ℕ → List ℕ → Type 0
IsPrint files limits s order fault text =
    (replies : List (List SessionReply)) × HasReplies files limits s order fault replies × IsRunText replies order text
