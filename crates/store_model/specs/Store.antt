-- The plain store: its state, its steps and the histories that they make.
use Rattle.std.specs.Prelude.{◌≡◌, ◌⊎◌, ℕ, ◌+◌, ◌-◌, ◌<◌, ◌≤◌, Bool, true, false, List, [], ◌∷◌, ◌++◌, length, drop, Option, Some, None, map, nat_lt, MatchBool, MatchOption, if◌then◌else◌}
use Rattle.std.specs.List.{AllByRecursion}
use Rattle.rdf_model.specs.declared.term.Term.{Term}
use Rattle.rdf_model.specs.declared.triple.Triple.{Triple}
use Rattle.rdf_model.specs.declared.change.Change.{Change}
use Rattle.rdf_model.specs.declared.change.Change.TheVariants.{Add, Remove}
use Rattle.rdf_model.specs.Terms.{term_cmp}
use Rattle.store_model.specs.declared.event.Limits.{Limits}
use Rattle.store_model.specs.declared.event.NameKind.{NameKind}
use Rattle.rdf_model.specs.declared.pattern.Pattern.{Pattern}
use Rattle.rdf_model.specs.declared.look.Look.{Look}
use Rattle.rdf_model.specs.declared.look.Look.TheVariants.{Out, In, OutAny}
use Rattle.shape_model.specs.declared.result_row.ResultRow.{ResultRow}
use Rattle.store_model.specs.declared.commit.Verdict.{Verdict}
use Rattle.store_model.specs.declared.commit.Transaction.{Transaction}
use Rattle.store_model.specs.declared.commit.Accepted.{Accepted}
use Rattle.store_model.specs.declared.commit.Overtaker.{Overtaker}
use Rattle.store_model.specs.declared.commit.Again.{Again}
use Rattle.store_model.specs.declared.commit.Again.TheVariants.{No, OwnShapes, NoVerdict, ShapesChanged, Touched}
use Rattle.store_model.specs.declared.event.Action.{Action}
use Rattle.store_model.specs.declared.event.Action.TheVariants.{Open, Begin, Name, Head, Commit, Void}
use Rattle.store_model.specs.declared.event.Reply.{Reply}
use Rattle.store_model.specs.declared.event.Reply.TheVariants.{Session, SessionsFull, Version, Named, Unknown, Full, Conflict, FullTriples, Refused, Done, LogFault, Stopped, Nothing}
use Rattle.store_model.specs.declared.event.Event.{Event}
use Rattle.collections.specs.Ordered.{has_item}
use Rattle.rdf_model.specs.Graphs.{after, differing}
use Rattle.rdf_model.specs.Matching.{same_term, is_found, is_read}
use Rattle.shape_model.specs.Validation.{Listing}
use Rattle.shape_model.specs.Vocabulary.{rdf_type, sub_class_of}
use Rattle.store_model.specs.Blocking.{has_blocking}
use Rattle.store_model.specs.Nodes.{given_by, unknown_by}

-- The named terms with more: each new one goes to the end, so that a term's number, its place, never changes.
abbrev pub named_with : List Term → List Term → List Term
named_with named [] = named
named_with named (t ∷ ts) = named_with (if has_item term_cmp t named then named else named ++ t ∷ []) ts

-- a term's number: how many terms were named before it
abbrev pub number_of : List Term → Term → ℕ
number_of [] t = 0
number_of (x ∷ xs) t = if same_term x t then 0 else number_of xs t + 1

abbrev pub numbers_of : List Term → List Term → List ℕ
numbers_of named ts = map (number_of named) ts

abbrev pub terms_of : Triple → List Term
terms_of t = t.subject ∷ t.predicate ∷ t.object ∷ []

abbrev pub changed_triple : Change → Triple
changed_triple (Add t) = t
changed_triple (Remove t) = t

abbrev pub looked_at : Look Term → List Term
looked_at (Out x p) = x ∷ p ∷ []
looked_at (In p x) = p ∷ x ∷ []
looked_at (OutAny x) = x ∷ []

abbrev pub AreNamed : List Term → List Term → Type 0
AreNamed named ts = AllByRecursion (λ t. has_item term_cmp t named ≡ true) ts

-- What the store keeps. `named` begins with rdf:type and rdfs:subClassOf, which the limit doesn't count; `given` is the
-- set of the blank nodes that were given out, ascending; `opened` is the number of sessions given out; a store is stopped
-- once its log failed.
pub record State : Type 0 where
  pub graph : List Triple
  pub shapes : List Triple
  pub commits : List Accepted
  pub named : List Term
  pub given : List Term
  pub opened : ℕ
  pub stopped : Bool

abbrev pub empty_store : State
empty_store = record { graph = []; shapes = []; commits = []; named = rdf_type ∷ sub_class_of ∷ []; given = []; opened = 0; stopped = false }

abbrev pub version : State → ℕ
version s = length s.commits

-- The overtaking commit: the least one after the base that changed a triple which a find asked for, with the
-- first such triple of it.
abbrev pub first_matching : List Pattern → List Triple → Option Triple
first_matching ps [] = None
first_matching ps (t ∷ ts) = if is_found ps t then Some t else first_matching ps ts

abbrev pub overtaker_or : ℕ → Option Triple → Option Overtaker → Option Overtaker
overtaker_or n (Some t) later = Some (record { commit = n; triple = t })
overtaker_or n None later = later

abbrev pub overtaker_from : ℕ → List Pattern → List Accepted → Option Overtaker
overtaker_from n ps [] = None
overtaker_from n ps (a ∷ as') = overtaker_or n (first_matching ps a.changed) (overtaker_from (n + 1) ps as')

abbrev pub overtaker : List Accepted → ℕ → List Pattern → Option Overtaker
overtaker commits base ps = overtaker_from (base + 1) ps (drop base commits)

-- Why a commit evaluates again in its own step: it stages shapes, it has no verdict, or the first commit after
-- its head that staged shapes or changed a triple which the verdict read.
abbrev pub first_read : List (Look Term) → List Triple → Option Triple
first_read ls [] = None
first_read ls (t ∷ ts) = if is_read ls t then Some t else first_read ls ts

abbrev pub touched_or : ℕ → Option Triple → Again → Again
touched_or n (Some t) later = Touched n t
touched_or n None later = later

abbrev pub again_from : ℕ → List (Look Term) → List Accepted → Again
again_from n ls [] = No
again_from n ls (a ∷ as') = if a.staged then ShapesChanged n else touched_or n (first_read ls a.changed) (again_from (n + 1) ls as')

abbrev pub again : List Accepted → Option (List Triple) → Option Verdict → Again
again commits (Some shapes) v = OwnShapes
again commits None None = NoVerdict
again commits None (Some v) = again_from (v.head + 1) v.looks (drop v.head commits)

-- the session was given out
abbrev pub IsOpened : State → ℕ → Type 0
IsOpened s i = (0 < i) × (i ≤ s.opened)

-- What a commit asks of its transaction: it changes something or stages shapes; its base and its head are
-- versions of this store; all terms of its changes, shapes and looks are named.
abbrev pub HasChange : List Change → Option (List Triple) → Type 0
HasChange [] None = ⊥
HasChange [] (Some shapes) = Unit {0}
HasChange (c ∷ cs) staged = Unit {0}

abbrev pub StagedNamed : List Term → Option (List Triple) → Type 0
StagedNamed named None = Unit {0}
StagedNamed named (Some shapes) = AllByRecursion (λ t. AreNamed named (terms_of t)) shapes

abbrev pub VerdictFits : State → Option Verdict → Type 0
VerdictFits s None = Unit {0}
VerdictFits s (Some v) = (v.head ≤ version s) × AllByRecursion (λ l. AreNamed s.named (looked_at l)) v.looks

abbrev pub NetNamed : List Term → List Change → Type 0
NetNamed named net = AllByRecursion (λ c. AreNamed named (terms_of (changed_triple c))) net

pub record IsCommittable (s : State) (x : Transaction) : Type 0 where
  pub base : x.base ≤ version s
  pub change : HasChange x.net x.staged
  pub net : NetNamed s.named x.net
  pub staged : StagedNamed s.named x.staged
  pub verdict : VerdictFits s x.verdict

-- the store answers so, and is so afterwards
abbrev pub Replies : Reply → State → Reply → State → Type 0
Replies reply state r t = (r ≡ reply) × (t ≡ state)

abbrev pub OpensNext : State → ℕ → Reply → State → Type 0
OpensNext s i r t = (i ≡ s.opened + 1) × Replies (Session (s.opened + 1)) (record s { opened = s.opened + 1 }) r t

abbrev pub OpensNothing : State → ℕ → Reply → State → Type 0
OpensNothing s i r t = (i ≡ 0) × Replies SessionsFull s r t

-- the shapes graph under which a transaction is validated, and whether it is a staged one
abbrev pub shapes_under : List Triple → Option (List Triple) → List Triple
shapes_under shapes None = shapes
shapes_under shapes (Some staged) = staged

abbrev pub is_staged : Option (List Triple) → Bool
is_staged None = false
is_staged (Some staged) = true

abbrev pub committed : State → Transaction → State
committed s x = record s {
  graph = after s.graph x.net;
  shapes = shapes_under s.shapes x.staged;
  commits = s.commits ++ record { changed = differing s.graph (after s.graph x.net); staged = is_staged x.staged } ∷ [];
}

-- A commit's answer, from the last case to the first. Where nothing stands against it, it is accepted; or the store's log
-- failed at it, which leaves the store as it was, but stopped.
abbrev pub AcceptsCommit : State → Transaction → Reply → State → Type 0
AcceptsCommit s x r t = Replies (Done (version s + 1) (again s.commits x.staged x.verdict)) (committed s x) r t ⊎ Replies LogFault (record s { stopped = true }) r t

-- by the results of the graph that would be: it is refused, with all of them, where one of them blocks
abbrev pub CommitsByRows : Limits → State → Transaction → List ResultRow → Reply → State → Type 0
CommitsByRows l s x rows r t = MatchBool (has_blocking l.mode (shapes_under s.shapes x.staged) rows) (Replies (Refused rows (again s.commits x.staged x.verdict)) s r t) (AcceptsCommit s x r t)

abbrev pub CommitsByListing : Limits → State → Transaction → Reply → State → Type 0
CommitsByListing l s x r t = (rows : List ResultRow) × Listing (after s.graph x.net) (shapes_under s.shapes x.staged) rows × CommitsByRows l s x rows r t

-- after the test of the graph's size
abbrev pub CommitsWithinLimit : Limits → State → Transaction → Reply → State → Type 0
CommitsWithinLimit l s x r t = MatchBool (nat_lt l.triples (length (after s.graph x.net))) (Replies (FullTriples (length (after s.graph x.net))) s r t) (CommitsByListing l s x r t)

-- after the test for an overtaking commit
abbrev pub CommitsUnlessOvertaken : Limits → State → Transaction → Reply → State → Type 0
CommitsUnlessOvertaken l s x r t = MatchOption (overtaker s.commits x.base x.finds) (CommitsWithinLimit l s x r t) (λ h. Replies (Conflict h.commit h.triple) s r t)

-- a store that is stopped answers nothing else
abbrev pub AnswersCommit : Limits → State → Transaction → Reply → State → Type 0
AnswersCommit l s x r t = MatchBool s.stopped (Replies (Stopped (version s)) s r t) (CommitsUnlessOvertaken l s x r t)

-- the store with more terms named, those of a block of this kind
abbrev pub with_named : State → NameKind → List Term → State
with_named s kind ts = record s { named = named_with s.named ts; given = given_by kind s.given ts }

abbrev pub NamesWithinLimit : Limits → State → NameKind → List Term → Reply → State → Type 0
NamesWithinLimit l s kind ts r t = MatchBool (nat_lt (l.terms + 2) (length (named_with s.named ts))) (Replies (Full (length (named_with s.named ts) - 2)) s r t) (Replies Named (with_named s kind ts) r t)

-- by the nodes for which the block is refused: the first is told
abbrev pub NamesUnless : List Term → Limits → State → NameKind → List Term → Reply → State → Type 0
NamesUnless [] l s kind ts r t = NamesWithinLimit l s kind ts r t
NamesUnless (node ∷ nodes) l s kind ts r t = Replies (Unknown node) s r t

abbrev pub AnswersName : Limits → State → NameKind → List Term → Reply → State → Type 0
AnswersName l s kind ts r t = NamesUnless (unknown_by kind s.given ts) l s kind ts r t

-- From s, the store answers session i's action by r, and is t afterwards.
abbrev pub StepOf : Limits → State → ℕ → Action → Reply → State → Type 0
StepOf l s i Open r t = MatchBool (nat_lt s.opened 64) (OpensNext s i r t) (OpensNothing s i r t)
StepOf l s i Begin r t = IsOpened s i × Replies (Version (version s)) s r t
StepOf l s i (Name kind terms) r t = IsOpened s i × AnswersName l s kind terms r t
StepOf l s i Head r t = IsOpened s i × Replies (Version (version s)) s r t
StepOf l s i (Commit x) r t = IsOpened s i × IsCommittable s x × AnswersCommit l s x r t
StepOf l s i Void r t = (i ≤ s.opened) × Replies Nothing s r t

abbrev pub Step : Limits → State → Event → State → Type 0
Step l s e t = StepOf l s e.session e.action e.reply t

-- Replay: from s, these events are a step each, and lead to t.
abbrev pub Replays : Limits → State → List Event → State → Type 0
Replays l s [] t = t ≡ s
Replays l s (e ∷ es) t = (m : State) × Step l s e m × Replays l m es t

-- a store with its limits, the state that its history begins at, and the history that led from there
pub record RecordedStore : Type 0 where
  pub limits : Limits
  pub start : State
  pub state : State
  pub history : List Event

-- the store took this step, and its history has it last
pub record TakesStep (old new : RecordedStore) (e : Event) : Type 0 where
  pub step : Step old.limits old.state e new.state
  pub limits : new.limits ≡ old.limits
  pub start : new.start ≡ old.start
  pub history : new.history ≡ old.history ++ e ∷ []

-- A law of the store: one state at most follows a reply.
abbrev pub ReplyGivesOneState : Type 0
ReplyGivesOneState = (l : Limits) (s t u : State) (i : ℕ) (a : Action) (r : Reply) → StepOf l s i a r t → StepOf l s i a r u → u ≡ t

-- one of them accepts a commit, and the other says that the log failed at it
abbrev pub AcceptsOrFails : Reply → Reply → Type 0
AcceptsOrFails (Done n why) LogFault = Unit {0}
AcceptsOrFails LogFault (Done n why) = Unit {0}
AcceptsOrFails q r = ⊥

-- A law of the store: an action has one reply at most, but for a log's failure at a commit that is else accepted.
abbrev pub StepGivesOneReply : Type 0
StepGivesOneReply = (l : Limits) (s t u : State) (i : ℕ) (a : Action) (q r : Reply) → StepOf l s i a q t → StepOf l s i a r u → (r ≡ q) ⊎ AcceptsOrFails q r
