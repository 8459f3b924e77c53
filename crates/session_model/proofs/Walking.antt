-- How the commands of sessions are walked through the store.
use Rattle.std.proofs.Common.{◌≡◌, ℕ, ◌+◌, ◌-◌, ◌≤◌, Bool, true, false, nat_eq, nat_lt, List, [], ◌∷◌, ◌++◌, length, map, set, get_or, Option, Some, None, refl, sym, ap, ◌∙◌, subst, arith, inl, inr}
use Rattle.std.specs.Prelude.{MatchBool}
use Rattle.std.proofs.lemmas.Bool.Decides.{nat_tests}
use Rattle.store_model.specs.declared.event.Limits.{Limits}
use Rattle.store_model.specs.declared.event.Action.{Action}
use Rattle.store_model.specs.declared.event.Action.TheVariants.{Open, Begin, Name, Head, Commit, Void}
use Rattle.store_model.specs.declared.commit.Transaction.{Transaction}
use Rattle.session_model.specs.declared.command.Command.TheVariants as commands
use Rattle.session_model.specs.declared.command.Command.TheVariants.{Add, BadAdd, Remove, BadRemove, Attach, BadAttach, Shapes, BadShapes, BrokenShapes, RefusedPattern, Find, Select, BadSelect, Report, Abort}
use Rattle.store_model.proofs.Outcomes.{outcome}
use Rattle.store_model.proofs.Steps.{ReplyGivesOneState-holds, StepGivesOneReply-holds}
use Rattle.store_model.specs.declared.event.Reply.{Reply}
use Rattle.store_model.specs.declared.event.Reply.TheVariants.{Done, LogFault}
use Rattle.session_model.specs.declared.command.Command.{Command}
use Rattle.session_model.specs.declared.reply.SessionReply.{SessionReply}
use Rattle.store_model.specs.Logs.{is_fault}
use Rattle.store_model.specs.Store.{State, StepOf, IsOpened, OpensNext, OpensNothing, AcceptsOrFails}
use Rattle.session_model.specs.Sessions.{OpenTransaction, SessionState, World, LocalAnswer, answers, local_answer, up_to_event, up_to_event_by, action_of, commit_action, after_reply, GoesOn, no_session, session_at, world, RunsOpening, RunsEvent, RunsPlace, RunsInOrder, is_first, behind_first, start, HasReplies}

pub RunsInOrder-append : (l : Limits) (m k n : World) (a b : List ℕ) → RunsInOrder l m a None k → RunsInOrder l k b None n → RunsInOrder l m (a ++ b) None n
RunsInOrder-append l m k n [] b p q = subst (λ (x : World). RunsInOrder l x b None n) p q
RunsInOrder-append l m k n (i ∷ a) b p q = (p.0, p.1, RunsInOrder-append l p.0 k n a b p.2 q)

pub get-middle : {X : Type 0} (before rest : List X) (x d : X) → get_or (before ++ x ∷ rest) (length before) d ≡ x
get-middle [] rest x d = refl
get-middle (y ∷ ys) rest x d = get-middle ys rest x d

pub set-middle : {X : Type 0} (before rest : List X) (x y : X) → set (before ++ x ∷ rest) (length before) y ≡ before ++ y ∷ rest
set-middle [] rest x y = refl
set-middle (z ∷ zs) rest x y = ap (λ ws. z ∷ ws) (set-middle zs rest x y)

-- a command that is no event
pub up_to_event-local : (w v : Option OpenTransaction) (c : Command) (cs : List Command) (replies : List SessionReply) (t : SessionReply) → local_answer w c ≡ answers t v → up_to_event w (c ∷ cs) replies ≡ up_to_event v cs (replies ++ t ∷ [])
up_to_event-local w v c cs replies t e = ap (λ (s : Option LocalAnswer). up_to_event_by s (record { current = w; commands = c ∷ cs; replies = replies }) (λ u ts. up_to_event u cs ts)) e

pub up_to_event-event : (w : Option OpenTransaction) (c : Command) (cs : List Command) (replies : List SessionReply) → local_answer w c ≡ None → up_to_event w (c ∷ cs) replies ≡ record { current = w; commands = c ∷ cs; replies = replies }
up_to_event-event w c cs replies e = ap (λ (s : Option LocalAnswer). up_to_event_by s (record { current = w; commands = c ∷ cs; replies = replies }) (λ u ts. up_to_event u cs ts)) e

-- one event
pub turn : (l : Limits) (s t : State) (i : ℕ) (w : Option OpenTransaction) (c : Command) (cs : List Command) (replies : List SessionReply) (a : Action) (r : Reply) (q : SessionState) (before rest : List SessionState) → IsOpened s i → i ≡ length before + 1 → GoesOn s w c cs replies a r q → StepOf l s i a r t
    → RunsPlace l (world s (before ++ record { current = w; commands = c ∷ cs; replies = replies } ∷ rest)) i (is_fault r) (world t (before ++ q ∷ rest))
turn l s t i w c cs replies a r q before rest g e on h =
    let p : SessionState = record { current = w; commands = c ∷ cs; replies = replies } in
    let m : World = world s (before ++ p ∷ rest) in
    let n : World = world t (before ++ q ∷ rest) in
    let le : i ≤ s.opened = g.1 in
    let none : nat_eq i (s.opened + 1) ≡ false = grind (arith, nat_tests) in
    let at : i - 1 ≡ length before = omega (arith, e) in
    let mine : session_at m i ≡ p = ap (λ (k : ℕ). get_or (before ++ p ∷ rest) k no_session) at ∙ get-middle before rest p no_session in
    let put : set (before ++ p ∷ rest) (i - 1) q ≡ before ++ q ∷ rest = ap (λ (k : ℕ). set (before ++ p ∷ rest) k q) at ∙ set-middle before rest p q in
    let by : RunsEvent l m i (is_fault r) p.current p.commands p.replies n = (a, r, t, q, on, h, ap (world t) (sym put), refl) in
    subst (λ (b : Bool). MatchBool b (RunsOpening l m i (is_fault r) n) (RunsEvent l m i (is_fault r) (session_at m i).current (session_at m i).commands (session_at m i).replies n)) (sym none)
    (subst (λ (x : SessionState). RunsEvent l m i (is_fault r) x.current x.commands x.replies n) (sym mine) by)

-- only an opening gives out a session
abbrev pub is_open : Action → Bool
is_open Open = true
is_open Begin = false
is_open (Name kind ts) = false
is_open Head = false
is_open (Commit x) = false
is_open Void = false

open_itself : (a : Action) → a ≡ Open → is_open a ≡ false → ⊥
open_itself a e n = let h : is_open Open ≡ false = sym (ap is_open e) ∙ n in cc

pub opened_same : (l : Limits) (s t : State) (i : ℕ) (a : Action) (r : Reply) → is_open a ≡ false → StepOf l s i a r t → t.opened ≡ s.opened
opened_same l s t i a r n h = elim (outcome l s t i a r h) [
  | inl e ↦ ap (λ (x : State). x.opened) e.state
  | inr (inl e) ↦ absurd (open_itself a e.action n)
  | inr (inr (inl e)) ↦ ap (λ (x : State). x.opened) e.state
  | inr (inr (inr (inl e))) ↦ ap (λ (x : State). x.opened) e.state
  | inr (inr (inr (inr e))) ↦ ap (λ (x : State). x.opened) e.state
]

not_open : (b : Bool) (x : Transaction) → is_open (commit_action b x) ≡ false
not_open true x = refl
not_open false x = refl

abbrev opens : Option Action → Bool
opens None = false
opens (Some a) = is_open a

opens_not : (w : Option OpenTransaction) (c : Command) → opens (action_of w c) ≡ false
opens_not None commands.Begin = refl
opens_not (Some w) commands.Begin = refl
opens_not None (BadAdd n kind) = refl
opens_not (Some w) (BadAdd n kind) = refl
opens_not None (Add ts) = refl
opens_not (Some w) (Add ts) = refl
opens_not None (Remove ts) = refl
opens_not (Some w) (Remove ts) = refl
opens_not None (BadRemove n kind) = refl
opens_not (Some w) (BadRemove n kind) = refl
opens_not None (Attach ts) = refl
opens_not (Some w) (Attach ts) = refl
opens_not None (BadAttach n kind) = refl
opens_not (Some w) (BadAttach n kind) = refl
opens_not None (Shapes ts) = refl
opens_not (Some w) (Shapes ts) = refl
opens_not None (BadShapes n kind) = refl
opens_not (Some w) (BadShapes n kind) = refl
opens_not None (BrokenShapes rule node) = refl
opens_not (Some w) (BrokenShapes rule node) = refl
opens_not None (RefusedPattern node) = refl
opens_not (Some w) (RefusedPattern node) = refl
opens_not None commands.Commit = refl
opens_not (Some w) commands.Commit = not_open w.head_taken w.transaction
opens_not None (Find p) = refl
opens_not (Some w) (Find p) = refl
opens_not None (Select ps) = refl
opens_not (Some w) (Select ps) = refl
opens_not None (BadSelect n) = refl
opens_not (Some w) (BadSelect n) = refl
opens_not None Report = refl
opens_not (Some w) Report = refl
opens_not None Abort = refl
opens_not (Some w) Abort = refl

-- no command of a session is an opening
pub never_open : (w : Option OpenTransaction) (c : Command) (a : Action) → action_of w c ≡ Some a → is_open a ≡ false
never_open w c a e = ap opens (sym e) ∙ opens_not w c

abbrev is_void : Option Action → Bool
is_void None = false
is_void (Some Void) = true
is_void (Some a) = false

commit_not_void : (b : Bool) (x : Transaction) → is_void (Some (commit_action b x)) ≡ false
commit_not_void true x = refl
commit_not_void false x = refl

voids_not : (w : Option OpenTransaction) (c : Command) → is_void (action_of w c) ≡ false
voids_not None commands.Begin = refl
voids_not (Some w) commands.Begin = refl
voids_not None (BadAdd n kind) = refl
voids_not (Some w) (BadAdd n kind) = refl
voids_not None (Add ts) = refl
voids_not (Some w) (Add ts) = refl
voids_not None (Remove ts) = refl
voids_not (Some w) (Remove ts) = refl
voids_not None (BadRemove n kind) = refl
voids_not (Some w) (BadRemove n kind) = refl
voids_not None (Attach ts) = refl
voids_not (Some w) (Attach ts) = refl
voids_not None (BadAttach n kind) = refl
voids_not (Some w) (BadAttach n kind) = refl
voids_not None (Shapes ts) = refl
voids_not (Some w) (Shapes ts) = refl
voids_not None (BadShapes n kind) = refl
voids_not (Some w) (BadShapes n kind) = refl
voids_not None (BrokenShapes rule node) = refl
voids_not (Some w) (BrokenShapes rule node) = refl
voids_not None (RefusedPattern node) = refl
voids_not (Some w) (RefusedPattern node) = refl
voids_not None commands.Commit = refl
voids_not (Some w) commands.Commit = commit_not_void w.head_taken w.transaction
voids_not None (Find p) = refl
voids_not (Some w) (Find p) = refl
voids_not None (Select ps) = refl
voids_not (Some w) (Select ps) = refl
voids_not None (BadSelect n) = refl
voids_not (Some w) (BadSelect n) = refl
voids_not None Report = refl
voids_not (Some w) Report = refl
voids_not None Abort = refl
voids_not (Some w) Abort = refl

never_void : (w : Option OpenTransaction) (c : Command) → action_of w c ≡ Some Void → ⊥
never_void w c e = let yes : is_void (Some Void) ≡ false = ap is_void (sym e) ∙ voids_not w c in cc

-- nor is its place one of no session
pub under_opened : (l : Limits) (s t : State) (i : ℕ) (w : Option OpenTransaction) (c : Command) (a : Action) (r : Reply) → action_of w c ≡ Some a → StepOf l s i a r t → IsOpened s i
under_opened l s t i w c Open r e h = let no : is_open Open ≡ false = never_open w c Open e in cc
under_opened l s t i w c Begin r e h = h.0
under_opened l s t i w c (Name kind ts) r e h = h.0
under_opened l s t i w c Head r e h = h.0
under_opened l s t i w c (Commit x) r e h = h.0
under_opened l s t i w c Void r e h = absurd (never_void w c e)

-- an order tells one thing only
some_same : {X : Type 0} (x y : X) → Some x ≡ Some y → x ≡ y
some_same x y e = cc

-- two replies that are a fault of the log alike are no fault and an acceptance
not_apart : (b : Bool) → true ≡ b → false ≡ b → ⊥
not_apart true h k = cc
not_apart false h k = cc

alike_fails : (fails : Bool) (a b : Reply) → is_fault a ≡ fails → is_fault b ≡ fails → AcceptsOrFails a b → ⊥
alike_fails fails (Done n why) LogFault e f h = not_apart fails f e
alike_fails fails LogFault (Done n why) e f h = not_apart fails e f
alike_fails fails a b e f h = absurd h

-- so a session has one reply to its next command
one_reply : (l : Limits) (s t u : State) (i : ℕ) (a : Action) (r r' : Reply) (fails : Bool) → is_fault r ≡ fails → is_fault r' ≡ fails → StepOf l s i a r t → StepOf l s i a r' u → (r' ≡ r) × (u ≡ t)
one_reply l s t u i a r r' fails e f h k = elim (StepGivesOneReply-holds l s t u i a r r' h k) [
  | inl same ↦ (same, ReplyGivesOneState-holds l s t u i a r h (subst (λ (x : Reply). StepOf l s i a x u) same k))
  | inr apart ↦ absurd (alike_fails fails r r' e f apart)
]

turn_one : (l : Limits) (m n o : World) (i : ℕ) (fails : Bool) (w : Option OpenTransaction) (cs : List Command) (replies : List SessionReply) → RunsEvent l m i fails w cs replies n → RunsEvent l m i fails w cs replies o → o ≡ n
turn_one l m n o i fails w [] replies h k = absurd h
turn_one l m n o i fails w (c ∷ cs) replies h k =
    let action : k.0 ≡ h.0 = some_same k.0 h.0 (sym k.4.event ∙ h.4.event) in
    let e = one_reply l m.state h.2 k.2 i h.0 h.1 k.1 fails h.7 k.7 h.5 (subst (λ (a : Action). StepOf l m.state i a k.1 k.2) action k.5) in
    let next : k.3 ≡ h.3 = some_same k.3 h.3 (sym k.4.next ∙ (ap (after_reply m.state w c cs replies) e.0 ∙ h.4.next)) in
    k.6 ∙ (ap (λ (q : SessionState). record { state = k.2; sessions = set m.sessions (i - 1) q }) next ∙ (ap (λ (s : State). record { state = s; sessions = set m.sessions (i - 1) h.3 }) e.1 ∙ sym h.6))

-- an opening is answered by the number of sessions
opening_by : (s t u : State) (i : ℕ) (q r : Reply) (b : Bool) → MatchBool b (OpensNext s i q t) (OpensNothing s i q t) → MatchBool b (OpensNext s i r u) (OpensNothing s i r u) → u ≡ t
opening_by s t u i q r true h k = k.1.1 ∙ sym h.1.1
opening_by s t u i q r false h k = k.1.1 ∙ sym h.1.1

place_one : (l : Limits) (m n o : World) (i : ℕ) (fails b : Bool) → MatchBool b (RunsOpening l m i fails n) (RunsEvent l m i fails (session_at m i).current (session_at m i).commands (session_at m i).replies n)
    → MatchBool b (RunsOpening l m i fails o) (RunsEvent l m i fails (session_at m i).current (session_at m i).commands (session_at m i).replies o) → o ≡ n
place_one l m n o i fails true h k =
    let e = opening_by m.state h.1.1 k.1.1 i h.1.0 k.1.0 (nat_lt m.state.opened 64) h.1.2 k.1.2 in
    k.1.3 ∙ (ap (λ (s : State). record { state = s; sessions = m.sessions }) e ∙ sym h.1.3)
place_one l m n o i fails false h k = turn_one l m n o i fails (session_at m i).current (session_at m i).commands (session_at m i).replies h k

pub RunsInOrder-deterministic : (l : Limits) (m n o : World) (order : List ℕ) (fault : Option ℕ) → RunsInOrder l m order fault n → RunsInOrder l m order fault o → o ≡ n
RunsInOrder-deterministic l m n o [] None h k = k ∙ sym h
RunsInOrder-deterministic l m n o [] (Some j) h k = absurd h
RunsInOrder-deterministic l m n o (i ∷ order) fault h k =
    let e = place_one l m h.0 k.0 i (is_first fault) (nat_eq i (m.state.opened + 1)) h.1 k.1 in
    RunsInOrder-deterministic l h.0 n o order (behind_first fault) h.2 (subst (λ (x : World). RunsInOrder l x order (behind_first fault) o) e k.2)

pub HasReplies-deterministic : (files : List (List Command)) (l : Limits) (s : State) (order : List ℕ) (fault : Option ℕ) (a b : List (List SessionReply)) → HasReplies files l s order fault a → HasReplies files l s order fault b → b ≡ a
HasReplies-deterministic files l s order fault a b h k = k.replies ∙ (ap (λ (m : World). map (λ p. p.replies) m.sessions) (RunsInOrder-deterministic l (start s files) h.last k.last order fault h.runs k.runs) ∙ sym h.replies)
