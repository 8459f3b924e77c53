-- A history is valid, or has a first place that isn't.
use Rattle.std.proofs.Common.{◌≡◌, ◌≢◌, ℕ, ◌+◌, ◌<◌, ◌≤◌, Bool, true, false, nat_eq, nat_lt, List, [], ◌∷◌, ◌++◌, length, map, drop, get_or, Option, Some, None, refl, sym, ap, ◌∙◌, subst, arith, ltb-true}
use Rattle.std.specs.Prelude.{MatchBool}
use Rattle.std.specs.List.{AllByRecursion}
use Rattle.std.proofs.lemmas.Bool.Decides.{nat_tests}
use Rattle.store_model.specs.declared.event.Limits.{Limits}
use Rattle.store_model.specs.declared.event.Reply.{Reply}
use Rattle.store_model.specs.Store.{State, IsOpened, OpensNext, OpensNothing}
use Rattle.session_model.specs.declared.command.Command.{Command}
use Rattle.session_model.specs.declared.reply.SessionReply.{SessionReply}
use Rattle.session_model.specs.Sessions.{OpenTransaction, World, IsComplete, session_at, RunsOpening, RunsEvent, RunsPlace, RunsInOrder, HasReplies, start}
use Rattle.session_model.proofs.Walking.{RunsInOrder-deterministic, HasReplies-deterministic, never_open, opened_same, under_opened}
use Rattle.session_player.specs.Histories.{BreaksOff, MayTake}
use Rattle.session_player.specs.Laws.{NeverBoth, ReplaysAgain}

event_left : (l : Limits) (m n : World) (i : ℕ) (w : Option OpenTransaction) (cs : List Command) (replies : List SessionReply) → RunsEvent l m i false w cs replies n → IsOpened m.state i × (cs ≢ [])
event_left l m n i w [] replies h = absurd h
event_left l m n i w (c ∷ cs) replies h = (under_opened l m.state h.2 i w c h.0 h.1 h.4.event h.5, λ e. cc)

place_may : (l : Limits) (m n : World) (i : ℕ) (b : Bool) → MatchBool b (RunsOpening l m i false n) (RunsEvent l m i false (session_at m i).current (session_at m i).commands (session_at m i).replies n) → MatchBool b (i ≤ length m.sessions) ((1 ≤ i) × (i ≤ m.state.opened) × ((session_at m i).commands ≢ []))
place_may l m n i true h = h.0
place_may l m n i false h =
    let e = event_left l m n i (session_at m i).current (session_at m i).commands (session_at m i).replies h in
    let one : 0 < i = e.0.0 in
    (omega (arith, one), e.0.1, e.1)

may_take : (l : Limits) (m n : World) (i : ℕ) → RunsPlace l m i false n → MayTake m i
may_take l m n i h = place_may l m n i (nat_eq i (m.state.opened + 1)) h

-- a place is a session that is opened then, of which there are at most 64
record IsPlace (n : World) (i : ℕ) : Type 0 where
  one : 1 ≤ i
  most : i ≤ 64
  few : n.state.opened ≤ 64

opening_place : (s t : State) (i : ℕ) (r : Reply) (b : Bool) → nat_lt s.opened 64 ≡ b → i ≡ s.opened + 1 → MatchBool b (OpensNext s i r t) (OpensNothing s i r t) → (i ≤ 64) × (t.opened ≤ 64)
opening_place s t i r true e at h =
    let lt : s.opened < 64 = ltb-true s.opened 64 e in
    let up : t.opened ≡ s.opened + 1 = ap (λ (x : State). x.opened) h.1.1 in
    (omega (arith, lt, at), omega (arith, lt, up))
opening_place s t i r false e at h = absurd (let zero : i ≡ 0 = h.0 in omega (arith, zero, at))

event_opened : (l : Limits) (m n : World) (i : ℕ) (w : Option OpenTransaction) (cs : List Command) (replies : List SessionReply) → RunsEvent l m i false w cs replies n → n.state.opened ≡ m.state.opened
event_opened l m n i w [] replies h = absurd h
event_opened l m n i w (c ∷ cs) replies h = ap (λ (x : World). x.state.opened) h.6 ∙ opened_same l m.state h.2 i h.0 h.1 (never_open w c h.0 h.4.event) h.5

place_is : (l : Limits) (m n : World) (i : ℕ) (b : Bool) → nat_eq i (m.state.opened + 1) ≡ b → m.state.opened ≤ 64 → MatchBool b (RunsOpening l m i false n) (RunsEvent l m i false (session_at m i).current (session_at m i).commands (session_at m i).replies n) → IsPlace n i
place_is l m n i true e few h =
    let at : i ≡ m.state.opened + 1 = grind (arith, nat_tests, e) in
    let o = opening_place m.state h.1.1 i h.1.0 (nat_lt m.state.opened 64) refl at h.1.2 in
    let same : n.state.opened ≡ h.1.1.opened = ap (λ (x : World). x.state.opened) h.1.3 in
    record { one = omega (arith, at); most = o.0; few = omega (arith, o.1, same) }
place_is l m n i false e few h =
    let p = event_left l m n i (session_at m i).current (session_at m i).commands (session_at m i).replies h in
    let same = event_opened l m n i (session_at m i).current (session_at m i).commands (session_at m i).replies h in
    let one : 0 < i = p.0.0 in
    let le : i ≤ m.state.opened = p.0.1 in
    record { one = omega (arith, one); most = omega (arith, le, few); few = omega (arith, same, few) }

-- each place of a run is a session, 1 to 64
sessions_of : (l : Limits) (m n : World) (order : List ℕ) → m.state.opened ≤ 64 → RunsInOrder l m order None n → AllByRecursion (λ i. (1 ≤ i) × (i ≤ 64)) order
sessions_of l m n [] few h = tt
sessions_of l m n (i ∷ order) few h =
    let p = place_is l m h.0 i (nat_eq i (m.state.opened + 1)) refl few h.1 in
    ((p.one, p.most), sessions_of l h.0 n order p.few h.2)

pub order_sessions : (files : List (List Command)) (l : Limits) (s : State) (order : List ℕ) (all : List (List SessionReply)) → s.opened ≤ 64 → HasReplies files l s order None all → AllByRecursion (λ i. (1 ≤ i) × (i ≤ 64)) order
order_sessions files l s order all few h = sessions_of l (start s files) h.last order few h.runs

RunsInOrder-split : (l : Limits) (m n : World) (a b : List ℕ) → RunsInOrder l m (a ++ b) None n → (k : World) × RunsInOrder l m a None k × RunsInOrder l k b None n
RunsInOrder-split l m n [] b h = (m, refl, h)
RunsInOrder-split l m n (i ∷ a) b h = let more = RunsInOrder-split l h.0 n a b h.2 in (more.0, (h.0, h.1, more.1), more.2)

number : Option ℕ → ℕ
number None = 0
number (Some i) = i

some_same : (i j : ℕ) → Some i ≡ Some j → i ≡ j
some_same i j e = cc

places_split : (order a : List ℕ) (rest : List (Option ℕ)) → map Some order ≡ map Some a ++ rest → (b : List ℕ) × (order ≡ a ++ b) × (rest ≡ map Some b)
places_split order [] rest e = (order, refl, sym e)
places_split [] (x ∷ a) rest e = cc
places_split (y ∷ order) (x ∷ a) rest e =
    let first : y ≡ x = some_same y x (ap (λ os. get_or os 0 None) e) in
    let more = places_split order a rest (ap (drop 1) e) in
    (more.0, ap (λ z. z ∷ order) first ∙ ap (λ zs. x ∷ zs) more.1, more.2)

goes_on : (l : Limits) (m n : World) (b : List ℕ) → RunsInOrder l m b None n → IsComplete n → BreaksOff m (map Some b) → ⊥
goes_on l m n [] h c off = off (subst IsComplete h c)
goes_on l m n (i ∷ b) h c off = off (may_take l m h.0 i h.1)

pub never_both : NeverBoth
never_both files l s places order all k h bad =
    let cut = places_split order bad.0 bad.1 (sym h.0 ∙ bad.3) in
    let two = RunsInOrder-split l (start s files) h.1.last bad.0 cut.0 (subst (λ (os : List ℕ). RunsInOrder l (start s files) os None h.1.last) cut.1 h.1.runs) in
    let same : two.0 ≡ bad.2 = RunsInOrder-deterministic l (start s files) bad.2 two.0 bad.0 None bad.4 two.1 in
    goes_on l bad.2 h.1.last cut.0 (subst (λ (m : World). RunsInOrder l m cut.0 None h.1.last) same two.2) h.1.complete (subst (BreaksOff bad.2) cut.2 bad.5)

same_order : (a b : List ℕ) → map Some a ≡ map Some b → b ≡ a
same_order [] [] e = refl
same_order [] (y ∷ b) e = cc
same_order (x ∷ a) [] e = cc
same_order (x ∷ a) (y ∷ b) e =
    let first : x ≡ y = some_same x y (ap (λ os. get_or os 0 None) e) in
    sym (ap (λ z. z ∷ a) first ∙ ap (λ zs. y ∷ zs) (sym (same_order a b (ap (drop 1) e))))

pub replays_again : ReplaysAgain
replays_again files l s order again all told h r =
    let e = same_order order again r.0 in
    (e, HasReplies-deterministic files l s order None all told h (subst (λ (os : List ℕ). HasReplies files l s os None told) e r.1))
