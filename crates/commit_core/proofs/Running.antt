-- A store that isn't stopped came so far by replies that need no log.
use Rattle.std.proofs.Common.{◌≡◌, ℕ, ◌+◌, ◌-◌, Bool, true, false, ◌||◌, nat_lt, List, [], ◌∷◌, length, Option, Some, None, refl, sym, ◌∙◌, inl, inr}
use Rattle.std.specs.Prelude.{MatchBool, MatchOption}
use Rattle.rdf_model.specs.declared.term.Term.{Term}
use Rattle.rdf_model.specs.Graphs.{after}
use Rattle.shape_model.specs.declared.result_row.ResultRow.{ResultRow}
use Rattle.store_model.specs.declared.commit.Overtaker.{Overtaker}
use Rattle.store_model.specs.declared.commit.Transaction.{Transaction}
use Rattle.store_model.specs.declared.event.Action.{Action}
use Rattle.store_model.specs.declared.event.Action.TheVariants.{Open, Begin, Name, Head, Commit, Void}
use Rattle.store_model.specs.declared.event.Event.{Event}
use Rattle.store_model.specs.declared.event.Limits.{Limits}
use Rattle.store_model.specs.declared.event.NameKind.{NameKind}
use Rattle.store_model.specs.declared.event.Reply.{Reply}
use Rattle.store_model.specs.declared.event.Reply.TheVariants.{Session, SessionsFull, Version, Named, Unknown, Full, Conflict, FullTriples, Refused, Done, LogFault, Stopped, Nothing}
use Rattle.store_model.specs.Blocking.{has_blocking}
use Rattle.store_model.specs.Logs.{IsUnlogged, HasNoLog, is_fault, has_fault}
use Rattle.store_model.specs.Nodes.{unknown_by}
use Rattle.store_model.specs.Store.{State, Replies, OpensNext, OpensNothing, NamesUnless, AcceptsCommit, CommitsByListing, CommitsWithinLimit, CommitsUnlessOvertaken, StepOf, Replays, again, named_with, overtaker, shapes_under, version}
use Rattle.store_model.proofs.Logs.{FaultsStop-holds}

-- none of these answers says that the store is stopped
opens : (s t : State) (i n : ℕ) (b : Bool) → MatchBool b (OpensNext s i (Stopped n) t) (OpensNothing s i (Stopped n) t) → ⊥
opens s t i n true h = let e : Stopped n ≡ Session (s.opened + 1) = h.1.0 in cc
opens s t i n false h = let e : Stopped n ≡ SessionsFull = h.1.0 in cc

limited : (s m t : State) (count n : ℕ) (b : Bool) → MatchBool b (Replies (Full count) s (Stopped n) t) (Replies Named m (Stopped n) t) → ⊥
limited s m t count n true h = let e : Stopped n ≡ Full count = h.0 in cc
limited s m t count n false h = let e : Stopped n ≡ Named = h.0 in cc

names : (l : Limits) (s t : State) (kind : NameKind) (ts : List Term) (n : ℕ) (nodes : List Term) → NamesUnless nodes l s kind ts (Stopped n) t → ⊥
names l s t kind ts n [] h = limited s _ t (length (named_with s.named ts) - 2) n (nat_lt (l.terms + 2) (length (named_with s.named ts))) h
names l s t kind ts n (node ∷ nodes) h = let e : Stopped n ≡ Unknown node = h.0 in cc

module _ (l : Limits) (s t : State) (x : Transaction) (n : ℕ) where
  accepts : AcceptsCommit s x (Stopped n) t → ⊥
  accepts (inl h) = let e : Stopped n ≡ Done (version s + 1) (again s.commits x.staged x.verdict) = h.0 in cc
  accepts (inr h) = let e : Stopped n ≡ LogFault = h.0 in cc

  rows_by : (rows : List ResultRow) (b : Bool) → MatchBool b (Replies (Refused rows (again s.commits x.staged x.verdict)) s (Stopped n) t) (AcceptsCommit s x (Stopped n) t) → ⊥
  rows_by rows true h = let e : Stopped n ≡ Refused rows (again s.commits x.staged x.verdict) = h.0 in cc
  rows_by rows false h = accepts h

  weighs : (b : Bool) → MatchBool b (Replies (FullTriples (length (after s.graph x.net))) s (Stopped n) t) (CommitsByListing l s x (Stopped n) t) → ⊥
  weighs true h = let e : Stopped n ≡ FullTriples (length (after s.graph x.net)) = h.0 in cc
  weighs false h = rows_by h.0 (has_blocking l.mode (shapes_under s.shapes x.staged) h.0) h.2

  overtakes : (o : Option Overtaker) → MatchOption o (CommitsWithinLimit l s x (Stopped n) t) (λ h. Replies (Conflict h.commit h.triple) s (Stopped n) t) → ⊥
  overtakes None h = weighs (nat_lt l.triples (length (after s.graph x.net))) h
  overtakes (Some y) h = let e : Stopped n ≡ Conflict y.commit y.triple = h.0 in cc

  commits : (b : Bool) → s.stopped ≡ b → MatchBool b (Replies (Stopped (version s)) s (Stopped n) t) (CommitsUnlessOvertaken l s x (Stopped n) t) → s.stopped ≡ true
  commits true e h = e
  commits false e h = absurd (overtakes (overtaker s.commits x.base x.finds) h)

-- only a store that is stopped says so
pub stopped_before : (l : Limits) (s t : State) (i n : ℕ) (a : Action) → StepOf l s i a (Stopped n) t → s.stopped ≡ true
stopped_before l s t i n Open h = absurd (opens s t i n (nat_lt s.opened 64) h)
stopped_before l s t i n Begin h = let e : Stopped n ≡ Version (version s) = h.1.0 in cc
stopped_before l s t i n (Name kind ts) h = absurd (names l s t kind ts n (unknown_by kind s.given ts) h.1)
stopped_before l s t i n Head h = let e : Stopped n ≡ Version (version s) = h.1.0 in cc
stopped_before l s t i n (Commit x) h = commits l s t x n s.stopped refl h.2
stopped_before l s t i n Void h = let e : Stopped n ≡ Nothing = h.1.0 in cc

unlogged_by : (l : Limits) (s t : State) (i : ℕ) (a : Action) (r : Reply) → s.stopped ≡ false → is_fault r ≡ false → StepOf l s i a r t → IsUnlogged r
unlogged_by l s t i a (Session n) on none h = tt
unlogged_by l s t i a SessionsFull on none h = tt
unlogged_by l s t i a (Version n) on none h = tt
unlogged_by l s t i a Named on none h = tt
unlogged_by l s t i a (Unknown node) on none h = tt
unlogged_by l s t i a (Full n) on none h = tt
unlogged_by l s t i a (Conflict n triple) on none h = tt
unlogged_by l s t i a (FullTriples n) on none h = tt
unlogged_by l s t i a (Refused rows why) on none h = tt
unlogged_by l s t i a (Done n why) on none h = tt
unlogged_by l s t i a LogFault on none h = cc
unlogged_by l s t i a (Stopped n) on none h = let e : s.stopped ≡ true = stopped_before l s t i n a h in cc
unlogged_by l s t i a Nothing on none h = tt

first_false : (a b : Bool) → (a || b) ≡ false → a ≡ false
first_false true b e = cc
first_false false b e = refl

second_false : (a b : Bool) → (a || b) ≡ false → b ≡ false
second_false true b e = cc
second_false false b e = e

pub running_unlogged : (l : Limits) (s t : State) (es : List Event) → t.stopped ≡ false → Replays l s es t → HasNoLog es
running_unlogged l s t [] on h = tt
running_unlogged l s t (e ∷ es) on h =
    let later = sym (FaultsStop-holds l h.0 t es h.2) ∙ on in
    let middle = first_false h.0.stopped (has_fault es) later in
    let now = sym (FaultsStop-holds l s h.0 (e ∷ []) (h.0, h.1, refl)) ∙ middle in
    let none = first_false (is_fault e.reply) false (second_false s.stopped (is_fault e.reply || false) now) in
    (unlogged_by l s h.0 e.session e.action e.reply (first_false s.stopped (is_fault e.reply || false) now) none h.1, running_unlogged l h.0 t es on h.2)
