use Rattle.std.proofs.Common.{◌≡◌, ◌+◌, ℕ, Bool, true, false, ap, arith}
use Rattle.std.specs.Prelude.{MatchBool}
use Rattle.store_model.specs.declared.event.Action.TheVariants as actions
use Rattle.store_model.specs.declared.event.Reply.TheVariants.{Session, SessionsFull}
use Rattle.store_model.specs.Store.{IsOpened, OpensNext, OpensNothing, RecordedStore, State, TakesStep}
use Rattle.store_tests.proofs.core_calls.first_session.Goals as goal

opened_by : (s t : State) (i : ℕ) (b : Bool) → MatchBool b (OpensNext s i (Session i) t) (OpensNothing s i (Session i) t) → IsOpened t i
opened_by s t i true h =
    let is = h.0 in
    let up : t.opened ≡ s.opened + 1 = ap (λ (x : State). x.opened) h.1.1 in
    (omega (arith, is), omega (arith, is, up))
opened_by s t i false h = let no : Session i ≡ SessionsFull = h.1.0 in cc

-- the session that a store gave out is opened
opened : (s n : RecordedStore) (i : ℕ) → TakesStep s n (record { session = i; action = actions.Open; reply = Session i }) → IsOpened n.state i
opened s n i h = opened_by s.state n.state i _ h.step

pub returns-in-Ok : goal.returns-in-Ok
returns-in-Ok c = opened _ _ _ c.in-Ok.ensures
