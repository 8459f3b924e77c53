-- What a step leaves, in five cases.
use Rattle.std.proofs.Common.{◌≡◌, ℕ, ◌+◌, ◌-◌, ◌<◌, ◌≤◌, Bool, true, false, nat_lt, List, [], ◌∷◌, length, Option, Some, None, refl, ap, ◌∙◌, arith, inl, inr}
use Rattle.std.specs.Prelude.{MatchBool, MatchOption, ◌⊎◌}
use Rattle.std.proofs.lemmas.Bool.Decides.{nat_tests}
use Rattle.rdf_model.specs.declared.term.Term.{Term}
use Rattle.rdf_model.specs.Graphs.{after}
use Rattle.shape_model.specs.declared.result_row.ResultRow.{ResultRow}
use Rattle.shape_model.specs.Validation.{Listing}
use Rattle.store_model.specs.declared.commit.Overtaker.{Overtaker}
use Rattle.store_model.specs.declared.commit.Transaction.{Transaction}
use Rattle.store_model.specs.declared.event.Action.{Action}
use Rattle.store_model.specs.declared.event.Action.TheVariants.{Open, Begin, Name, Head, Commit, Void}
use Rattle.store_model.specs.declared.event.Limits.{Limits}
use Rattle.store_model.specs.declared.event.NameKind.{NameKind}
use Rattle.store_model.specs.declared.event.Reply.{Reply}
use Rattle.store_model.specs.declared.event.Reply.TheVariants.{Session, SessionsFull, Version, Named, Unknown, Full, Conflict, FullTriples, Refused, Done, LogFault, Stopped, Nothing}
use Rattle.store_model.specs.Blocking.{has_blocking}
use Rattle.store_model.specs.Logs.{is_fault}
use Rattle.store_model.specs.Nodes.{unknown_by}
use Rattle.store_model.specs.Store.{State, version, again, overtaker, named_with, shapes_under, committed, with_named, IsCommittable, Replies, OpensNext, OpensNothing, AcceptsCommit, CommitsByListing, CommitsWithinLimit, CommitsUnlessOvertaken, NamesUnless, StepOf}

-- nothing
pub record Unchanged (s : State) (r : Reply) (t : State) : Type 0 where
  pub state : t ≡ s
  pub reply : is_fault r ≡ false

-- one session more
pub record OpensOne (s : State) (a : Action) (r : Reply) (t : State) : Type 0 where
  pub action : a ≡ Open
  pub reply : r ≡ Session (s.opened + 1)
  pub state : t ≡ record s { opened = s.opened + 1 }
  pub few : s.opened < 64

-- more terms that are named
pub record NamesMore (l : Limits) (s : State) (a : Action) (r : Reply) (t : State) : Type 0 where
  pub kind : NameKind
  pub terms : List Term
  pub action : a ≡ Name kind terms
  pub reply : r ≡ Named
  pub state : t ≡ with_named s kind terms
  pub within : length (named_with s.named terms) ≤ l.terms + 2
  pub known : unknown_by kind s.given terms ≡ []

-- nothing stands against a commit
pub record Passes (l : Limits) (s : State) (x : Transaction) : Type 0 where
  pub fits : IsCommittable s x
  pub running : s.stopped ≡ false
  pub alone : overtaker s.commits x.base x.finds ≡ None
  pub within : length (after s.graph x.net) ≤ l.triples
  pub rows : List ResultRow
  pub listing : Listing (after s.graph x.net) (shapes_under s.shapes x.staged) rows
  pub none : has_blocking l.mode (shapes_under s.shapes x.staged) rows ≡ false

-- one commit more
pub record CommitsOne (l : Limits) (s : State) (a : Action) (r : Reply) (t : State) : Type 0 where
  pub transaction : Transaction
  pub action : a ≡ Commit transaction
  pub passes : Passes l s transaction
  pub reply : r ≡ Done (version s + 1) (again s.commits transaction.staged transaction.verdict)
  pub state : t ≡ committed s transaction

-- the log failed
pub record Stops (l : Limits) (s : State) (a : Action) (r : Reply) (t : State) : Type 0 where
  pub transaction : Transaction
  pub action : a ≡ Commit transaction
  pub passes : Passes l s transaction
  pub reply : r ≡ LogFault
  pub state : t ≡ record s { stopped = true }

abbrev pub Outcome : Limits → State → Action → Reply → State → Type 0
Outcome l s a r t = Unchanged s r t ⊎ (OpensOne s a r t ⊎ (NamesMore l s a r t ⊎ (CommitsOne l s a r t ⊎ Stops l s a r t)))

stays : (l : Limits) (s : State) (a : Action) (p r : Reply) (t : State) → is_fault p ≡ false → Replies p s r t → Outcome l s a r t
stays l s a p r t none h = inl (record { state = h.1; reply = ap is_fault h.0 ∙ none })

opens : (l : Limits) (s t : State) (i : ℕ) (r : Reply) (b : Bool) → nat_lt s.opened 64 ≡ b → MatchBool b (OpensNext s i r t) (OpensNothing s i r t) → Outcome l s Open r t
opens l s t i r true e h =
    let few : s.opened < 64 = grind (arith, nat_tests) in
    inr (inl (record { action = refl; reply = h.1.0; state = h.1.1; few = few }))
opens l s t i r false e h = stays l s Open SessionsFull r t refl h.1

limited : (l : Limits) (s t : State) (kind : NameKind) (ts : List Term) (r : Reply) (b : Bool) → unknown_by kind s.given ts ≡ [] → nat_lt (l.terms + 2) (length (named_with s.named ts)) ≡ b
    → MatchBool b (Replies (Full (length (named_with s.named ts) - 2)) s r t) (Replies Named (with_named s kind ts) r t) → Outcome l s (Name kind ts) r t
limited l s t kind ts r true known e h = stays l s (Name kind ts) (Full (length (named_with s.named ts) - 2)) r t refl h
limited l s t kind ts r false known e h =
    let within : length (named_with s.named ts) ≤ l.terms + 2 = grind (arith, nat_tests) in
    inr (inr (inl (record { kind = kind; terms = ts; action = refl; reply = h.0; state = h.1; within = within; known = known })))

names : (l : Limits) (s t : State) (kind : NameKind) (ts : List Term) (r : Reply) (nodes : List Term) → unknown_by kind s.given ts ≡ nodes → NamesUnless nodes l s kind ts r t → Outcome l s (Name kind ts) r t
names l s t kind ts r [] e h = limited l s t kind ts r (nat_lt (l.terms + 2) (length (named_with s.named ts))) e refl h
names l s t kind ts r (node ∷ nodes) e h = stays l s (Name kind ts) (Unknown node) r t refl h

accepts : (l : Limits) (s t : State) (x : Transaction) (r : Reply) → Passes l s x → AcceptsCommit s x r t → Outcome l s (Commit x) r t
accepts l s t x r p h = elim h [
  | inl a ↦ inr (inr (inr (inl (record { transaction = x; action = refl; passes = p; reply = a.0; state = a.1 }))))
  | inr a ↦ inr (inr (inr (inr (record { transaction = x; action = refl; passes = p; reply = a.0; state = a.1 }))))
]

module _ (l : Limits) (s t : State) (x : Transaction) (r : Reply) (fits : IsCommittable s x) where
  rows_by : (rows : List ResultRow) (b : Bool) → s.stopped ≡ false → overtaker s.commits x.base x.finds ≡ None → length (after s.graph x.net) ≤ l.triples → Listing (after s.graph x.net) (shapes_under s.shapes x.staged) rows
      → has_blocking l.mode (shapes_under s.shapes x.staged) rows ≡ b → MatchBool b (Replies (Refused rows (again s.commits x.staged x.verdict)) s r t) (AcceptsCommit s x r t) → Outcome l s (Commit x) r t
  rows_by rows true running alone within listing e h = stays l s (Commit x) (Refused rows (again s.commits x.staged x.verdict)) r t refl h
  rows_by rows false running alone within listing e h =
      accepts l s t x r (record { fits = fits; running = running; alone = alone; within = within; rows = rows; listing = listing; none = e }) h

  weighs : (b : Bool) → s.stopped ≡ false → overtaker s.commits x.base x.finds ≡ None → nat_lt l.triples (length (after s.graph x.net)) ≡ b
      → MatchBool b (Replies (FullTriples (length (after s.graph x.net))) s r t) (CommitsByListing l s x r t) → Outcome l s (Commit x) r t
  weighs true running alone e h = stays l s (Commit x) (FullTriples (length (after s.graph x.net))) r t refl h
  weighs false running alone e h =
      let within : length (after s.graph x.net) ≤ l.triples = grind (arith, nat_tests) in
      rows_by h.0 (has_blocking l.mode (shapes_under s.shapes x.staged) h.0) running alone within h.1 refl h.2

  overtakes : (o : Option Overtaker) → s.stopped ≡ false → overtaker s.commits x.base x.finds ≡ o → MatchOption o (CommitsWithinLimit l s x r t) (λ h. Replies (Conflict h.commit h.triple) s r t) → Outcome l s (Commit x) r t
  overtakes None running e h = weighs (nat_lt l.triples (length (after s.graph x.net))) running e refl h
  overtakes (Some y) running e h = stays l s (Commit x) (Conflict y.commit y.triple) r t refl h

  commits : (b : Bool) → s.stopped ≡ b → MatchBool b (Replies (Stopped (version s)) s r t) (CommitsUnlessOvertaken l s x r t) → Outcome l s (Commit x) r t
  commits true e h = stays l s (Commit x) (Stopped (version s)) r t refl h
  commits false e h = overtakes (overtaker s.commits x.base x.finds) e refl h

pub outcome : (l : Limits) (s t : State) (i : ℕ) (a : Action) (r : Reply) → StepOf l s i a r t → Outcome l s a r t
outcome l s t i Open r h = opens l s t i r (nat_lt s.opened 64) refl h
outcome l s t i Begin r h = stays l s Begin (Version (version s)) r t refl h.1
outcome l s t i (Name kind ts) r h = names l s t kind ts r (unknown_by kind s.given ts) refl h.1
outcome l s t i Head r h = stays l s Head (Version (version s)) r t refl h.1
outcome l s t i (Commit x) r h = commits l s t x r h.1 s.stopped refl h.2
outcome l s t i Void r h = stays l s Void Nothing r t refl h.1
