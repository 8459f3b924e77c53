-- The record of a commit, and what the log has after each answer.
use Rattle.std.proofs.Common.{Equal, ◌≡◌, ◌∙◌, ℕ, ◌+◌, Bool, true, false, not, ◌&&◌, ◌||◌, nat_lt, List, [], ◌∷◌, ◌++◌, length, Option, Some, None, refl, sym, ap, subst, inl, inr, append_assoc, append-nil, length-append}
use Rattle.std.specs.Prelude.{◌⊎◌, IfOk, MatchBool, MatchOption, Result, Ok, Err}
use Rattle.std.specs.List.{AllByRecursion, Contains, filter}
use Rattle.std.specs.Ordering.{eq_by_cmp}
use Rattle.rdf_model.specs.declared.change.Change.{Change}
use Rattle.rdf_model.specs.declared.change.Change.TheVariants.{Add, Remove}
use Rattle.rdf_model.specs.declared.triple.Triple.{Triple}
use Rattle.rdf_model.specs.Graphs.{after, changed, differing, lacking}
use Rattle.rdf_model.specs.Orders.{triple_exact, triple_total}
use Rattle.rdf_model.specs.Terms.{triple_cmp}
use Rattle.collections.specs.Ordered.{IsAscending, has_item}
use Rattle.collections.proofs.Members.{has_head, has_tail, same_lists}
use Rattle.disk.specs.Crashes.{EachCrash, History, Throughout, moments}
use Rattle.disk.proofs.Moments.{ends}
use Rattle.ntriples_text.specs.Laws.{IsReadable, IsStored}
use Rattle.record_text.specs.declared.record.Record.{Record}
use Rattle.record_text.specs.Records.{IsReadableRecord}
use Rattle.commit_log.specs.Format.{Opens}
use Rattle.commit_log.specs.Log.{LogState, OpensOneOf}
use Rattle.shape_model.specs.declared.result_row.ResultRow.{ResultRow}
use Rattle.store_model.specs.declared.commit.Again.{Again}
use Rattle.store_model.specs.declared.commit.Overtaker.{Overtaker}
use Rattle.store_model.specs.declared.commit.Transaction.{Transaction}
use Rattle.store_model.specs.declared.event.Action.{Action}
use Rattle.store_model.specs.declared.event.Action.TheVariants as actions
use Rattle.store_model.specs.declared.event.Event.{Event}
use Rattle.store_model.specs.declared.event.Limits.{Limits}
use Rattle.store_model.specs.declared.event.Reply.{Reply}
use Rattle.store_model.specs.declared.event.Reply.TheVariants as replies
use Rattle.store_model.specs.Blocking.{has_blocking}
use Rattle.store_model.specs.Logs.{HasNoLog, IsUnlogged, is_fault}
use Rattle.store_model.specs.Store.{AcceptsCommit, CommitsByListing, CommitsUnlessOvertaken, CommitsWithinLimit, RecordedStore, Replays, Replies, State, StepOf, TakesStep, again, changed_triple, committed, overtaker, shapes_under, version, with_named}
use Rattle.store_model.proofs.Differing.{ascending-differing, member-differing}
use Rattle.store_model.proofs.Histories.{IsAscending-after}
use Rattle.store_model.proofs.Logs.{FaultsStop-holds, UnloggedRun-holds}
use Rattle.store_model.proofs.Outcomes.{outcome}
use Rattle.store_model.proofs.SetMembers.{ascending-filter, member-filter, member-with_item, member-without_item, same_member}
use Rattle.data_graph.proofs.Tests.{is_equal, to_list, to_test}
use Rattle.commit_core.specs.declared.commit.CheckedTransaction.{CheckedTransaction}
use Rattle.commit_core.specs.declared.commit.Commit.{Commit}
use Rattle.commit_core.specs.declared.commit.Commit.TheVariants.{Done, Conflict, FullTriples, Refused, LogFault, Stopped, Memory}
use Rattle.commit_core.specs.Commits.{Answers, IsRefusal}
use Rattle.commit_core.specs.Consistent.{IsConsistent}
use Rattle.commit_core.specs.Logged.{IsAppended, IsFailed, IsInStep, IsLoggable, IsRecordOf, Lasts, LogsCommit, Shows, accepted_in, failed_in, first_record, graph_by, logged, lost, lost_of, number_by, record_by, record_of, records_by, records_of}
use Rattle.commit_core.proofs.Running.{running_unlogged}

-- the triples that were removed and added, by those that were changed
abbrev has : List Triple → Triple → Bool
has g t = has_item triple_cmp t g

keeps_tests : (g : List Triple) (t u : Triple) → triple_cmp u t ≡ Equal → has g u ≡ has g t
keeps_tests g t u e = sym (same_member triple_total u t g e)

there_of : (a b : Bool) → (((a && not b) || (b && not a)) && a) ≡ (a && not b)
there_of true true = refl
there_of true false = refl
there_of false true = refl
there_of false false = refl

new_of : (a b : Bool) → (((a && not b) || (b && not a)) && not a) ≡ (b && not a)
new_of true true = refl
new_of true false = refl
new_of false true = refl
new_of false false = refl

same_by_test : (xs ys : List Triple) → IsAscending triple_cmp xs → IsAscending triple_cmp ys → ((t : Triple) → has xs t ≡ has ys t) → xs ≡ ys
same_by_test xs ys a b e = same_lists triple_cmp triple_total xs ys a b (λ t. (λ c. to_list ys t (sym (e t) ∙ to_test xs t c), λ c. to_list xs t (e t ∙ to_test ys t c)))

module _ (g h : List Triple) (ag : IsAscending triple_cmp g) (ah : IsAscending triple_cmp h) where
  lacks_ascend : IsAscending triple_cmp (lacking g h)
  lacks_ascend = ascending-filter triple_total (λ t. not (has h t)) g ag

  in_lacking : (t : Triple) → has (lacking g h) t ≡ (has g t && not (has h t))
  in_lacking t = member-filter triple_total (λ u. not (has h u)) t g (λ u e. ap not (keeps_tests h t u e))

  removed_is : filter (λ t. has g t) (differing g h) ≡ lacking g h
  removed_is = same_by_test (filter (λ t. has g t) (differing g h)) (lacking g h) (ascending-filter triple_total (λ t. has g t) (differing g h) (ascending-differing g h ag)) lacks_ascend (λ t.
      member-filter triple_total (λ u. has g u) t (differing g h) (λ u e. keeps_tests g t u e)
      ∙ (ap (λ b. b && has g t) (member-differing g h t) ∙ (there_of (has g t) (has h t) ∙ sym (in_lacking t))))

added_is : (g h : List Triple) → IsAscending triple_cmp g → IsAscending triple_cmp h → filter (λ t. not (has g t)) (differing g h) ≡ lacking h g
added_is g h ag ah = same_by_test (filter (λ t. not (has g t)) (differing g h)) (lacking h g) (ascending-filter triple_total (λ t. not (has g t)) (differing g h) (ascending-differing g h ag)) (lacks_ascend h g ah ag) (λ t.
    member-filter triple_total (λ u. not (has g u)) t (differing g h) (λ u e. ap not (keeps_tests g t u e))
    ∙ (ap (λ b. b && not (has g t)) (member-differing g h t) ∙ (new_of (has g t) (has h t) ∙ sym (in_lacking h g ah ag t))))

pub record_is : (g changed : List Triple) (n number : ℕ) (x : Transaction) (r : Record) → IsAscending triple_cmp g → changed ≡ differing g (after g x.net) → number ≡ n + 1 → IsRecordOf number g changed x.staged r → r ≡ record_of g n x
record_is g changed n number x r a e count k =
    let h = after g x.net in
    let ah = IsAscending-after g x.net a in
    let number_is : r.number ≡ n + 1 = k.number_is ∙ count in
    let removed : r.removed ≡ lacking g h = k.removed ∙ (ap (filter (λ t. has g t)) e ∙ removed_is g h a ah) in
    let added : r.added ≡ lacking h g = k.added ∙ (ap (filter (λ t. not (has g t))) e ∙ added_is g h a ah) in
    let shapes : r.shapes ≡ x.staged = k.shapes in
    λ i. record { number = number_is i; removed = removed i; added = added i; shapes = shapes i }

-- each of them is a triple of the changes
abbrev CanRead : Triple → Type 0
CanRead t = IsReadable IsStored t

unchanged : (g : List Triple) (c : Change) (t : Triple) → IsAscending triple_cmp g → eq_by_cmp triple_cmp (changed_triple c) t ≡ false → has (changed g c) t ≡ has g t
unchanged g (Add u) t a e = member-with_item triple_total u t g ∙ ap (λ b. b || has g t) e
unchanged g (Remove u) t a e = member-without_item triple_total u t g a ∙ ap (λ b. not b && has g t) e

stays_or_read : (g : List Triple) (net : List Change) (t : Triple) → IsAscending triple_cmp g → AllByRecursion (λ c. CanRead (changed_triple c)) net → (has g t ≡ has (after g net) t) ⊎ CanRead t
stays_or_read g [] t a k = inl refl
stays_or_read g (c ∷ cs) t a k = elim (eq_by_cmp triple_cmp (changed_triple c) t) as (λ b. eq_by_cmp triple_cmp (changed_triple c) t ≡ b → (has g t ≡ has (after g (c ∷ cs)) t) ⊎ CanRead t) [
  | true ↦ λ e. inr (subst (λ (u : Triple). CanRead u) (triple_exact (changed_triple c) t (is_equal (triple_cmp (changed_triple c) t) e)) k.0)
  | false ↦ λ e. elim (stays_or_read (changed g c) cs t (IsAscending-after g (c ∷ []) a) k.1) [
    | inl same ↦ inl (sym (unchanged g c t a e) ∙ same)
    | inr read ↦ inr read
  ]
] refl

one_only : (a b : Bool) → a ≡ b → (a && not b) ≡ true → ⊥
one_only true true e h = cc
one_only true false e h = cc
one_only false b e h = cc

each_read : (ts : List Triple) → ((t : Triple) → Contains ts t → CanRead t) → AllByRecursion CanRead ts
each_read [] f = tt
each_read (t ∷ ts) f = (f t (has_head t ts), each_read ts (λ u c. f u (has_tail t ts u c)))

removed_read : (g : List Triple) (net : List Change) → IsAscending triple_cmp g → AllByRecursion (λ c. CanRead (changed_triple c)) net → AllByRecursion CanRead (lacking g (after g net))
removed_read g net a k = each_read (lacking g (after g net)) (λ t c. elim (stays_or_read g net t a k) [
  | inl same ↦ absurd (one_only (has g t) (has (after g net) t) same (sym (in_lacking g (after g net) a (IsAscending-after g net a) t) ∙ to_test (lacking g (after g net)) t c))
  | inr read ↦ read
])

added_read : (g : List Triple) (net : List Change) → IsAscending triple_cmp g → AllByRecursion (λ c. CanRead (changed_triple c)) net → AllByRecursion CanRead (lacking (after g net) g)
added_read g net a k = each_read (lacking (after g net) g) (λ t c. elim (stays_or_read g net t a k) [
  | inl same ↦ absurd (one_only (has (after g net) t) (has g t) (sym same) (sym (in_lacking (after g net) g (IsAscending-after g net a) a t) ∙ to_test (lacking (after g net) g) t c))
  | inr read ↦ read
])

pub record_read : (g : List Triple) (n : ℕ) (x : Transaction) (r : Record) → IsAscending triple_cmp g → IsLoggable x → r ≡ record_of g n x → IsReadableRecord r
record_read g n x r a k e =
    let ah = IsAscending-after g x.net a in
    subst (λ (q : Record). IsReadableRecord q) (sym e) (record {
      removed = (removed_read g x.net a k.net, lacks_ascend g (after g x.net) a ah);
      added = (added_read g x.net a k.net, lacks_ascend (after g x.net) g ah a);
      shapes = k.staged;
    })

-- a commit that was accepted left the committed state
module _ (l : Limits) (s t : State) (x : Transaction) (n : ℕ) (why : Again) where
  accepts : AcceptsCommit s x (replies.Done n why) t → t ≡ committed s x
  accepts (inl h) = h.1
  accepts (inr h) = let e : replies.Done n why ≡ replies.LogFault = h.0 in cc

  rows_by : (rows : List ResultRow) (b : Bool) → MatchBool b (Replies (replies.Refused rows (again s.commits x.staged x.verdict)) s (replies.Done n why) t) (AcceptsCommit s x (replies.Done n why) t) → t ≡ committed s x
  rows_by rows true h = let e : replies.Done n why ≡ replies.Refused rows (again s.commits x.staged x.verdict) = h.0 in cc
  rows_by rows false h = accepts h

  weighs : (b : Bool) → MatchBool b (Replies (replies.FullTriples (length (after s.graph x.net))) s (replies.Done n why) t) (CommitsByListing l s x (replies.Done n why) t) → t ≡ committed s x
  weighs true h = let e : replies.Done n why ≡ replies.FullTriples (length (after s.graph x.net)) = h.0 in cc
  weighs false h = rows_by h.0 (has_blocking l.mode (shapes_under s.shapes x.staged) h.0) h.2

  overtakes : (o : Option Overtaker) → MatchOption o (CommitsWithinLimit l s x (replies.Done n why) t) (λ h. Replies (replies.Conflict h.commit h.triple) s (replies.Done n why) t) → t ≡ committed s x
  overtakes None h = weighs (nat_lt l.triples (length (after s.graph x.net))) h
  overtakes (Some y) h = let e : replies.Done n why ≡ replies.Conflict y.commit y.triple = h.0 in cc

  commits : (b : Bool) → MatchBool b (Replies (replies.Stopped (version s)) s (replies.Done n why) t) (CommitsUnlessOvertaken l s x (replies.Done n why) t) → t ≡ committed s x
  commits true h = let e : replies.Done n why ≡ replies.Stopped (version s) = h.0 in cc
  commits false h = overtakes (overtaker s.commits x.base x.finds) h

-- what an event is where it has an accepted transaction
accepted_is : (a : Action) (r : Reply) (x : Transaction) → accepted_in a r ≡ Some x → (n : ℕ) × (why : Again) × (a ≡ actions.Commit x) × (r ≡ replies.Done n why)
accepted_is actions.Open r x e = cc
accepted_is actions.Begin r x e = cc
accepted_is (actions.Name kind ts) r x e = cc
accepted_is actions.Head r x e = cc
accepted_is actions.Void r x e = cc
accepted_is (actions.Commit y) (replies.Done n why) x e = let same : y ≡ x = cc in (n, why, ap actions.Commit same, refl)
accepted_is (actions.Commit y) (replies.Session n) x e = cc
accepted_is (actions.Commit y) replies.SessionsFull x e = cc
accepted_is (actions.Commit y) (replies.Version n) x e = cc
accepted_is (actions.Commit y) replies.Named x e = cc
accepted_is (actions.Commit y) (replies.Unknown node) x e = cc
accepted_is (actions.Commit y) (replies.Full n) x e = cc
accepted_is (actions.Commit y) (replies.Conflict n triple) x e = cc
accepted_is (actions.Commit y) (replies.FullTriples n) x e = cc
accepted_is (actions.Commit y) (replies.Refused rows why) x e = cc
accepted_is (actions.Commit y) replies.LogFault x e = cc
accepted_is (actions.Commit y) (replies.Stopped n) x e = cc
accepted_is (actions.Commit y) replies.Nothing x e = cc

-- the graph and the number of commits after a step
abbrev Moves : State → State → Option Transaction → Type 0
Moves s t o = (t.graph ≡ graph_by o s.graph) × (version t ≡ number_by o (version s))

still : (s t u : State) → t ≡ u → u.graph ≡ s.graph → version u ≡ version s → Moves s t None
still s t u e eg en = (ap (λ (x : State). x.graph) e ∙ eg, ap (λ (x : State). version x) e ∙ en)

moves_on : (s : State) (x : Transaction) → Moves s (committed s x) (Some x)
moves_on s x = (refl, simp length-append)

moved_none : (l : Limits) (s t : State) (i : ℕ) (a : Action) (r : Reply) → accepted_in a r ≡ None → StepOf l s i a r t → Moves s t None
moved_none l s t i a r none h = elim (outcome l s t i a r h) [
  | inl e ↦ still s t s e.state refl refl
  | inr (inl e) ↦ still s t (record s { opened = s.opened + 1 }) e.state refl refl
  | inr (inr (inl e)) ↦ still s t (with_named s e.kind e.terms) e.state refl refl
  | inr (inr (inr (inl e))) ↦
      let some : accepted_in a r ≡ Some e.transaction = λ j. accepted_in (e.action j) (e.reply j) in
      cc
  | inr (inr (inr (inr e))) ↦ still s t (record s { stopped = true }) e.state refl refl
]

moved_some : (l : Limits) (s t : State) (i : ℕ) (a : Action) (r : Reply) (x : Transaction) → accepted_in a r ≡ Some x → StepOf l s i a r t → Moves s t (Some x)
moved_some l s t i a r x some h =
    let k = accepted_is a r x some in
    let own : StepOf l s i (actions.Commit x) (replies.Done k.0 k.1) t = subst (λ (q : Reply). StepOf l s i (actions.Commit x) q t) k.3 (subst (λ (b : Action). StepOf l s i b r t) k.2 h) in
    let is = commits l s t x k.0 k.1 s.stopped own.2 in
    subst (λ (u : State). Moves s u (Some x)) (sym is) (moves_on s x)

moved_by : (l : Limits) (s t : State) (i : ℕ) (a : Action) (r : Reply) (o : Option Transaction) → accepted_in a r ≡ o → StepOf l s i a r t → Moves s t o
moved_by l s t i a r None e h = moved_none l s t i a r e h
moved_by l s t i a r (Some x) e h = moved_some l s t i a r x e h

moved : (l : Limits) (s t : State) (i : ℕ) (a : Action) (r : Reply) → StepOf l s i a r t → Moves s t (accepted_in a r)
moved l s t i a r h = moved_by l s t i a r (accepted_in a r) refl h

-- the records and the lost record of a history with one event more
records_more : (l : Limits) (s m : State) (es : List Event) (e : Event) → Replays l s es m → records_of s.graph (version s) (es ++ e ∷ []) ≡ records_of s.graph (version s) es ++ records_by (accepted_in e.action e.reply) m.graph (version m)
records_more l s m [] e h =
    let same = ap (λ (x : State). records_by (accepted_in e.action e.reply) x.graph (version x)) h in
    append-nil (records_by (accepted_in e.action e.reply) s.graph (version s)) ∙ sym same
records_more l s m (f ∷ fs) e h =
    let o = accepted_in f.action f.reply in
    let k = moved l s h.0 f.session f.action f.reply h.1 in
    let rest = records_more l h.0 m fs e h.2 in
    let front = records_by o s.graph (version s) in
    let own : records_of (graph_by o s.graph) (number_by o (version s)) (fs ++ e ∷ []) ≡ records_of (graph_by o s.graph) (number_by o (version s)) fs ++ records_by (accepted_in e.action e.reply) m.graph (version m) =
    subst (λ (n : ℕ). records_of (graph_by o s.graph) n (fs ++ e ∷ []) ≡ records_of (graph_by o s.graph) n fs ++ records_by (accepted_in e.action e.reply) m.graph (version m)) k.1
    (subst (λ (g : List Triple). records_of g (version h.0) (fs ++ e ∷ []) ≡ records_of g (version h.0) fs ++ records_by (accepted_in e.action e.reply) m.graph (version m)) k.0 rest) in
    ap (λ (rs : List Record). front ++ rs) own ∙ sym (append_assoc front (records_of (graph_by o s.graph) (number_by o (version s)) fs) (records_by (accepted_in e.action e.reply) m.graph (version m)))

first_then : (a b c : Option Record) → first_record a (first_record b c) ≡ first_record (first_record a b) c
first_then None b c = refl
first_then (Some r) b c = refl

first_none : (a : Option Record) → first_record a None ≡ a
first_none None = refl
first_none (Some r) = refl

lost_more : (l : Limits) (s m : State) (es : List Event) (e : Event) → Replays l s es m → lost_of s.graph (version s) (es ++ e ∷ []) ≡ first_record (lost_of s.graph (version s) es) (record_by (failed_in e.action e.reply) m.graph (version m))
lost_more l s m [] e h =
    let same = ap (λ (x : State). record_by (failed_in e.action e.reply) x.graph (version x)) h in
    first_none (record_by (failed_in e.action e.reply) s.graph (version s)) ∙ sym same
lost_more l s m (f ∷ fs) e h =
    let o = accepted_in f.action f.reply in
    let k = moved l s h.0 f.session f.action f.reply h.1 in
    let rest = lost_more l h.0 m fs e h.2 in
    let front = record_by (failed_in f.action f.reply) s.graph (version s) in
    let last = record_by (failed_in e.action e.reply) m.graph (version m) in
    let own : lost_of (graph_by o s.graph) (number_by o (version s)) (fs ++ e ∷ []) ≡ first_record (lost_of (graph_by o s.graph) (number_by o (version s)) fs) last =
    subst (λ (n : ℕ). lost_of (graph_by o s.graph) n (fs ++ e ∷ []) ≡ first_record (lost_of (graph_by o s.graph) n fs) last) k.1
    (subst (λ (g : List Triple). lost_of g (version h.0) (fs ++ e ∷ []) ≡ first_record (lost_of g (version h.0) fs) last) k.0 rest) in
    ap (first_record front) own ∙ first_then front (lost_of (graph_by o s.graph) (number_by o (version s)) fs) last

-- without a fault nothing is lost
none_failed : (a : Action) (r : Reply) → IsUnlogged r → failed_in a r ≡ None
none_failed (actions.Commit x) replies.LogFault u = absurd u
none_failed (actions.Commit x) (replies.Session n) u = refl
none_failed (actions.Commit x) replies.SessionsFull u = refl
none_failed (actions.Commit x) (replies.Version n) u = refl
none_failed (actions.Commit x) replies.Named u = refl
none_failed (actions.Commit x) (replies.Unknown node) u = refl
none_failed (actions.Commit x) (replies.Full n) u = refl
none_failed (actions.Commit x) (replies.Conflict n triple) u = refl
none_failed (actions.Commit x) (replies.FullTriples n) u = refl
none_failed (actions.Commit x) (replies.Refused rows why) u = refl
none_failed (actions.Commit x) (replies.Done n why) u = refl
none_failed (actions.Commit x) (replies.Stopped n) u = refl
none_failed (actions.Commit x) replies.Nothing u = refl
none_failed actions.Open r u = refl
none_failed actions.Begin r u = refl
none_failed (actions.Name kind ts) r u = refl
none_failed actions.Head r u = refl
none_failed actions.Void r u = refl

none_lost : (g : List Triple) (n : ℕ) (es : List Event) → HasNoLog es → lost_of g n es ≡ None
none_lost g n [] h = refl
none_lost g n (e ∷ es) h =
    let o = accepted_in e.action e.reply in
    ap (λ (x : Option Transaction). first_record (record_by x g n) (lost_of (graph_by o g) (number_by o n) es)) (none_failed e.action e.reply h.0) ∙ none_lost (graph_by o g) (number_by o n) es h.1

pub not_lost : (s : RecordedStore) → IsConsistent s → s.state.stopped ≡ false → lost s ≡ None
not_lost s k on = none_lost s.start.graph (version s.start) s.history (running_unlogged s.limits s.start s.state s.history on k.replays)

-- the log after a step of the core
logged_more : (base : List Record) (old new : RecordedStore) (e : Event) → IsConsistent old → TakesStep old new e → logged base new ≡ logged base old ++ records_by (accepted_in e.action e.reply) old.state.graph (version old.state)
logged_more base old new e k h =
    let own = records_more old.limits old.start old.state old.history e k.replays in
    (λ i. base ++ records_of (h.start i).graph (version (h.start i)) (h.history i)) ∙ (ap (λ (rs : List Record). base ++ rs) own
    ∙ sym (append_assoc base (records_of old.start.graph (version old.start) old.history) (records_by (accepted_in e.action e.reply) old.state.graph (version old.state))))

lost_after : (old new : RecordedStore) (e : Event) → IsConsistent old → TakesStep old new e → lost new ≡ first_record (lost old) (record_by (failed_in e.action e.reply) old.state.graph (version old.state))
lost_after old new e k h = (λ i. lost_of (h.start i).graph (version (h.start i)) (h.history i)) ∙ lost_more old.limits old.start old.state old.history e k.replays

module _ {D : Type 0} (tells : Type 0) (bytes : D → List ℕ) (history : D → History) (base : List Record) (old new : RecordedStore) (consistent : IsConsistent old) where
  -- an event that is no accepted commit and no fault leaves the log in step
  pub in_step_kept : (log : LogState D) (e : Event) → TakesStep old new e → accepted_in e.action e.reply ≡ None → failed_in e.action e.reply ≡ None → new.state.stopped ≡ old.state.stopped → IsInStep tells bytes history base old log → IsInStep tells bytes history base new log
  in_step_kept log e h none sound same k =
      let all : logged base new ≡ logged base old = logged_more base old new e consistent h ∙ (ap (λ (o : Option Transaction). logged base old ++ records_by o old.state.graph (version old.state)) none ∙ append-nil (logged base old)) in
      let lost_is : lost new ≡ lost old = lost_after old new e consistent h ∙ (ap (λ (o : Option Transaction). first_record (lost old) (record_by o old.state.graph (version old.state))) sound ∙ first_none (lost old)) in
      let step = moved old.limits old.state new.state e.session e.action e.reply h.step in
      let count : version new.state ≡ version old.state = step.1 ∙ ap (λ (o : Option Transaction). number_by o (version old.state)) none in
      record {
        beside = record { closed = k.beside.closed ∙ sym same; count = λ on. k.beside.count (sym same ∙ on) ∙ sym count };
        lasts = λ t. subst (λ (rs : List Record). Lasts rs (lost new) (history log.disk).now) (sym all) (subst (λ (o : Option Record). Lasts (logged base old) o (history log.disk).now) (sym lost_is) (k.lasts t));
        shows = λ t. subst (λ (rs : List Record). Shows rs (lost new) (bytes log.disk)) (sym all) (subst (λ (o : Option Record). Shows (logged base old) o (bytes log.disk)) (sym lost_is) (k.shows t));
      }

  module _ (x : Transaction) (running : old.state.stopped ≡ false) where
    nothing_lost : lost old ≡ None
    nothing_lost = not_lost old consistent running

    abbrev next : Record
    next = record_of old.state.graph (version old.state) x

    done_shows : (log : LogState D) → IsInStep tells bytes history base old log → tells → Opens (bytes log.disk) (logged base old)
    done_shows log k t = subst (λ (o : Option Record). Shows (logged base old) o (bytes log.disk)) nothing_lost (k.shows t)

    done_lasts : (log : LogState D) → IsInStep tells bytes history base old log → tells → EachCrash (λ image. Opens image (logged base old)) (history log.disk).now
    done_lasts log k t = subst (λ (o : Option Record). Lasts (logged base old) o (history log.disk).now) nothing_lost (k.lasts t)

    in_step_done : (log later : LogState D) (i n : ℕ) (why : Again) → TakesStep old new (record { session = i; action = actions.Commit x; reply = replies.Done n why }) → IsAppended tells bytes history next log later → IsInStep tells bytes history base old log → IsInStep tells bytes history base new later
    in_step_done log later i n why h a k =
        let e : Event = record { session = i; action = actions.Commit x; reply = replies.Done n why } in
        let all = logged_more base old new e consistent h in
        let none : lost new ≡ None = lost_after old new e consistent h ∙ (first_none (lost old) ∙ nothing_lost) in
        let step = moved old.limits old.state new.state i (actions.Commit x) (replies.Done n why) h.step in
        let on : new.state.stopped ≡ false = UnloggedRun-holds old.limits old.state new.state (e ∷ []) running (tt, tt) (new.state, h.step, refl) in
        let count = k.beside.count running in
        record {
          beside = record { closed = a.closed ∙ sym on; count = λ r. a.count ∙ (ap (λ m. m + 1) count ∙ sym step.1) };
          lasts = λ t. subst (λ (rs : List Record). Lasts rs (lost new) (history later.disk).now) (sym all) (subst (λ (o : Option Record). Lasts (logged base old ++ next ∷ []) o (history later.disk).now) (sym none) (a.durable t (logged base old) (done_shows log k t)).0);
          shows = λ t. subst (λ (rs : List Record). Shows rs (lost new) (bytes later.disk)) (sym all) (subst (λ (o : Option Record). Shows (logged base old ++ next ∷ []) o (bytes later.disk)) (sym none) (a.durable t (logged base old) (done_shows log k t)).1);
        }

    in_step_fault : (faults : D → ℕ) (log later : LogState D) (i : ℕ) → TakesStep old new (record { session = i; action = actions.Commit x; reply = replies.LogFault }) → IsFailed tells bytes history faults next log later → IsInStep tells bytes history base old log → IsInStep tells bytes history base new later
    in_step_fault faults log later i h a k =
        let e : Event = record { session = i; action = actions.Commit x; reply = replies.LogFault } in
        let all : logged base new ≡ logged base old = logged_more base old new e consistent h ∙ append-nil (logged base old) in
        let some : lost new ≡ Some next = lost_after old new e consistent h ∙ ap (λ (o : Option Record). first_record o (Some next)) nothing_lost in
        let off : new.state.stopped ≡ true = FaultsStop-holds old.limits old.state new.state (e ∷ []) (new.state, h.step, refl) ∙ ap (λ b. b || true) running in
        record {
          beside = record { closed = a.closed ∙ sym off; count = λ r. absurd (cc (off, r)) };
          lasts = λ t. subst (λ (rs : List Record). Lasts rs (lost new) (history later.disk).now) (sym all) (subst (λ (o : Option Record). Lasts (logged base old) o (history later.disk).now) (sym some) (ends (OpensOneOf (logged base old) next) (history log.disk) (history later.disk) (a.crash t (logged base old) (done_shows log k t))));
          shows = λ t. subst (λ (rs : List Record). Shows rs (lost new) (bytes later.disk)) (sym all) (subst (λ (o : Option Record). Shows (logged base old) o (bytes later.disk)) (sym some) tt);
        }

    unmoved : (log later : LogState D) → later ≡ log → IsInStep tells bytes history base old log → tells → Throughout (history log.disk) (history later.disk) (OpensOneOf (logged base old) next)
    unmoved log later e k t = subst (λ (q : LogState D). Throughout (history log.disk) (history q.disk) (OpensOneOf (logged base old) next)) (sym e) (record {
      begins = λ image left. inl (done_lasts log k t image left);
      later = [];
      grew = sym (append-nil (moments (history log.disk)));
      each = tt;
    })

    -- at each moment a crash leaves the records that there were, or these and the new one
    pub crash_by : (faults : D → ℕ) (log later : LogState D) (r : Commit) → LogsCommit tells bytes history faults next log later r → IsInStep tells bytes history base old log → tells → Throughout (history log.disk) (history later.disk) (OpensOneOf (logged base old) next)
    crash_by faults log later (Done number again) a k t = a.crash t (logged base old) (done_shows log k t)
    crash_by faults log later LogFault a k t = a.crash t (logged base old) (done_shows log k t)
    crash_by faults log later (Conflict commit triple) e k t = unmoved log later e k t
    crash_by faults log later (FullTriples count) e k t = unmoved log later e k t
    crash_by faults log later (Refused rows again shapes) e k t = unmoved log later e k t
    crash_by faults log later (Stopped number) e k t = unmoved log later e k t
    crash_by faults log later (Memory y) e k t = unmoved log later e k t

-- a store that answers otherwise isn't stopped
runs_by : (s t : State) (l : Limits) (x : Transaction) (r : Reply) (b : Bool) → s.stopped ≡ b → (r ≡ replies.Stopped (version s) → ⊥) → MatchBool b (Replies (replies.Stopped (version s)) s r t) (CommitsUnlessOvertaken l s x r t) → s.stopped ≡ false
runs_by s t l x r true e never h = absurd (never h.0)
runs_by s t l x r false e never h = e

or_false : (a : Bool) → (a || false) ≡ a
or_false true = refl
or_false false = refl

still_stopped : (old new : RecordedStore) (e : Event) → TakesStep old new e → is_fault e.reply ≡ false → new.state.stopped ≡ old.state.stopped
still_stopped old new e h none =
    FaultsStop-holds old.limits old.state new.state (e ∷ []) (new.state, h.step, refl) ∙ (ap (λ b. old.state.stopped || (b || false)) none ∙ or_false old.state.stopped)

-- the log after a commit is in step, whatever its answer
module _ {D : Type 0} (tells : Type 0) (bytes : D → List ℕ) (history : D → History) (faults : D → ℕ) (base : List Record) (old new : RecordedStore) (consistent : IsConsistent old) (i : ℕ) (x : CheckedTransaction) (log later : LogState D) where
  abbrev step_by : Reply → Event
  step_by r = record { session = i; action = actions.Commit x.transaction; reply = r }

  refused_in : (r : Reply) → TakesStep old new (step_by r) → accepted_in (actions.Commit x.transaction) r ≡ None → failed_in (actions.Commit x.transaction) r ≡ None → is_fault r ≡ false → later ≡ log → IsInStep tells bytes history base old log → IsInStep tells bytes history base new later
  refused_in r h none sound clean e k = subst (λ (q : LogState D). IsInStep tells bytes history base new q) (sym e) (in_step_kept tells bytes history base old new consistent log (step_by r) h none sound (still_stopped old new (step_by r) h clean) k)

  pub in_step_by : (r : Commit) → Answers r old new i x → LogsCommit tells bytes history faults (record_of old.state.graph (version old.state) x.transaction) log later r → IsInStep tells bytes history base old log → IsInStep tells bytes history base new later
  in_step_by (Done n why) h a k =
      let on = runs_by old.state new.state old.limits x.transaction (replies.Done n why) old.state.stopped refl (λ e. cc) h.step.2 in
      in_step_done tells bytes history base old new consistent x.transaction on log later i n why h a k
  in_step_by LogFault h a k =
      let on = runs_by old.state new.state old.limits x.transaction replies.LogFault old.state.stopped refl (λ e. cc) h.step.2 in
      in_step_fault tells bytes history base old new consistent x.transaction on faults log later i h a k
  in_step_by (Conflict n triple) h e k = refused_in (replies.Conflict n triple) h refl refl refl e k
  in_step_by (FullTriples n) h e k = refused_in (replies.FullTriples n) h refl refl refl e k
  in_step_by (Refused rows why shapes) h e k = refused_in (replies.Refused rows why) h.0 refl refl refl e k
  in_step_by (Stopped n) h e k = refused_in (replies.Stopped n) h refl refl refl e k
  in_step_by (Memory y) h e k = subst (λ (q : LogState D). IsInStep tells bytes history base new q) (sym e) (subst (λ (s : RecordedStore). IsInStep tells bytes history base s log) (sym h.1) k)

  -- a refusal leaves the log as it was
  pub refusal_logs : (r : Commit) → IsRefusal r → LogsCommit tells bytes history faults (record_of old.state.graph (version old.state) x.transaction) log log r
  refusal_logs (Refused rows why shapes) h = refl
  refusal_logs (Done n why) h = absurd h
  refusal_logs (Conflict n triple) h = absurd h
  refusal_logs (FullTriples n) h = absurd h
  refusal_logs LogFault h = absurd h
  refusal_logs (Stopped n) h = absurd h
  refusal_logs (Memory y) h = absurd h

-- what holds of each answer Ok
pub if_ok : {A E : Type 0} (r : Result A E) (P Q : A → Type 0) → ((a : A) → P a → Q a) → IfOk r P → IfOk r Q
if_ok (Ok a) P Q f h = f a h
if_ok (Err e) P Q f h = tt
