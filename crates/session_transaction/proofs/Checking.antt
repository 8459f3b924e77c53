-- What is kept of a check stays a verdict while the history grows, and the commit may hand it in.
use Rattle.std.proofs.Common.{◌≡◌, ◌∙◌, Bool, true, false, List, ◌++◌, Option, Some, None, refl, sym, ap, subst, arith}
use Rattle.std.specs.List.{AllByRecursion}
use Rattle.std.proofs.lemmas.List.{append_assoc}
use Rattle.rdf_model.specs.declared.change.Change.{Change}
use Rattle.store_model.specs.declared.commit.Transaction.{Transaction}
use Rattle.store_model.specs.declared.commit.Verdict.{Verdict}
use Rattle.store_model.specs.declared.event.Event.{Event}
use Rattle.store_model.specs.declared.event.BlockMode.{BlockMode}
use Rattle.store_model.specs.declared.event.Limits.{Limits}
use Rattle.store_model.specs.Snapshots.{Snapshot, snapshot_of}
use Rattle.store_model.specs.Store.{AreNamed, HasChange, IsCommittable, NetNamed, RecordedStore, Replays, State, VerdictFits, looked_at, version}
use Rattle.session_model.proofs.Naming.{NetNamed-more, StagedNamed-more}
use Rattle.commit_core.specs.declared.checked.CheckedNet.{CheckedNet}
use Rattle.commit_core.specs.Verdicts.{AreOfVerdictIn, IsVerdictIn}
use Rattle.commit_core.proofs.Verdicts.{since, verdict_of_snapshot}
use Rattle.session_transaction.specs.declared.transaction.OpenTransaction.{OpenTransaction}
use Rattle.session_transaction.specs.Checks.{Checks, IsKept, IsVersionIn, KeepsIn, checked_of, handed_back, handed_in, pairs_of, verdict_of}
use Rattle.session_transaction.specs.Transactions.{FitsState}
use Rattle.session_transaction.proofs.Fitting.{verdict_fits}
use Rattle.session_transaction.proofs.Growing.{More, more_all}

pub version_lasts : (l : Limits) (start : State) (events more : List Event) (n : Snapshot) → IsVersionIn l start events n → IsVersionIn l start (events ++ more) n
version_lasts l start events more n v = record {
  front = v.front;
  back = v.back ++ more;
  history = ap (λ (es : List Event). es ++ more) v.history ∙ append_assoc v.front v.back more;
  state = v.state;
  replays = v.replays;
  is = v.is;
}

-- the version to which events lead is one of each history that begins with them
pub version_now : (l : Limits) (start : State) (front back : List Event) (s : State) (n : Snapshot) → Replays l start front s → n ≡ snapshot_of l.mode s → IsVersionIn l start (front ++ back) n
version_now l start front back s n replays is = record { front = front; back = back; history = refl; state = s; replays = replays; is = is }

pub keeps_last : (l : Limits) (start : State) (events more : List Event) (net : List Change) (o : Option CheckedNet) → KeepsIn l start events net o → KeepsIn l start (events ++ more) net o
keeps_last l start events more net None k = tt
keeps_last l start events more net (Some c) k = record { at = k.at; version = version_lasts l start events more k.at k.version; found = k.found }

-- a later state of the history has all that the version had
version_more : (l : Limits) (start : State) (events : List Event) (n : Snapshot) (s : State) (v : IsVersionIn l start events n) → Replays l start events s → More v.state s
version_more l start events n s v h =
    let store : RecordedStore = record { limits = l; start = start; state = s; history = events } in
    more_all l v.state s v.back (since store v.state v.front v.back h v.history v.replays)

pub keeps_fit : (l : Limits) (start : State) (events : List Event) (net : List Change) (o : Option CheckedNet) (s : State) → KeepsIn l start events net o → Replays l start events s → VerdictFits s (verdict_of o)
keeps_fit l start events net None s k h = tt
keeps_fit l start events net (Some c) s k h =
    let number : c.verdict.head ≡ version k.version.state = k.found.head ∙ ap (λ (x : Snapshot). x.number) k.version.is in
    let named = subst (λ (x : Snapshot). AllByRecursion (λ look. AreNamed x.named (looked_at look)) c.verdict.looks) k.version.is k.found.named in
    verdict_fits k.version.state s c.verdict (version_more l start events k.at s k.version h) (omega (arith, number)) named

kept_verdict : (l : Limits) (start : State) (events : List Event) (net : List Change) (c : CheckedNet) → IsKept l start events net c → IsVerdictIn l start events net c.verdict c.pairs
kept_verdict l start events net c k =
    subst (λ (es : List Event). IsVerdictIn l start es net c.verdict c.pairs) (sym k.version.history)
    (verdict_of_snapshot l start k.version.front k.version.back k.version.state k.at net c.verdict c.pairs k.version.replays k.version.is k.found.head k.found.check)

pub pairs_kept : (l : Limits) (start : State) (events : List Event) (net : List Change) (o : Option CheckedNet) → KeepsIn l start events net o → AreOfVerdictIn l start events net (verdict_of o) (pairs_of o)
pairs_kept l start events net None k = tt
pairs_kept l start events net (Some c) k = kept_verdict l start events net c k

-- a transaction that changes something may be committed with what is kept
pub committable_kept : (l : Limits) (start : State) (events : List Event) (x : Transaction) (o : Option CheckedNet) (s : State) → FitsState x s → HasChange x.net x.staged → KeepsIn l start events x.net o → Replays l start events s → IsCommittable s (record x { verdict = verdict_of o })
committable_kept l start events x o s f change k h = record { base = f.base; change = change; net = f.net; staged = f.staged; verdict = keeps_fit l start events x.net o s k h }

verdict_more : (s t : State) (o : Option Verdict) → More s t → VerdictFits s o → VerdictFits t o
verdict_more s t None m f = tt
verdict_more s t (Some v) m f = verdict_fits s t v m f.0 f.1

pub committable_more : (x : Transaction) (s t : State) → More s t → IsCommittable s x → IsCommittable t x
committable_more x s t m c = record {
  base = omega (arith, c.base, m.version);
  change = c.change;
  net = NetNamed-more s.named t.named x.net m.named c.net;
  staged = StagedNamed-more s.named t.named x.staged m.named c.staged;
  verdict = verdict_more s t x.verdict m c.verdict;
}

-- what is handed back is what was handed in
same_checked : (o : Option CheckedNet) → checked_of (verdict_of o) (pairs_of o) ≡ o
same_checked None = refl
same_checked (Some c) = refl

pub back_again : (w : OpenTransaction) → w.transaction.verdict ≡ None → handed_back (handed_in w) w.snap ≡ w
back_again w none = λ i. record { transaction = record w.transaction { verdict = sym none i }; checked = same_checked w.checked i; hints = w.hints; snap = w.snap }

-- a check keeps its verdict, and changes nothing else
pub check_keeps : (l : Limits) (start : State) (events : List Event) (b : Bool) (n : Snapshot) (old new : OpenTransaction) → IsVersionIn l start events n → Checks b n old new → KeepsIn l start events old.transaction.net new.checked
check_keeps l start events true n old new v h =
    let kept : IsKept l start events old.transaction.net h.1.0 = record { at = n; version = v; found = h.1.1 } in
    subst (KeepsIn l start events old.transaction.net) (sym (ap (λ (w : OpenTransaction). w.checked) h.1.2)) kept
check_keeps l start events false n old new v h = subst (KeepsIn l start events old.transaction.net) (sym (ap (λ (w : OpenTransaction). w.checked) h.1)) tt

pub check_same : (b : Bool) (n : Snapshot) (old new : OpenTransaction) → Checks b n old new → (new.transaction ≡ old.transaction) × (new.snap ≡ old.snap)
check_same true n old new h = (ap (λ (w : OpenTransaction). w.transaction) h.1.2, ap (λ (w : OpenTransaction). w.snap) h.1.2)
check_same false n old new h = (ap (λ (w : OpenTransaction). w.transaction) h.1, ap (λ (w : OpenTransaction). w.snap) h.1)

-- the changes are of terms that are named at the newest version
pub named_now : (mode : BlockMode) (x : Transaction) (s : State) (n : Snapshot) → FitsState x s → n ≡ snapshot_of mode s → NetNamed n.named x.net
named_now mode x s n f is = subst (λ (y : Snapshot). NetNamed y.named x.net) (sym is) f.net
