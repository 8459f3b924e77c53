-- A transaction fits its store as long as it is open.
use Rattle.std.proofs.Common.{◌≡◌, ◌≢◌, ℕ, ◌+◌, ◌-◌, ◌≤◌, Bool, true, false, nat_lt, List, [], ◌∷◌, ◌++◌, length, Some, refl, sym, subst, arith, inl, inr}
use Rattle.std.specs.Prelude.{MatchBool}
use Rattle.std.specs.List.{AllByRecursion}
use Rattle.rdf_model.specs.declared.look.Look.{Look}
use Rattle.rdf_model.specs.declared.look.Look.TheVariants.{Out, In, OutAny}
use Rattle.rdf_model.specs.declared.term.Term.{Term}
use Rattle.rdf_model.specs.declared.triple.Triple.{Triple}
use Rattle.rdf_model.specs.declared.change.Change.{Change}
use Rattle.store_model.specs.declared.event.Limits.{Limits}
use Rattle.store_model.specs.declared.event.Action.TheVariants as actions
use Rattle.store_model.specs.declared.event.NameKind.{NameKind}
use Rattle.store_model.specs.declared.event.NameKind.TheVariants.{Fresh, Known, Attach}
use Rattle.store_model.specs.declared.event.Reply.{Reply}
use Rattle.store_model.specs.declared.event.Reply.TheVariants.{Named, Unknown, Full}
use Rattle.store_model.specs.declared.commit.Transaction.{Transaction}
use Rattle.store_model.specs.declared.commit.Verdict.{Verdict}
use Rattle.store_model.specs.Nodes.{unknown_by}
use Rattle.store_model.specs.Store.{AreNamed, NamesUnless, Replies, State, StepOf, version, looked_at, named_with, with_named, NetNamed, StagedNamed, HasChange, IsCommittable, VerdictFits}
use Rattle.store_model.proofs.Outcomes.{outcome}
use Rattle.session_model.specs.Sessions.{parts_of}
use Rattle.session_model.proofs.Naming.{IsMore, NetNamed-more, NetNamed-additions, NetNamed-removals, NetNamed-naming, StagedNamed-more, StagedNamed-naming, StagedNamed-shapes}
use Rattle.session_transaction.specs.declared.transaction.ChangeKind.{ChangeKind}
use Rattle.session_transaction.specs.declared.transaction.ChangeKind.TheVariants.{Addition, Removal, Attachment}
use Rattle.session_transaction.specs.Transactions.{FitsState, changes_of}
use Rattle.session_transaction.proofs.Growing.{More}

pub state_more : (x : Transaction) (s t : State) → More s t → FitsState x s → FitsState x t
state_more x s t m f = record {
  base = omega (arith, f.base, m.version);
  net = NetNamed-more s.named t.named x.net m.named f.net;
  staged = StagedNamed-more s.named t.named x.staged m.named f.staged;
  verdict = f.verdict;
}

-- one that changes something may be committed
pub committable : (x : Transaction) (s : State) → FitsState x s → HasChange x.net x.staged → IsCommittable s x
committable x s f change = record { base = f.base; change = change; net = f.net; staged = f.staged; verdict = subst (VerdictFits s) (sym f.verdict) tt }

-- the looks of a verdict are of named terms still where more are named
looks_more : (named more : List Term) (ls : List (Look Term)) → IsMore named more → AllByRecursion (λ l. AreNamed named (looked_at l)) ls → AllByRecursion (λ l. AreNamed more (looked_at l)) ls
looks_more named more [] m a = tt
looks_more named more (Out x p ∷ ls) m a = ((m x a.0.0, (m p a.0.1.0, tt)), looks_more named more ls m a.1)
looks_more named more (In p x ∷ ls) m a = ((m p a.0.0, (m x a.0.1.0, tt)), looks_more named more ls m a.1)
looks_more named more (OutAny x ∷ ls) m a = ((m x a.0.0, tt), looks_more named more ls m a.1)

-- so a verdict of an earlier state fits each later one
pub verdict_fits : (s t : State) (v : Verdict) → More s t → v.head ≤ version s → AllByRecursion (λ l. AreNamed s.named (looked_at l)) v.looks → VerdictFits t (Some v)
verdict_fits s t v m le a = (omega (arith, le, m.version), looks_more s.named t.named v.looks m.named a)

-- terms that are named
named_within : (s t m : State) (k : ℕ) (b : Bool) → MatchBool b (Replies (Full k) s Named t) (Replies Named m Named t) → t ≡ m
named_within s t m k true h = let no : Named ≡ Full k = h.0 in cc
named_within s t m k false h = h.1

named_unless : (l : Limits) (s t : State) (kind : NameKind) (ts nodes : List Term) → NamesUnless nodes l s kind ts Named t → t ≡ with_named s kind ts
named_unless l s t kind ts [] h = named_within s t (with_named s kind ts) (length (named_with s.named ts) - 2) (nat_lt (l.terms + 2) (length (named_with s.named ts))) h
named_unless l s t kind ts (node ∷ nodes) h = let no : Named ≡ Unknown node = h.0 in cc

-- the store once the terms of a block were named
pub after_named : (l : Limits) (s t : State) (i : ℕ) (kind : NameKind) (ts : List Triple) → StepOf l s i (actions.Name kind (parts_of ts)) Named t → t ≡ with_named s kind (parts_of ts)
after_named l s t i kind ts h = named_unless l s t kind (parts_of ts) (unknown_by kind s.given (parts_of ts)) h.1

-- and where they weren't, it is as it was
pub after_unnamed : (l : Limits) (s t : State) (i : ℕ) (kind : NameKind) (ts : List Term) (r : Reply) → r ≢ Named → StepOf l s i (actions.Name kind ts) r t → t ≡ s
after_unnamed l s t i kind ts r other h = elim (outcome l s t i (actions.Name kind ts) r h) [
  | inl e ↦ e.state
  | inr (inl e) ↦ let no : actions.Name kind ts ≡ actions.Open = e.action in cc
  | inr (inr (inl e)) ↦ absurd (other e.reply)
  | inr (inr (inr (inl e))) ↦ let no : actions.Name kind ts ≡ actions.Commit e.transaction = e.action in cc
  | inr (inr (inr (inr e))) ↦ let no : actions.Name kind ts ≡ actions.Commit e.transaction = e.action in cc
]

-- only a block to be attached has nodes that may be unknown
never_unknown : (s t m : State) (k : ℕ) (node : Term) (b : Bool) → MatchBool b (Replies (Full k) s (Unknown node) t) (Replies Named m (Unknown node) t) → ⊥
never_unknown s t m k node true h = let no : Unknown node ≡ Full k = h.0 in cc
never_unknown s t m k node false h = let no : Unknown node ≡ Named = h.0 in cc

pub unknown_attaches : (l : Limits) (s t : State) (i : ℕ) (kind : NameKind) (ts : List Term) (node : Term) → StepOf l s i (actions.Name kind ts) (Unknown node) t → kind ≡ Attach
unknown_attaches l s t i Fresh ts node h = absurd (never_unknown s t (with_named s Fresh ts) (length (named_with s.named ts) - 2) node (nat_lt (l.terms + 2) (length (named_with s.named ts))) h.1)
unknown_attaches l s t i Known ts node h = absurd (never_unknown s t (with_named s Known ts) (length (named_with s.named ts) - 2) node (nat_lt (l.terms + 2) (length (named_with s.named ts))) h.1)
unknown_attaches l s t i Attach ts node h = refl

net_named : (named : List Term) (net : List Change) (k : ChangeKind) (ts : List Triple) → NetNamed named net → NetNamed (named_with named (parts_of ts)) (net ++ changes_of k ts)
net_named named net Addition ts h = NetNamed-additions named net ts h
net_named named net Removal ts h = NetNamed-removals named net ts h
net_named named net Attachment ts h = NetNamed-additions named net ts h

-- once the terms of a block were named, its changes may be staged
pub fits_changes : (x : Transaction) (s t : State) (kind : NameKind) (k : ChangeKind) (ts : List Triple) → t ≡ with_named s kind (parts_of ts) → FitsState x s → FitsState (record x { net = x.net ++ changes_of k ts }) t
fits_changes x s t kind k ts e f = record {
  base = subst (λ (y : State). x.base ≤ version y) (sym e) f.base;
  net = subst (λ (y : State). NetNamed y.named (x.net ++ changes_of k ts)) (sym e) (net_named s.named x.net k ts f.net);
  staged = subst (λ (y : State). StagedNamed y.named x.staged) (sym e) (StagedNamed-naming s.named x.staged (parts_of ts) f.staged);
  verdict = f.verdict;
}

-- and so may a shapes graph
pub fits_shapes : (x : Transaction) (s t : State) (kind : NameKind) (ts : List Triple) → t ≡ with_named s kind (parts_of ts) → FitsState x s → FitsState (record x { staged = Some ts }) t
fits_shapes x s t kind ts e f = record {
  base = subst (λ (y : State). x.base ≤ version y) (sym e) f.base;
  net = subst (λ (y : State). NetNamed y.named x.net) (sym e) (NetNamed-naming s.named x.net (parts_of ts) f.net);
  staged = subst (λ (y : State). StagedNamed y.named (Some ts)) (sym e) (StagedNamed-shapes s.named ts);
  verdict = f.verdict;
}
