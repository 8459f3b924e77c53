-- A verdict changes nothing but why a commit evaluates again.
use Rattle.std.proofs.Common.{ℕ, Bool, true, false, nat_lt, List, length, Option, Some, None, ap, inl, inr}
use Rattle.std.specs.Prelude.{MatchBool, MatchOption}
use Rattle.store_model.specs.declared.event.Limits.{Limits}
use Rattle.store_model.specs.declared.commit.Overtaker.{Overtaker}
use Rattle.shape_model.specs.declared.result_row.ResultRow.{ResultRow}
use Rattle.store_model.specs.declared.commit.Transaction.{Transaction}
use Rattle.store_model.specs.declared.event.Reply.{Reply}
use Rattle.store_model.specs.declared.event.Reply.TheVariants.{Conflict, FullTriples, Refused, Stopped}
use Rattle.rdf_model.specs.Graphs.{after}
use Rattle.store_model.specs.Blocking.{has_blocking}
use Rattle.store_model.specs.Store.{State, Replies, AcceptsCommit, CommitsByListing, CommitsWithinLimit, CommitsUnlessOvertaken, again, overtaker, shapes_under, version}
use Rattle.store_laws.specs.Verdicts.{unaided, VerdictAside}

abbrev bare : Transaction → Transaction
bare x = record x { verdict = None }

accepts_aside : (s t : State) (x : Transaction) (r : Reply) → AcceptsCommit s x r t → AcceptsCommit s (bare x) (unaided s.commits x.staged r) t
accepts_aside s t x r h = elim h [
  | inl a ↦ inl (ap (unaided s.commits x.staged) a.0, a.1)
  | inr a ↦ inr (ap (unaided s.commits x.staged) a.0, a.1)
]

rows_aside : (s t : State) (x : Transaction) (rows : List ResultRow) (r : Reply) (b : Bool) → MatchBool b (Replies (Refused rows (again s.commits x.staged x.verdict)) s r t) (AcceptsCommit s x r t)
    → MatchBool b (Replies (Refused rows (again s.commits x.staged None)) s (unaided s.commits x.staged r) t) (AcceptsCommit s (bare x) (unaided s.commits x.staged r) t)
rows_aside s t x rows r true h = (ap (unaided s.commits x.staged) h.0, h.1)
rows_aside s t x rows r false h = accepts_aside s t x r h

weighed_aside : (l : Limits) (s t : State) (x : Transaction) (n : ℕ) (r : Reply) (b : Bool) → MatchBool b (Replies (FullTriples n) s r t) (CommitsByListing l s x r t)
    → MatchBool b (Replies (FullTriples n) s (unaided s.commits x.staged r) t) (CommitsByListing l s (bare x) (unaided s.commits x.staged r) t)
weighed_aside l s t x n r true h = (ap (unaided s.commits x.staged) h.0, h.1)
weighed_aside l s t x n r false h = (h.0, h.1, rows_aside s t x h.0 r (has_blocking l.mode (shapes_under s.shapes x.staged) h.0) h.2)

overtaken_aside : (l : Limits) (s t : State) (x : Transaction) (r : Reply) (o : Option Overtaker) → MatchOption o (CommitsWithinLimit l s x r t) (λ h. Replies (Conflict h.commit h.triple) s r t)
    → MatchOption o (CommitsWithinLimit l s (bare x) (unaided s.commits x.staged r) t) (λ h. Replies (Conflict h.commit h.triple) s (unaided s.commits x.staged r) t)
overtaken_aside l s t x r None h = weighed_aside l s t x (length (after s.graph x.net)) r (nat_lt l.triples (length (after s.graph x.net))) h
overtaken_aside l s t x r (Some y) h = (ap (unaided s.commits x.staged) h.0, h.1)

commits_aside : (l : Limits) (s t : State) (x : Transaction) (r : Reply) (b : Bool) → MatchBool b (Replies (Stopped (version s)) s r t) (CommitsUnlessOvertaken l s x r t)
    → MatchBool b (Replies (Stopped (version s)) s (unaided s.commits x.staged r) t) (CommitsUnlessOvertaken l s (bare x) (unaided s.commits x.staged r) t)
commits_aside l s t x r true h = (ap (unaided s.commits x.staged) h.0, h.1)
commits_aside l s t x r false h = overtaken_aside l s t x r (overtaker s.commits x.base x.finds) h

pub VerdictAside-holds : VerdictAside
VerdictAside-holds l s t i x r h = (h.0, record { base = h.1.base; change = h.1.change; net = h.1.net; staged = h.1.staged; verdict = tt }, commits_aside l s t x r s.stopped h.2)
