-- Which results block.
use Rattle.std.proofs.Common.{◌≡◌, Bool, true, false, List, [], ◌∷◌, sym, subst}
use Rattle.std.specs.Prelude.{MatchBool}
use Rattle.shape_model.specs.declared.result_row.ResultRow.{ResultRow}
use Rattle.store_model.specs.declared.commit.Transaction.{Transaction}
use Rattle.store_model.specs.declared.event.BlockMode.{BlockMode}
use Rattle.store_model.specs.declared.event.BlockMode.TheVariants.{All}
use Rattle.store_model.specs.declared.event.Reply.{Reply}
use Rattle.store_model.specs.declared.event.Reply.TheVariants.{Refused}
use Rattle.store_model.specs.Blocking.{has_blocking}
use Rattle.store_model.specs.Store.{State, Replies, AcceptsCommit, again, shapes_under}
use Rattle.store_model.proofs.Blocking.{NoBlocking-listed, NoBlocking-stays}
use Rattle.store_laws.specs.Blocking.{CommitsByAnyRow, ListingsTellBlocking, NoBlockingIsNoResult, NoBlockingStays, RowsRefuseAll}

pub listings_tell_blocking : ListingsTellBlocking
listings_tell_blocking = NoBlocking-listed

pub no_blocking_stays : NoBlockingStays
no_blocking_stays = NoBlocking-stays

never : true ≡ false → ⊥
never e = cc

pub no_blocking_is_no_result : NoBlockingIsNoResult
no_blocking_is_no_result g s = (λ none row i. never (none row i), λ none row i. absurd (none row i))

abbrev by_mode : (s : State) (x : Transaction) (rows : List ResultRow) (r : Reply) (t : State) → Bool → Type 0
by_mode s x rows r t b = MatchBool b (Replies (Refused rows (again s.commits x.staged x.verdict)) s r t) (AcceptsCommit s x r t)

to_any : (s t : State) (x : Transaction) (rows : List ResultRow) (r : Reply) → by_mode s x rows r t (has_blocking All (shapes_under s.shapes x.staged) rows) → CommitsByAnyRow s x rows r t
to_any s t x [] r h = h
to_any s t x (row ∷ rows) r h = h

from_any : (s t : State) (x : Transaction) (rows : List ResultRow) (r : Reply) → CommitsByAnyRow s x rows r t → by_mode s x rows r t (has_blocking All (shapes_under s.shapes x.staged) rows)
from_any s t x [] r h = h
from_any s t x (row ∷ rows) r h = h

pub rows_refuse_all : RowsRefuseAll
rows_refuse_all l s t x rows r e = (
  λ h. to_any s t x rows r (subst (λ (m : BlockMode). by_mode s x rows r t (has_blocking m (shapes_under s.shapes x.staged) rows)) e h),
  λ h. subst (λ (m : BlockMode). by_mode s x rows r t (has_blocking m (shapes_under s.shapes x.staged) rows)) (sym e) (from_any s t x rows r h),
)
