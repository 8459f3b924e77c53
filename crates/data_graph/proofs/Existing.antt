-- Kept results have a listing.
use Rattle.std.proofs.Common.{List, [], ◌∷◌, map, subst, inl, inr}
use Rattle.std.specs.Prelude.{◌↔◌}
use Rattle.std.specs.List.{Contains}
use Rattle.collections.specs.Listings.{IsListing}
use Rattle.collections.specs.Ordered.{IsAscending, with_item}
use Rattle.collections.proofs.Ascending.{IsAscending-with_item}
use Rattle.collections.proofs.Members.{has_cases, has_equal, has_tail, with_cases, with_new, with_old}
use Rattle.rdf_model.specs.declared.term.Term.{Term}
use Rattle.rdf_model.specs.declared.triple.Triple.{Triple}
use Rattle.shape_model.specs.declared.result_row.ResultRow.{ResultRow}
use Rattle.shape_model.specs.Orders.{result_row_exact, result_row_total}
use Rattle.shape_model.specs.Rows.{result_row_cmp}
use Rattle.kept_rows.specs.declared.kept_row.KeptRow.{KeptRow}
use Rattle.kept_rows.specs.Laws.{KeepsResults}
use Rattle.kept_rows.proofs.Merged.{listed, listing_law}
use Rattle.data_graph.specs.Pairs.{HasListing}

sorted : List ResultRow → List ResultRow
sorted [] = []
sorted (r ∷ rs) = with_item result_row_cmp r (sorted rs)

sorted_ascends : (rs : List ResultRow) → IsAscending result_row_cmp (sorted rs)
unfolding sorted
sorted_ascends [] = tt
sorted_ascends (r ∷ rs) = IsAscending-with_item result_row_total r (sorted rs) (sorted_ascends rs)

sorted_members : (rs : List ResultRow) (x : ResultRow) → Contains (sorted rs) x ↔ Contains rs x
unfolding sorted
sorted_members [] x = (λ c. c, λ c. c)
sorted_members (r ∷ rs) x =
    let more = sorted_members rs x in (
      λ c. elim (with_cases result_row_cmp r (sorted rs) x c) [
        | inl e ↦ has_equal r rs x e
        | inr d ↦ has_tail r rs x (more.0 d)
      ],
      λ c. elim (has_cases r rs x c) [
        | inl e ↦ subst (λ (w : ResultRow). Contains (with_item result_row_cmp r (sorted rs)) w) e (with_new result_row_cmp result_row_total result_row_exact r (sorted rs))
        | inr d ↦ with_old result_row_cmp r (sorted rs) x (more.1 d)
      ],
    )

pub has_listing : (terms : List Term) (g s : List Triple) (kept : List KeptRow) → KeepsResults terms g s kept → HasListing g s
has_listing terms g s kept keeps =
    let rows : List ResultRow = map (λ (k : KeptRow). k.row) kept in
    let l : IsListing result_row_cmp (Contains rows) (sorted rows) = record { ascending = sorted_ascends rows; members = sorted_members rows } in
    (sorted rows, listing_law terms g s kept (sorted rows) keeps (listed kept rows (sorted rows) (λ i. rows) l))
