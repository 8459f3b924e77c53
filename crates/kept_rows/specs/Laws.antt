-- Kept results by number, read as terms.
use Rattle.std.specs.Prelude.{◌<◌, List, length, map}
use Rattle.std.specs.List.{Contains}
use Rattle.collections.specs.Listings.{IsListing}
use Rattle.rdf_model.specs.declared.change.Change.{Change}
use Rattle.rdf_model.specs.declared.term.Term.{Term}
use Rattle.rdf_model.specs.declared.triple.Triple.{Triple}
use Rattle.rdf_model.specs.Graphs.{after}
use Rattle.rdf_model.specs.Numbers.{IsNumbering, term_at}
use Rattle.shape_model.specs.declared.result_row.ResultRow.{ResultRow}
use Rattle.shape_model.specs.Rows.{result_row_cmp}
use Rattle.shape_model.specs.Validation.{Listing}
use Rattle.change_laws.specs.Pairs.{IsKept, PairedRow}
use Rattle.change_laws.specs.Checks.{AreChecked, CheckedPair}
use Rattle.kept_rows.specs.declared.kept_row.KeptRow.{KeptRow}
use Rattle.kept_rows.specs.declared.pair_rows.PairRows.{PairRows}
use Rattle.kept_rows.specs.Kept.{IsRowOf, Merges}

-- a kept result with its pair read as terms
abbrev pub paired_row : List Term → KeptRow → PairedRow
paired_row terms k = record { shape = term_at terms k.shape; focus = term_at terms k.focus; row = k.row }

abbrev pub paired_rows : List Term → List KeptRow → List PairedRow
paired_rows terms kept = map (paired_row terms) kept

-- a pair with its results, read as terms
abbrev pub read_pair : List Term → PairRows → CheckedPair
read_pair terms p = record { shape = term_at terms p.shape; focus = term_at terms p.focus; rows = p.rows }

abbrev pub read_pairs : List Term → List PairRows → List CheckedPair
read_pairs terms pairs = map (read_pair terms) pairs

-- both numbers of each have terms
abbrev pub AreBoundRows : List Term → List KeptRow → Type 0
AreBoundRows terms kept = (k : KeptRow) → Contains kept k → (k.shape < length terms) × (k.focus < length terms)

abbrev pub AreBoundPairs : List Term → List PairRows → Type 0
AreBoundPairs terms pairs = (p : PairRows) → Contains pairs p → (p.shape < length terms) × (p.focus < length terms)

-- Just the results of each pair are kept, and each number has a term.
pub record KeepsResults (terms : List Term) (g s : List Triple) (kept : List KeptRow) : Type 0 where
  pub bound : AreBoundRows terms kept
  pub results : IsKept g s (paired_rows terms kept)

-- Just the pairs that the changes touch are there, with their results after them, and each number has a term.
pub record ChecksPairs (terms : List Term) (g s : List Triple) (net : List Change) (pairs : List PairRows) : Type 0 where
  pub bound : AreBoundPairs terms pairs
  pub checked : AreChecked g s net (read_pairs terms pairs)

-- Where just the results of each pair were kept, and the touched pairs were checked, just those after the changes are kept once they
-- are merged.
abbrev pub MergeLaw : Type 0
MergeLaw = (terms : List Term) (g s : List Triple) (net : List Change) (old new : List KeptRow) (pairs : List PairRows) → IsNumbering terms
    → KeepsResults terms g s old → ChecksPairs terms g s net pairs → Merges old pairs new → KeepsResults terms (after g net) s new

-- The kept results alone are the listing.
abbrev pub ListingLaw : Type 0
ListingLaw = (terms : List Term) (g s : List Triple) (kept : List KeptRow) (rows : List ResultRow) → KeepsResults terms g s kept
    → IsListing result_row_cmp (IsRowOf kept) rows → Listing g s rows
