use Rattle.collections.proofs.SortedOnce.{sorted_listing}
use Rattle.collections.proofs.sorting.sorted_once.Goals as goal

pub returns : goal.returns
returns g c = sorted_listing g.T.Ord.cmp g.met.T.Ord.total g.met.T.ExactOrder.tied_is_equal g.T.PartialEq.eq g.met.T.Ord.matches_eq _ _ _ c.in_ok-sort.ensures.permutation c.in_ok-sort.ensures.sorted c.dedup.ensures.filtered
