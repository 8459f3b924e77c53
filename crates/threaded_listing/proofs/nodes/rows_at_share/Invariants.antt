use Rattle.std.proofs.Common.{◌≡◌, ◌++◌}
use Rattle.std.specs.Vec.Iter.{into_iter_items}
use Rattle.threaded_listing.specs.ByNode.{HaveResults}
use Rattle.threaded_listing.specs.Shares.{nodes_of}
use Rattle.threaded_listing.proofs.nodes.rows_at_share.Given as goal

abbrev pub invariant-loop-visit : goal.invariant-loop-visit
invariant-loop-visit g l = record {
  rest : l.yielded ++ into_iter_items l.visit-iterator ≡ l.fn.share.visits.items;
  found : HaveResults l.evaluation.terms l.evaluation.ids l.evaluation.shapes l.shape (nodes_of l.yielded) l.found.items;
}
