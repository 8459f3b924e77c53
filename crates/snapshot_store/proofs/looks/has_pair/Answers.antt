use Rattle.std.proofs.Common.{◌∙◌}
use Rattle.collections.specs.Pairs.{pair_cmp}
use Rattle.page_tree.proofs.Reached.{found-result}
use Rattle.snapshot_store.proofs.Looking.{pair_total}
use Rattle.snapshot_store.proofs.looks.has_pair.Goals as goal

pub returns : goal.returns
returns c =
    c.is_ok.ensures.value ∙ found-result pair_cmp pair_total (c.args.first, c.args.second) c.args.pairs.now c.binary_search.result c.requires c.binary_search.ensures.bound c.binary_search.ensures.position
