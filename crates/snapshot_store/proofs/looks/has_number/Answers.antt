use Rattle.std.proofs.Common.{◌∙◌}
use Rattle.std.specs.Ordering.{nat_cmp}
use Rattle.std.proofs.lemmas.Cmp.{nat_cmp_total}
use Rattle.page_tree.proofs.Reached.{found-result}
use Rattle.snapshot_store.proofs.looks.has_number.Goals as goal

pub returns : goal.returns
returns c =
    c.is_ok.ensures.value ∙ found-result nat_cmp nat_cmp_total c.args.number c.args.numbers.now c.binary_search.result c.requires c.binary_search.ensures.bound c.binary_search.ensures.position
