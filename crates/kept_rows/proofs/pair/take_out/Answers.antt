use Rattle.std.proofs.Common.{◌∙◌, List, ap}
use Rattle.kept_rows.specs.declared.kept_row.KeptRow.{KeptRow}
use Rattle.kept_rows.specs.Merging.{without_each}
use Rattle.kept_rows.proofs.Pairs.{all_taken_out}
use Rattle.kept_rows.proofs.pair.take_out.Goals as goal

pub loop-row-init : goal.loop-row-init
loop-row-init c = ap (λ (xs : List KeptRow). without_each xs c.args.rows.now) (c.deref-row-items.ensures.value ∙ c.in_ok-found.ensures) ∙ all_taken_out c.args.pair c.args.rows.now c.recall_ascending.ensures
