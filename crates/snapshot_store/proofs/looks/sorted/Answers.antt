use Rattle.snapshot_store.proofs.Looking.{sorted_same}
use Rattle.snapshot_store.proofs.looks.sorted.Goals as goal

pub returns-clause-same : goal.returns-clause-same
returns-clause-same c =
    sorted_same c.args.numbers (record { out = c.in_ok-sorted_once.field-0; into = c.in_ok-sorted_once-2.field-0; any = c.in_ok-sorted_once-3.field-0 }) c.in_ok-sorted_once.ensures c.in_ok-sorted_once-2.ensures c.in_ok-sorted_once-3.ensures
