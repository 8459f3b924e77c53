use Rattle.read_plans.proofs.Copies.{alternative_copied, sequence_copied}
use Rattle.read_plans.proofs.ways.+copying.Goals as goal

pub copied_path-returns-in_ok-first-in-Sequence : goal.copied_path-returns-in_ok-first-in-Sequence
copied_path-returns-in_ok-first-in-Sequence t c =
    sequence_copied c.args.path.now c.in-Sequence.first c.in-Sequence.others c.deref-in-Sequence.result.now c.deref-in-Sequence-2.result.now c.deref-in-Sequence.ensures c.deref-in-Sequence-2.ensures.value
    c.copied_path-in-Sequence.result c.boxed-in-Sequence.result c.copied_paths.result c.in_ok-first-in-Sequence.first c.in_ok-first-in-Sequence.more c.in_ok-first-in-Sequence.ensures.0 c.in_ok-first-in-Sequence.ensures.1
    c.boxed-in-Sequence.ensures c.copied_path-in-Sequence.ensures c.copied_paths.ensures c.in-Sequence.is

pub copied_path-returns-in_ok-first-in-Alternative : goal.copied_path-returns-in_ok-first-in-Alternative
copied_path-returns-in_ok-first-in-Alternative t c =
    alternative_copied c.args.path.now c.in-Alternative.first c.in-Alternative.others c.deref-in-Alternative.result.now c.deref-in-Alternative-2.result.now c.deref-in-Alternative.ensures c.deref-in-Alternative-2.ensures.value
    c.copied_path-in-Alternative.result c.boxed-in-Alternative.result c.copied_paths-in-Alternative.result c.in_ok-first-in-Alternative.first c.in_ok-first-in-Alternative.more c.in_ok-first-in-Alternative.ensures.0 c.in_ok-first-in-Alternative.ensures.1
    c.boxed-in-Alternative.ensures c.copied_path-in-Alternative.ensures c.copied_paths-in-Alternative.ensures c.in-Alternative.is
