use Rattle.shape_rules.specs.Broken.{LooksRow, SizeRow}
use Rattle.shape_rules.specs.Steps.{DeepPathRow}
use Rattle.shape_syntax.proofs.Loops.{gave_as, gave_both}
use Rattle.shape_rules.proofs.limits.push_measure_rows.Goals as goal

pub has_deep_path-deep-requires-clause-deep : goal.has_deep_path-deep-requires-clause-deep
has_deep_path-deep-requires-clause-deep c = rw c.indexed-indexed.ensures.value c.requires.measures.deep

pub is_too_large-large-requires-clause-node : goal.is_too_large-large-requires-clause-node
is_too_large-large-requires-clause-node c = rw c.indexed-indexed.ensures.value c.requires.node

pub has_too_many_looks-requires-clause-node : goal.has_too_many_looks-requires-clause-node
has_too_many_looks-requires-clause-node c = rw c.indexed-indexed.ensures.value c.requires.node

pub returns : goal.returns
returns c =
    let s = c.args.graph.now in
    let n = c.args.node.now in
    let shape = c.requires.node in
    let same = c.indexed-indexed.ensures.value in
    let deep = rw same at c.has_deep_path-deep.ensures in
    let large = rw same at c.is_too_large-large.ensures in
    let many = rw same at c.in_ok-many.ensures in
    gave_both (DeepPathRow s n) _ _ _ _
    (gave_as _ (DeepPathRow s n) c.args.rows.now c.push_whole.new.rows (λ r. (λ h. ((shape, deep.0 h.0), h.1), λ h. (deep.1 h.0.1, h.1))) c.in_ok-push_whole.ensures)
    (gave_both (SizeRow s n) (LooksRow s n) _ _ _
    (gave_as _ (SizeRow s n) c.push_whole.new.rows c.push_whole-2.new.rows (λ r. (λ h. ((shape, large.0 h.0), h.1), λ h. (large.1 h.0.1, h.1))) c.in_ok-push_whole-2.ensures)
    (gave_as _ (LooksRow s n) c.push_whole-2.new.rows c.push_whole-3.new.rows (λ r. (λ h. ((shape, many.0 h.0), h.1), λ h. (many.1 h.0.1, h.1))) c.in_ok-push_whole-3.ensures))
