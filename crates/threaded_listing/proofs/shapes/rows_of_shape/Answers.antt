use Rattle.std.proofs.Common.{◌≡◌, ◌+◌, ◌<◌, ℕ, List, length, subst, sym}
use Rattle.std.specs.List.{All}
use Rattle.parallel_validate.specs.Whole.{CollectsAtNodes}
use Rattle.parallel_validate.proofs.Counting.{shape_steps}
use Rattle.parallel_validate.proofs.Gathering.{at_targets}
use Rattle.threaded_listing.proofs.shapes.rows_of_shape.Goals as goal

pub rows_at-requires-clause-nodes : goal.rows_at-requires-clause-nodes
rows_at-requires-clause-nodes g c κs within = subst (λ (ns : List ℕ). All (λ n. n < length c.args.evaluation.now.terms) ns) (sym c.deref.ensures.value) c.in_ok-nodes.ensures.numbers

pub returns-clause-rows : goal.returns-clause-rows
returns-clause-rows g c =
    let e = c.args.evaluation.now in
    let rows = c.in_ok-rows_at.field-0.items in
    at_targets e.terms e.ids e.shapes c.args.shape c.in_ok-nodes.nodes.items rows c.in_ok-nodes.ensures.targets
    (subst (λ (ns : List ℕ). CollectsAtNodes e.terms e.ids e.shapes c.args.shape ns rows) c.deref.ensures.value c.in_ok-rows_at.ensures.rows)

pub returns-clause-steps : goal.returns-clause-steps
returns-clause-steps g c =
    let e = c.args.evaluation.now in
    shape_steps e.terms e.ids e.shapes c.args.shape c.in_ok-nodes.nodes.items c.args.steps.now c.rows_at.new.steps c.recall.ensures.numbering c.in_ok-nodes.ensures.targets
    (subst (λ (ns : List ℕ). c.rows_at.new.steps ≡ c.args.steps.now + length ns) c.deref.ensures.value c.in_ok-rows_at.ensures.steps)
