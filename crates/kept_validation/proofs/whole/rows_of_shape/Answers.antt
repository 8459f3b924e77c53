use Rattle.std.proofs.Common.{◌≡◌, ◌∙◌, ◌+◌, ◌<◌, ℕ, List, ap, length, subst, sym}
use Rattle.std.specs.List.{All}
use Rattle.shape_ast.specs.declared.shape.Shape.{Shape}
use Rattle.shape_eval.specs.Told.{node_at}
use Rattle.parallel_validate.proofs.Counting.{shape_steps}
use Rattle.kept_validation.specs.Keeping.{KeepsAtNodes}
use Rattle.kept_validation.proofs.Keeping.{at_targets}
use Rattle.kept_validation.proofs.whole.rows_of_shape.Goals as goal

pub node_of-node-requires : goal.node_of-node-requires
node_of-node-requires g c = subst (λ (xs : List (Shape ℕ)). c.args.shape < length xs) (sym c.bound-bound.ensures) c.requires

pub rows_at-requires-clause-node : goal.rows_at-requires-clause-node
rows_at-requires-clause-node g c κs within = c.node_of-node.ensures ∙ ap (λ (xs : List (Shape ℕ)). node_at xs c.args.shape) c.bound-bound.ensures

pub rows_at-requires-clause-nodes : goal.rows_at-requires-clause-nodes
rows_at-requires-clause-nodes g c κs within = subst (λ (ns : List ℕ). All (λ n. n < length c.args.evaluation.now.terms) ns) (sym c.deref.ensures.value) c.in_ok-nodes.ensures.numbers

pub returns-clause-rows : goal.returns-clause-rows
returns-clause-rows g c =
    let e = c.args.evaluation.now in
    let rows = c.in_ok-rows_at.field-0.items in
    at_targets e.terms e.ids e.shapes c.args.shape c.in_ok-nodes.nodes.items rows c.in_ok-nodes.ensures.targets
    (subst (λ (ns : List ℕ). KeepsAtNodes e.terms e.ids e.shapes c.args.shape ns rows) c.deref.ensures.value c.in_ok-rows_at.ensures.rows)

pub returns-clause-steps : goal.returns-clause-steps
returns-clause-steps g c =
    let e = c.args.evaluation.now in
    shape_steps e.terms e.ids e.shapes c.args.shape c.in_ok-nodes.nodes.items c.args.steps.now c.rows_at.new.steps c.recall.ensures.numbering c.in_ok-nodes.ensures.targets
    (subst (λ (ns : List ℕ). c.rows_at.new.steps ≡ c.args.steps.now + length ns) c.deref.ensures.value c.in_ok-rows_at.ensures.steps)
