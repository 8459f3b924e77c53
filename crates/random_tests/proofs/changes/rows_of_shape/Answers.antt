use Rattle.std.proofs.Common.{◌<◌, ℕ, List, length, subst, sym}
use Rattle.std.specs.List.{All}
use Rattle.shape_eval.specs.Settings.{Setting}
use Rattle.random_tests.proofs.changes.rows_of_shape.Goals as goal

pub rows_at-requires-clause-place : goal.rows_at-requires-clause-place
rows_at-requires-clause-place g c = subst (λ (e : Setting). c.args.place < length e.shapes) (sym c.new-evaluation.ensures) c.requires.place

pub rows_at-requires-clause-nodes : goal.rows_at-requires-clause-nodes
rows_at-requires-clause-nodes g c =
    let terms = c.args.names.now in
    let is = c.requires.planned in
    let named = subst (λ (ns : List ℕ). All (λ n. n < length terms) ns) (sym c.deref.ensures.value) (c.in_ok-nodes.ensures.numbers terms c.requires.numbering c.requires.graph is.words is.bound) in
    subst (λ (e : Setting). All (λ n. n < length e.terms) c.deref.result.now) (sym c.new-evaluation.ensures) named
