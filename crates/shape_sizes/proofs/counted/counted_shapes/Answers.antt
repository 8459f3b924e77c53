use Rattle.std.proofs.Common.{◌∙◌, ◌++◌, List, ap}
use Rattle.rdf_model.specs.declared.term.Term.{Term}
use Rattle.shape_sizes.proofs.counted.counted_shapes.Goals as goal

pub returns : goal.returns
returns c =
    let first = c.in_ok-nodes.ensures in
    let qualified = c.in_ok-push_qualified.ensures in
    (first.0, qualified.0, first.1, qualified.1, qualified.2 ∙ ap (λ (zs : List Term). zs ++ qualified.0) first.2)
