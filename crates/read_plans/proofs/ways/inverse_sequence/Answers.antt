use Rattle.std.proofs.Common.{◌∙◌, ap}
use Rattle.shape_model.specs.Paths as defined
use Rattle.path_ast.specs.PathReadings.{defined_path, members}
use Rattle.path_ast.proofs.Rows.{sequence_read}
use Rattle.read_plans.proofs.ways.inverse_sequence.Goals as goal

pub returns : goal.returns
returns c =
    let first = ap defined_path c.in_ok-new.ensures.ok ∙ c.in_ok-copy.ensures in
    let parts = sequence_read c.in_ok-new.field-0 c.in_ok-more.more (λ t. t) ∙ (λ i. defined.Sequence (members (first i) (c.in_ok-more.ensures i))) in
    ap (λ p. defined.Inverse (defined_path p)) c.in_ok-new-2.ensures.ok ∙ ap defined.Inverse parts
