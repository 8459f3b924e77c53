use Rattle.shape_model.specs.Vocabulary.{sh}
use Rattle.plain_validation.proofs.Referring.{named_found}
use Rattle.plain_validation.proofs.references.named_references.Goals as goal

pub returns : goal.returns
returns c =
    named_found c.args.shapes.now c.args.shape.now (sh c.args.name.now) c.in_ok-values.values c.as_slice.result.now c.into_vec-found.result.items c.in_ok-members.members.items c.append.new.self.items c.in_ok-values.ensures c.as_slice.ensures c.into_vec-found.ensures
    c.in_ok-members.ensures c.in_ok-append.ensures.items
