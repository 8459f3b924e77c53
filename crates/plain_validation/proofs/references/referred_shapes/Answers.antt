use Rattle.shape_model.specs.Readings.{Sibling}
use Rattle.plain_terms.proofs.FoundItems.{finds_at}
use Rattle.plain_validation.proofs.Referring.{refers_found}
use Rattle.plain_validation.proofs.references.referred_shapes.Goals as goal

pub returns : goal.returns
returns c =
    refers_found c.args.shapes.now c.args.shape.now c.in_ok-found.found.items c.into_vec-beside.result.items c.append.new.self.items c.in_ok-found.ensures
    (finds_at (Sibling c.args.shapes.now c.args.shape.now) c.in_ok-siblings.field-0 c.into_vec-beside.result.items c.into_vec-beside.ensures c.in_ok-siblings.ensures) c.in_ok-append.ensures.items
