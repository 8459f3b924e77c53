use Rattle.std.specs.Prelude.{◌⊎◌}
use Rattle.std.specs.List.{Contains}
use Rattle.std.specs.Ordering.{nat_cmp}
use Rattle.shape_model.proofs.Listings.{listing_same}
use Rattle.shape_eval.specs.Predicates.{IsPathAtSome}
use Rattle.shape_eval.proofs.Growing.{either_in}
use Rattle.shape_eval.proofs.closing.allowed_predicates.Goals as goal

pub returns : goal.returns
returns c =
    let all = c.extend_from_slice.new.self.items in
    listing_same nat_cmp (Contains all) (λ p. IsPathAtSome c.args.shapes.now c.args.properties.now p ⊎ Contains c.args.ignored.now p)
    (either_in c.in_ok-allowed.allowed.items c.args.ignored.now all (IsPathAtSome c.args.shapes.now c.args.properties.now) c.in_ok-allowed.ensures c.in_ok-extend_from_slice.ensures.items)
    c.in_ok-sorted_once.field-0.items c.in_ok-sorted_once.ensures
