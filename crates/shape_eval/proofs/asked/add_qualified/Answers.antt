use Rattle.std.proofs.Common.{ℕ, List, subst}
use Rattle.std.specs.Prelude.{◌⊎◌, ◌↔◌}
use Rattle.std.specs.List.{Contains}
use Rattle.shape_eval.specs.Told.{places_in}
use Rattle.shape_eval.proofs.Growing.{beside_both}
use Rattle.shape_eval.proofs.asked.add_qualified.Goals as goal

pub returns : goal.returns
returns c =
    beside_both c.args.places.now.items c.add_optional.new.places.items c.add_places.new.places.items (Contains (places_in c.args.shape.now.qualified)) (Contains c.args.shape.now.siblings)
    c.in_ok-add_optional.ensures
    (subst (λ (xs : List ℕ). (n : ℕ) → Contains c.add_places.new.places.items n ↔ (Contains c.add_optional.new.places.items n ⊎ Contains xs n)) c.as_slice.ensures c.in_ok-add_places.ensures)
