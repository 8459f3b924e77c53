use Rattle.std.proofs.Common.{ℕ, sym, subst}
use Rattle.std.specs.Prelude.{◌⊎◌, ◌↔◌, Option, None}
use Rattle.std.specs.List.{Contains}
use Rattle.shape_eval.specs.Told.{places_in}
use Rattle.shape_eval.proofs.Growing.{none_in, only_one, with_none}
use Rattle.shape_eval.proofs.asked.add_optional.Goals as goal

pub returns-in-None : goal.returns-in-None
returns-in-None c =
    subst (λ (o : Option ℕ). (n : ℕ) → Contains c.args.places.now.items n ↔ (Contains c.args.places.now.items n ⊎ Contains (places_in o) n)) (sym c.in-None.is)
    (with_none c.args.places.now.items (Contains (places_in None)) none_in)

pub returns-in_ok-add_place-in-Some : goal.returns-in_ok-add_place-in-Some
returns-in_ok-add_place-in-Some c =
    subst (λ (o : Option ℕ). (n : ℕ) → Contains c.add_place.new.places.items n ↔ (Contains c.args.places.now.items n ⊎ Contains (places_in o) n)) (sym c.in-Some.is)
    (only_one c.args.places.now.items c.add_place.new.places.items c.in-Some.place c.in_ok-add_place-in-Some.ensures)
