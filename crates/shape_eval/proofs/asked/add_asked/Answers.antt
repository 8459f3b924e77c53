use Rattle.std.proofs.Common.{ℕ, List, sym, subst}
use Rattle.std.specs.Prelude.{◌⊎◌, ◌↔◌, OnOk}
use Rattle.std.specs.List.{Contains}
use Rattle.shape_ast.specs.declared.constraint.Constraint.{Constraint}
use Rattle.shape_eval.specs.Told.{Asks}
use Rattle.shape_eval.proofs.asked.add_asked.Goals as goal

pub returns-in-ByTerm : goal.returns-in-ByTerm
returns-in-ByTerm c =
    subst (λ (k : Constraint ℕ). OnOk c.add_counted.result ((n : ℕ) → Contains c.add_counted.new.places.items n ↔ (Contains c.args.places.now.items n ⊎ Asks c.args.shape.now k n))) (sym c.in-ByTerm.is)
    c.add_counted.ensures

pub returns-in-ByShape : goal.returns-in-ByShape
returns-in-ByShape c =
    subst (λ (k : Constraint ℕ). OnOk c.add_place.result ((n : ℕ) → Contains c.add_place.new.places.items n ↔ (Contains c.args.places.now.items n ⊎ Asks c.args.shape.now k n))) (sym c.in-ByShape.is)
    c.add_place.ensures

pub returns-in-ByShapes : goal.returns-in-ByShapes
returns-in-ByShapes c =
    subst (λ (k : Constraint ℕ). OnOk c.add_places.result ((n : ℕ) → Contains c.add_places.new.places.items n ↔ (Contains c.args.places.now.items n ⊎ Asks c.args.shape.now k n))) (sym c.in-ByShapes.is)
    (subst (λ (xs : List ℕ). OnOk c.add_places.result ((n : ℕ) → Contains c.add_places.new.places.items n ↔ (Contains c.args.places.now.items n ⊎ Contains xs n))) c.as_slice.ensures c.add_places.ensures)
