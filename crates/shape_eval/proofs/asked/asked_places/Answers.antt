use Rattle.std.proofs.Common.{ℕ, subst}
use Rattle.std.specs.Prelude.{◌⊎◌, ◌↔◌}
use Rattle.std.specs.List.{Contains}
use Rattle.shape_ast.specs.declared.constraint.Constraint.{Constraint}
use Rattle.shape_eval.specs.Told.{Asks}
use Rattle.shape_eval.proofs.Growing.{some_all, some_more}
use Rattle.shape_eval.proofs.asked.asked_places.Goals as goal

pub loop-constraint-preserved : goal.loop-constraint-preserved
loop-constraint-preserved c =
    some_more (Asks c.args.shape.now) c.args.constraints.now c.loop-constraint.constraint-index c.constraint-item.result c.loop-constraint-test.true c.loop-constraint.places.items c.add_asked.new.places.items c.loop-constraint.invariant
    (subst (λ (k : Constraint ℕ). (n : ℕ) → Contains c.add_asked.new.places.items n ↔ (Contains c.loop-constraint.places.items n ⊎ Asks c.args.shape.now k n)) c.constraint-item.is c.in_ok-add_asked.ensures)

pub returns : goal.returns
returns c = some_all (Asks c.args.shape.now) c.args.constraints.now c.loop-constraint.constraint-index c.loop-constraint-test.false c.loop-constraint.places.items c.loop-constraint.invariant
