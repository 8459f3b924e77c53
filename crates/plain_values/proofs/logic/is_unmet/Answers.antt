use Rattle.std.proofs.Common.{◌==◌, not, length, sym, subst, IsTrue}
use Rattle.std.specs.Prelude.{◌↔◌}
use Rattle.plain_values.specs.declared.logic.Demand.{Demand}
use Rattle.plain_values.specs.Tests.{IsUnmet}
use Rattle.plain_values.proofs.Tallies.{unmet_all, unmet_any, unmet_one}
use Rattle.plain_values.proofs.logic.is_unmet.Goals as goal

pub returns-in-All : goal.returns-in-All
returns-in-All c =
    let n = c.how_many-yes.result in
    subst (λ (d : Demand). IsTrue (not (n == length c.args.shapes.now)) ↔ IsUnmet d c.args.told.now c.args.shapes.now c.args.node.now) (sym c.in-All.is) (unmet_all c.args.told.now c.args.shapes.now c.args.node.now n c.how_many-yes.ensures)

pub returns-in-Any : goal.returns-in-Any
returns-in-Any c =
    let n = c.how_many-yes.result in
    subst (λ (d : Demand). IsTrue (n == 0) ↔ IsUnmet d c.args.told.now c.args.shapes.now c.args.node.now) (sym c.in-Any.is) (unmet_any c.args.told.now c.args.shapes.now c.args.node.now n c.how_many-yes.ensures)

pub returns-in-One : goal.returns-in-One
returns-in-One c =
    let n = c.how_many-yes.result in
    subst (λ (d : Demand). IsTrue (not (n == 1)) ↔ IsUnmet d c.args.told.now c.args.shapes.now c.args.node.now) (sym c.in-One.is) (unmet_one c.args.told.now c.args.shapes.now c.args.node.now n c.how_many-yes.ensures)
