use Rattle.std.proofs.Common.{◌≡◌, sym, subst, arith, length}
use Rattle.shape_syntax.proofs.Scans.{read_in}
use Rattle.shape_rules.specs.declared.rule_row.RuleRow.{RuleRow}
use Rattle.shape_rules.specs.Steps.{IsNoneBefore}
use Rattle.shape_rules.proofs.least.least_row.Goals as goal
use borrow.Author.Tests.{eqb-true}

pub returns-then-is_empty : goal.returns-then-is_empty
returns-then-is_empty c = λ r there.
    let none : length c.args.rows.now ≡ 0 = eqb-true (length c.args.rows.now) 0 (sym c.if-is_empty.ensures) in
    absurd (let within = there.1 in omega arith)

pub returns : goal.returns
returns c =
    let rows = c.args.rows.now in
    let x = c.index-rows-least_place.result in
    rw c.in_ok-copied.ensures (
      read_in rows c.least_place.result x c.least_place.ensures.within c.index-rows-least_place.is,
      subst (λ (z : RuleRow). IsNoneBefore z rows) (sym c.index-rows-least_place.is) (c.least_place.ensures.least x),
    )
