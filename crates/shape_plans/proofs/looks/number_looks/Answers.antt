use Rattle.std.proofs.Common.{◌<◌, List, [], length, arith, subst, sym}
use Rattle.std.proofs.lemmas.List.Elements.{All-nil}
use Rattle.path_ast.specs.PathReadings.{IsNamed}
use Rattle.read_plans.specs.NamedRows.{HoldsOfRow}
use Rattle.read_plans.specs.Rows.{read_look}
use Rattle.focus_affected.specs.declared.plan.NumberedLook.{NumberedLook}
use Rattle.focus_affected.specs.Plans.{AreBoundRows, IsBoundLookRow}
use Rattle.shape_plans.proofs.Numbering.{all_rows, held_at, next_rows, no_rows}
use Rattle.shape_plans.proofs.looks.number_looks.Goals as goal

pub loop-look-init : goal.loop-look-init
loop-look-init g c =
    let terms = g.N.Names.terms c.args.names.now in
    record {
      bound = subst (λ (ls : List NumberedLook). AreBoundRows (length terms) ls) (sym c.new-numbered.ensures) (All-nil (IsBoundLookRow (length terms)));
      rows = no_rows terms c.args.looks.now c.new-numbered.result c.new-numbered.ensures;
    }

pub number_look-requires : goal.number_look-requires
number_look-requires g c =
    let less : c.loop-look.look-index < length c.args.looks.now = omega (arith, c.loop-look-test.true) in
    held_at (HoldsOfRow (IsNamed (g.N.Names.terms c.args.names.now))) read_look c.args.looks.now c.loop-look.look-index c.look-item.result c.requires less c.look-item.is

pub loop-look-preserved : goal.loop-look-preserved
loop-look-preserved g c =
    let terms = g.N.Names.terms c.args.names.now in
    let look = c.in_ok-number_look.field-0 in
    let less : c.loop-look.look-index < length c.args.looks.now = omega (arith, c.loop-look-test.true) in
    record {
      bound = c.in_ok-push_look.ensures.bound (length terms) c.in_ok-number_look.ensures.bound c.loop-look.invariant.bound;
      rows = next_rows terms c.args.looks.now c.loop-look.look-index c.look-item.result look c.loop-look.numbered c.push_look.new.looks less c.look-item.is c.in_ok-number_look.ensures.same c.loop-look.invariant.rows
          (λ row. c.in_ok-push_look.ensures.rows terms row);
    }

pub returns-clause-rows : goal.returns-clause-rows
returns-clause-rows g c = all_rows (g.N.Names.terms c.args.names.now) c.args.looks.now c.loop-look.look-index c.loop-look.numbered c.loop-look-test.false c.loop-look.invariant.rows
