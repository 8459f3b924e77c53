use Rattle.std.proofs.Common.{◌≡◌, arith, length}
use Rattle.std.specs.Prelude.{map}
use Rattle.triple_index.specs.declared.change.NumberedChange.TheVariants.{Add}
use Rattle.data_graph.proofs.AtOnce.{made_at_once}
use Rattle.data_graph.proofs.at_once.set_after.Goals as goal

pub returns-in_ok-from_list-in-Some : goal.returns-in_ok-from_list-in-Some
returns-in_ok-from_list-in-Some c =
    let none : length c.args.index.now ≡ 0 = omega (arith, c.len.ensures, c.if-len-gt0.false) in
    let added : c.args.changes.now ≡ map Add c.in-Some.added.items = rw c.in-Some.is at c.in_ok-added.ensures in
    made_at_once c.args.index.now c.in-Some.added.items c.in_ok-from_list-in-Some.field-0 c.args.changes.now none added c.in_ok-from_list-in-Some.ensures
