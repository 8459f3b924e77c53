use Rattle.plain_values.specs.Tests.{IsRefusedBy}
use Rattle.plain_values.proofs.Made.{list_none, list_some}
use Rattle.plain_values.proofs.by_list.list_rows.Goals as goal

pub returns-in_default : goal.returns-in_default
returns-in_default c =
    list_none c.args.at.now c.args.component c.args.parameter.now (IsRefusedBy c.args.component c.args.at.now.told.now) c.in_ok-found.found c.new.result.items c.in_default.is c.in_ok-found.ensures c.new.ensures.items

pub returns : goal.returns
returns c =
    list_some c.args.at.now c.args.component c.args.parameter.now (IsRefusedBy c.args.component c.args.at.now.told.now) c.in_ok-found.found c.in-Some.members c.as_slice.result.now c.in_ok-rows.rows.items
    c.in-Some.is c.in_ok-found.ensures c.as_slice.ensures c.in_ok-rows.ensures
