use Rattle.std.proofs.Common.{refl}
use Rattle.guard_store.specs.Sessions.{StoreKeeper}
use Rattle.guard_store.specs.Answers.{OpensNothing}
use Rattle.guard_store.proofs.Cases.{at_ok, at_err}
use Rattle.guard_store.proofs.Opening.{has_room, is_full, keeper_goes_on, open_event, opens_session, spare_opened}
use Rattle.guard_store.proofs.store.Store.open.Goals as goal

pub split_off-requires-clause-room : goal.split_off-requires-clause-room
split_off-requires-clause-room g c = has_room c.args.self.now c.args.keeper c.in-Ok.number c.take_opening-pass.result.0 c.requires (at_ok _ _ _ _ c.in-Ok.is (rw c.into_parts-pass.ensures at c.take_opening-pass.ensures))

pub returns-in-Ok-clause-opens : goal.returns-in-Ok-clause-opens
returns-in-Ok-clause-opens g c =
    opens_session c.args.self.now c.args.keeper c.split_off.result.0 c.split_off.result.1 c.take_opening-pass.result.0 c.in-Ok.number c.requires (at_ok _ _ _ _ c.in-Ok.is (rw c.into_parts-pass.ensures at c.take_opening-pass.ensures)) c.split_off.ensures.kept c.split_off.ensures.new

pub returns-in-Ok-clause-seats : goal.returns-in-Ok-clause-seats
returns-in-Ok-clause-seats g c =
    let turn = at_ok _ _ _ _ c.in-Ok.is (rw c.into_parts-pass.ensures at c.take_opening-pass.ensures) in
    spare_opened c.args.self.now c.args.keeper.pass c.take_opening-pass.result.0 c.in-Ok.number c.split_off.result.0 (open_event c.in-Ok.number) turn (has_room c.args.self.now c.args.keeper c.in-Ok.number c.take_opening-pass.result.0 c.requires turn) c.split_off.ensures.kept

pub returns-in-Err-clause-opens : goal.returns-in-Err-clause-opens
returns-in-Err-clause-opens g c =
    let not = at_err _ _ _ _ c.in-Err.is (rw c.into_parts-pass.ensures at c.take_opening-pass.ensures) in
    let now : StoreKeeper = record { pass = c.take_opening-pass.result.0; opened = c.args.keeper.opened } in
    let all : OpensNothing c.in-Err.fault c.args.self.now c.args.keeper now = record {
      keeper = keeper_goes_on c.args.self.now c.args.keeper now c.in-Err.fault c.requires not refl;
      fault = not;
      full = is_full c.args.self.now c.args.keeper c.take_opening-pass.result.0 c.in-Err.fault c.requires not;
      opened = refl;
    } in
    rw (c.from_parts.ensures, c.into_parts-pass.ensures) all
