use Rattle.std.proofs.Common.{inl, refl}
use Rattle.guard_store.proofs.Cases.{at_ok, at_err}
use Rattle.guard_store.proofs.Calling.{names_unknown, names_full, names_failed, open_now}
use Rattle.guard_store.proofs.store.Store.name_for.Goals as goal

pub returns-in-Ok : goal.returns-in-Ok
returns-in-Ok g c =
    let is = open_now _ c.requires.open in
    rw c.from_parts-session.ensures (is, at_ok _ _ _ _ c.in-Ok.is (rw c.into_parts-pass.ensures at c.take_names-pass.ensures), rw c.into_parts-pass.ensures refl)

pub returns-in-Err-Unknown : goal.returns-in-Err-Unknown
returns-in-Err-Unknown g c =
    let is = open_now _ c.requires.open in
    rw c.from_parts-session.ensures (is, names_unknown _ _ _ _ _ _ _ _ c.in-Err-Unknown.field-0-is (at_err _ _ _ _ c.in-Err-Unknown.is (rw c.into_parts-pass.ensures at c.take_names-pass.ensures)), rw c.into_parts-pass.ensures refl)

pub returns-in-Err-Full : goal.returns-in-Err-Full
returns-in-Err-Full g c =
    let is = open_now _ c.requires.open in
    rw c.from_parts-session.ensures (is, names_full _ _ _ _ _ _ _ _ c.in-Err-Full.field-0-is (at_err _ _ _ _ c.in-Err-Full.is (rw c.into_parts-pass.ensures at c.take_names-pass.ensures)), rw c.into_parts-pass.ensures refl)

pub returns-in-Err-Memory : goal.returns-in-Err-Memory
returns-in-Err-Memory g c =
    let is = open_now _ c.requires.open in
    rw c.from_parts-session.ensures (is, inl (names_failed _ _ _ _ _ _ _ c.in-Err-Memory.field-0-is (at_err _ _ _ _ c.in-Err-Memory.is (rw c.into_parts-pass.ensures at c.take_names-pass.ensures))), rw c.into_parts-pass.ensures refl)
