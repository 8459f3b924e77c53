use Rattle.std.proofs.Common.{◌-◌, arith, inl, inr}
use Rattle.follower.proofs.Placed.{found_applied, none_applied}
use Rattle.follower.proofs.kept.applied_under.Goals as goal

pub returns-then-number-eq0 : goal.returns-then-number-eq0
returns-then-number-eq0 c = none_applied c.args.applied.now c.args.number c.requires (inl c.if-number-eq0.true)

pub returns-then-number-applied : goal.returns-then-number-applied
returns-then-number-applied c = none_applied c.args.applied.now c.args.number c.requires (inr (let out = c.if-number-applied.true in omega (arith, out)))

pub returns : goal.returns
returns c =
    let some = c.if-number-eq0.false in
    let within = c.if-number-applied.false in
    found_applied c.args.applied.now c.args.number (c.args.number - 1) c.index-applied-number.result c.requires (omega (arith, some)) (omega (arith, some, within)) c.index-applied-number.is
