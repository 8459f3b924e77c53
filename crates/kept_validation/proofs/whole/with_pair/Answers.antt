use Rattle.std.proofs.Common.{◌≡◌, [], refl, rules}
use Rattle.kept_validation.proofs.Keeping.{all_given, next_given, none_given}
use Rattle.kept_validation.proofs.whole.with_pair.Goals as goal

pub loop-row-init : goal.loop-row-init
loop-row-init c = none_given c.args.shape c.args.focus c.args.rows.items c.in_ok-kept.kept.items c.in_ok-kept.ensures.items

pub loop-row-preserved : goal.loop-row-preserved
loop-row-preserved c =
    next_given c.args.shape c.args.focus c.args.rows.items c.loop-row.kept.items c.push.new.self.items c.loop-row.rest.items c.pop.new.self.items c.in-Some.row
    (record { shape = c.args.shape; focus = c.args.focus; row = c.in-Some.row }) c.in-Some.ensures.items refl c.in_ok-push.ensures.items c.loop-row.invariant

pub returns : goal.returns
returns c =
    let none : c.loop-row.rest.items ≡ [] = search rules in
    all_given c.args.shape c.args.focus c.args.rows.items c.loop-row.kept.items c.loop-row.rest.items none c.loop-row.invariant
