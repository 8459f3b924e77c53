use Rattle.std.proofs.Common.{refl}
use Rattle.plain_components.proofs.AllComponents.{place_found, place_off, read_components}
use Rattle.plain_components.proofs.component.place_rows.Goals as goal

pub returns-then-branch : goal.returns-then-branch
returns-then-branch c = place_off c.args.at.now c.new.result.items (c.in_ok-is_deactivated.ensures.0 c.if-branch.true) c.new.ensures.items

pub returns : goal.returns
returns c =
    place_found c.args.at.now (λ d. let k = c.in_ok-is_deactivated.ensures.1 d in cc (k, c.if-branch.false)) read_components refl c.in_ok-rows.rows.items c.in_ok-more.more.items c.append.new.self.items c.in_ok-rows.ensures c.in_ok-more.ensures
    c.in_ok-append.ensures.items
