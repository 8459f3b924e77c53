use Rattle.std.proofs.Common.{◌≡◌, ◌∙◌, List, ℕ, ap, false, true, rules, sym, inl, inr}
use Rattle.outside.specs.Counts.{is_listed}
use Rattle.outside.proofs.fake_maker.FakeMakerMaker.build.Goals as goal

pub returns-then-refuses-clause-gives : goal.returns-then-refuses-clause-gives
returns-then-refuses-clause-gives g c =
    let listed = sym c.is_among-refuses.ensures ∙ c.if-refuses.true in
    (search rules, inl (search (rules, listed), search rules))

pub returns-in-Ok-clause-gives : goal.returns-in-Ok-clause-gives
returns-in-Ok-clause-gives g c =
    let maker_is : c.args.self.now.maker ≡ c.self.inside.maker = search rules in
    let listed = sym c.is_among-refuses.ensures ∙ c.if-refuses.false in
    (search rules, (search (rules, listed), rw maker_is c.in-Ok.ensures.gives))

pub returns-in-Err-Refused-clause-gives : goal.returns-in-Err-Refused-clause-gives
returns-in-Err-Refused-clause-gives g c =
    let maker_is : c.args.self.now.maker ≡ c.self.inside.maker = search rules in
    let refused = rw c.in-Err-Refused.field-0-is at c.in-Err-Refused.ensures.refused in
    let gives = rw c.in-Err-Refused.field-0-is at c.in-Err-Refused.ensures.gives in
    let listed = sym c.is_among-refuses.ensures ∙ c.if-refuses.false in
    (search rules, inr (search (rules, listed), rw maker_is refused, rw maker_is gives))
