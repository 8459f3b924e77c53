use Rattle.std.proofs.Common.{refl, subst}
use Rattle.follower.specs.Followed.{unfed}
use Rattle.replica.specs.declared.entry.Entry.TheVariants.{Feed, Void}
use Rattle.replica.specs.Entries.{Adds, Replicated}
use Rattle.replica.proofs.Leading.{leads_more, told_entry}
use Rattle.replica.proofs.shared.Shared.feed.Goals as goal

pub invariant_of-self : goal.invariant_of-self
invariant_of-self c =
    let a = c.in-Ok.ensures.ok in
    leads_more unfed c.self.inside.follower c.answer.new.follower c.answer.new.follower c.self.inside.history c.push.new.self (Feed c.args.copy c.in-Ok.told) c.self.invariant
    (told_entry c.self.inside.follower c.answer.new.follower c.args.next c.args.copy c.in-Ok.fed c.in-Ok.told a.0 c.requires a.1) refl c.push.ensures

pub invariant_of-self-in-Err-1 : goal.invariant_of-self-in-Err-1
invariant_of-self-in-Err-1 c =
    leads_more unfed c.self.inside.follower c.self.inside.follower c.answer.new.follower c.self.inside.history c.push-in-Err.new.self Void c.self.invariant refl c.in-Err.ensures.err c.push-in-Err.ensures

pub returns-in-Ok-clause-one : goal.returns-in-Ok-clause-one
returns-in-Ok-clause-one c =
    let a = c.in-Ok.ensures.ok in
    let e = Feed c.args.copy c.in-Ok.told in
    let new : Replicated = record { state = c.answer.new.follower; entries = c.push.new.self } in
    (e, subst (λ (s : Replicated). Adds s e new) c.self.view_is (record { step = told_entry c.self.inside.follower c.answer.new.follower c.args.next c.args.copy c.in-Ok.fed c.in-Ok.told a.0 c.requires a.1; entries = c.push.ensures }))
