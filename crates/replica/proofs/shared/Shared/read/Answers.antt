use Rattle.std.proofs.Common.{refl, subst}
use Rattle.follower.specs.Followed.{unfed}
use Rattle.replica.specs.declared.entry.Entry.TheVariants.{Read, Void}
use Rattle.replica.specs.Entries.{Adds, Replicated}
use Rattle.replica.proofs.Leading.{leads_more}
use Rattle.replica.proofs.shared.Shared.read.Goals as goal

pub invariant_of-self : goal.invariant_of-self
invariant_of-self c =
    let s = c.self.inside.follower in
    leads_more unfed s s s c.self.inside.history c.push.new.self (Read c.version-version.result) c.self.invariant (c.version-version.ensures.number, refl) refl c.push.ensures

pub invariant_of-self-in-Err : goal.invariant_of-self-in-Err
invariant_of-self-in-Err c =
    let s = c.self.inside.follower in
    leads_more unfed s s s c.self.inside.history c.push-in-Err.new.self Void c.self.invariant refl refl c.push-in-Err.ensures

pub returns-in-Ok-clause-one : goal.returns-in-Ok-clause-one
returns-in-Ok-clause-one c =
    let e = Read c.version-version.result in
    let new : Replicated = record { state = c.self.inside.follower; entries = c.push.new.self } in
    (e, subst (λ (s : Replicated). Adds s e new) c.self.view_is (record { step = (c.version-version.ensures.number, refl); entries = c.push.ensures }))
