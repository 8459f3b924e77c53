use Rattle.std.proofs.Common.{◌∙◌, sym}
use Rattle.string_constraints.proofs.Tags.{in_languages}
use Rattle.string_constraints.proofs.language.InLanguagesValueTest.passes.Goals as goal

pub returns-in-Some : goal.returns-in-Some
returns-in-Some c =
    let both = in_languages (λ r. r.now) c.in-Some.tag.now c.args.self.now.ranges.now c.args.value.now (sym c.in-Some.ensures) in
    (λ h. both.0 (sym c.is_in_some.ensures ∙ h), λ h. c.is_in_some.ensures ∙ both.1 h)
