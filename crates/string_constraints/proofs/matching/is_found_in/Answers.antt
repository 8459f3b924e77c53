use Rattle.std.proofs.Common.{◌∙◌, ap, sym}
use Rattle.std.proofs.lemmas.Option.{same_Some}
use Rattle.std.specs.Prelude.{is_some}
use Rattle.regex.specs.Patterns.{find_str}
use Rattle.string_constraints.proofs.matching.is_found_in.Goals as goal

pub returns-in-Some-clause-found : goal.returns-in-Some-clause-found
returns-in-Some-clause-found c = λ re same. (
  λ h. (c.in-Some.text.now, sym c.in-Some.ensures, sym (c.is_match.ensures.found re same) ∙ h),
  λ h. c.is_match.ensures.found re same ∙ ap (λ text. is_some (find_str re text 0)) (same_Some c.in-Some.text.now h.0 (c.in-Some.ensures ∙ h.1)) ∙ h.2,
)
