use Rattle.std.proofs.Common.{◌∙◌, true}
use Rattle.regex.proofs.ForCallers.{is_match_alike}
use Rattle.string_constraints.proofs.matching.is_match.Goals as goal

pub returns-clause-found : goal.returns-clause-found
returns-clause-found c = λ re same. c.is_match.ensures.found ∙ is_match_alike same c.args.text.now (λ k. (c.type_inv.text k).fits) true 0
