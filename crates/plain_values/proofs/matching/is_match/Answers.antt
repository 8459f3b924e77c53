use Rattle.std.proofs.Common.{◌∙◌, true, subst, sym}
use Rattle.regex.specs.Patterns.{Re, SameCaptures}
use Rattle.regex.proofs.ForCallers.{is_match_alike}
use Rattle.plain_values.proofs.matching.is_match.Goals as goal

pub returns : goal.returns
returns c = λ re same.
    c.is_match.ensures.found ∙ is_match_alike (subst (λ (p : Re). SameCaptures p re) (sym c.in_ok-matcher.ensures.pattern) same) c.args.text.now (λ k. (c.type_inv.text k).fits) true 0
