use Rattle.std.proofs.Common.{◌≡◌, IsTrue, is_some, sym, subst}
use Rattle.std.proofs.lemmas.Result.{IfOk-weaker}
use Rattle.std.specs.Arc.{arc_value}
use Rattle.std.specs.Prelude.{◌↔◌}
use Rattle.regex.specs.Patterns.{Re, SameCaptures, find_str}
use Rattle.regex.specs.Strings.{regex_pattern}
use Rattle.regex.specs.declared.string.regex.Regex.{Regex}
use Rattle.shape_model.specs.TermTests.{IsMatched}
use Rattle.plain_values.proofs.Matched.{matched_text, no_text}
use Rattle.plain_values.proofs.matching.is_matched.Goals as goal

pub returns-in-Some : goal.returns-in-Some
returns-in-Some c =
    let p = c.args.pattern.now in
    let text = c.in-Some.text.now in
    IfOk-weaker c.is_match.result (λ is. (re : Re) → SameCaptures (regex_pattern c.deref.result.now) re → is ≡ is_some (find_str re text 0)) (λ is. IsTrue is ↔ IsMatched p.parameter p.flags c.args.value.now)
    (λ is h. matched_text p.parameter p.flags (arc_value p.regex) c.requires c.args.value.now text is (sym c.in-Some.ensures) (λ re same. h re (subst (λ (x : Regex). SameCaptures (regex_pattern x) re) (sym c.deref.ensures) same)))
    c.is_match.ensures

pub returns-in-None : goal.returns-in-None
returns-in-None c = (λ t. cc, λ m. absurd (no_text c.args.pattern.now.parameter c.args.pattern.now.flags (arc_value c.args.pattern.now.regex) c.requires c.args.value.now (sym c.in-None.ensures) m))
