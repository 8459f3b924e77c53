use Rattle.std.proofs.Common.{◌≡◌, Some, subst}
use Rattle.std.proofs.lemmas.Result.{IfOk-weaker}
use Rattle.literal_order.specs.Texts.{string_value}
use Rattle.rdf_model.specs.declared.term.Term.{Term}
use Rattle.regex.specs.Patterns.{Re, SameCaptures}
use Rattle.regex.specs.Strings.{matcher_pattern}
use Rattle.shape_model.specs.TermTests.{IsMatched}
use Rattle.component_rows.specs.Answers.{AreAnswersTo}
use Rattle.string_constraints.specs.Matches.{IsFoundIn, Searched}
use Rattle.string_constraints.proofs.Patterns.{kept_answers}
use Rattle.string_constraints.proofs.matchers.PatternMatcher.answers.Goals as goal

pub returns-clause-told : goal.returns-clause-told
returns-clause-told g c =
    let s = c.args.site.now in
    let kept = c.self.inside in
    IfOk-weaker c.are_found.result
    (λ answers. (re : Re) → SameCaptures (matcher_pattern kept.matcher) re → AreAnswersTo (IsFoundIn re) s.terms s.values answers.items)
    (λ answers. (q : Term) → string_value q ≡ Some c.args.self.now.source → AreAnswersTo (IsMatched q c.args.self.now.flags) s.terms s.values answers.items)
    (λ answers told. subst (λ (k : Searched). (q : Term) → string_value q ≡ Some k.source → AreAnswersTo (IsMatched q k.flags) s.terms s.values answers.items) c.self.view_is
    (kept_answers kept.regex.now kept.flags.now kept.matcher c.self.invariant s.terms s.values answers.items told))
    c.are_found.ensures.told
