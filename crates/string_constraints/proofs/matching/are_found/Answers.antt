use Rattle.std.proofs.Common.{◌∙◌, ℕ, ◌+◌, Bool, List, length, ap, get_or, sym, subst}
use Rattle.std.specs.Prelude.{◌↔◌, IsTrue}
use Rattle.std.specs.List.{Contains}
use Rattle.std.proofs.lemmas.List.{length_push}
use Rattle.std.proofs.lemmas.List.Elements.{Contains-get_or}
use Rattle.regex.specs.Patterns.{Re, SameCaptures}
use Rattle.rdf_model.specs.declared.term.Term.{Term}
use Rattle.rdf_model.specs.Numbers.{term_at}
use Rattle.component_rows.specs.Answers.{AreAnswersTo}
use Rattle.component_rows.proofs.Told.{tells_more, tells_all}
use Rattle.string_constraints.specs.Matches.{IsFoundIn}
use Rattle.string_constraints.proofs.matching.are_found.Goals as goal

pub named-requires : goal.named-requires
named-requires g c =
    let values = c.values-values.result.now in
    let value = get_or values c.loop-value.value-index 0 in
    c.recall.ensures.nodes.named value (subst (λ (ns : List ℕ). Contains ns value) c.values-values.ensures (Contains-get_or values c.loop-value.value-index 0 c.loop-value-test.true))

pub loop-value-preserved : goal.loop-value-preserved
loop-value-preserved g c =
    let terms = c.args.site.now.terms in
    let before = c.loop-value.invariant in (
      c.is_found_in.ensures.same ∙ before.0,
      ap (λ (answers : List Bool). length answers) c.in_ok-push.ensures.items ∙ length_push c.loop-value.answers.items c.is_found_in.result ∙ ap (λ (n : ℕ). n + 1) before.1,
      λ re same. tells_more (λ i. IsFoundIn re (term_at terms (get_or c.values-values.result.now i 0))) c.loop-value.answers.items c.push.new.self.items c.loop-value.value-index c.is_found_in.result
          c.in_ok-push.ensures.items (before.2 re same)
          (subst (λ (t : Term). IsTrue c.is_found_in.result ↔ IsFoundIn re t) c.named.ensures
          (c.is_found_in.ensures.found re (subst (λ (p : Re). SameCaptures p re) (sym before.0) same))),
    )

pub returns-clause-told : goal.returns-clause-told
returns-clause-told g c = λ re same.
    let s = c.args.site.now in
    let values = c.values-values.result.now in
    subst (λ (ns : List ℕ). AreAnswersTo (IsFoundIn re) s.terms ns c.loop-value.answers.items) c.values-values.ensures
    (tells_all (λ i. IsFoundIn re (term_at s.terms (get_or values i 0))) c.loop-value.answers.items c.loop-value.value-index (length values)
    c.loop-value-test.false c.loop-value.auto.value-index-end (c.loop-value.invariant.2 re same))
