use Rattle.std.proofs.Common.{◌≡◌, ◌∙◌, ◌++◌, ◌∷◌, [], List, ap, subst}
use Rattle.std.specs.List.{Contains}
use Rattle.std.specs.Arc.{arc_value}
use Rattle.rdf_model.specs.declared.term.Term.{Term}
use Rattle.term_dict.proofs.Places.{one_more_as}
use Rattle.term_dict.proofs.table.TermTable.with_new.Goals as goal

pub invariant_of-result : goal.invariant_of-result
invariant_of-result c =
    let is : arc_value c.in_ok-term.term ≡ c.args.term.now = c.in_ok-term.ensures.ok ∙ c.in_ok-clone.ensures.cases in
    one_more_as c.args.term.now c.args.hash c.len-number.result c.self.inside.terms c.push.new.self c.self.inside.by_hash c.insert.new.self c.self.invariant c.requires.hash c.len-number.ensures
    (λ d. c.requires.new (subst (λ (ts : List Term). Contains ts c.args.term.now) c.self.view_is d))
    (c.in_ok-push.ensures.ok ∙ ap (λ (w : Term). c.self.inside.terms ++ w ∷ []) is)
    c.in_ok-insert.ensures.ok

pub returns : goal.returns
returns c =
    let is : arc_value c.in_ok-term.term ≡ c.args.term.now = c.in_ok-term.ensures.ok ∙ c.in_ok-clone.ensures.cases in
    c.in_ok-push.ensures.ok ∙ ap (λ (w : Term). c.self.inside.terms ++ w ∷ []) is ∙ ap (λ (ts : List Term). ts ++ c.args.term.now ∷ []) c.self.view_is
