use Rattle.std.proofs.Common.{◌∙◌, [], ◌∷◌, ◌++◌, ap}
use Rattle.rdf_model.specs.declared.term.Term.{Term}
use Rattle.triple_table.proofs.Places.{with_new, with_old}
use Rattle.triple_table.proofs.numbered.NumberedTerms.add.Goals as goal

pub returns-in-Some-clause-ok : goal.returns-in-Some-clause-ok
returns-in-Some-clause-ok c = with_old c.args.self.now c.args.term.now c.in-Some.number c.in-Some.ensures

pub returns-in_ok-push-in-None-clause-ok : goal.returns-in_ok-push-in-None-clause-ok
returns-in_ok-push-in-None-clause-ok c =
    with_new c.args.self.now c.push.new.self c.args.term.now c.in-None.ensures
    (c.in_ok-push-in-None.ensures.ok ∙ ap (λ (t : Term). c.args.self.now ++ t ∷ []) c.in_ok-clone-in-None.ensures.cases)
