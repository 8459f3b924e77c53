use Rattle.std.proofs.Common.{Option, subst, sym}
use Rattle.std.specs.Prelude.{Some}
use Rattle.rdf_model.specs.declared.term.Term.{Term}
use Rattle.numbered_patterns.specs.Asked.{AsksAlike, AsksForNone}
use Rattle.numbered_patterns.proofs.Asking.{none_alike, one_alike}
use Rattle.numbered_patterns.proofs.pattern.asked_number.Goals as goal

pub returns-in-Some-id : goal.returns-in-Some-id
returns-in-Some-id c =
    let terms = c.args.names.now.terms in
    subst (λ (given : Option Term). AsksAlike terms given (Some c.in-Some-id.number)) (sym c.in-Some.is) (one_alike terms c.recall_numbering.ensures c.in-Some.term c.in-Some-id.number c.in-Some-id.ensures.0 c.in-Some-id.ensures.1)

pub returns-in-None-id : goal.returns-in-None-id
returns-in-None-id c =
    let terms = c.args.names.now.terms in
    subst (λ (given : Option Term). AsksForNone terms given) (sym c.in-Some.is) (none_alike terms c.in-Some.term c.in-None-id.ensures)
