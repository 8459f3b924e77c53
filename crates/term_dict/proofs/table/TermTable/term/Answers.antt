use Rattle.std.proofs.Common.{◌≡◌, ◌∙◌, ◌<◌, List, length, subst}
use Rattle.rdf_model.specs.declared.term.Term.{Term}
use Rattle.rdf_model.specs.Numbers.{term_at}
use Rattle.term_dict.proofs.Places.{term_found}
use Rattle.term_dict.proofs.table.TermTable.term.Goals as goal

pub returns-in-Some : goal.returns-in-Some
returns-in-Some c =
    let is = term_found c.self.inside.terms c.args.number c.in-Some.named.now c.in-Some.ensures in
    subst (λ (ts : List Term). (c.args.number < length ts) × (c.deref.result.now ≡ term_at ts c.args.number)) c.self.view_is
    (is.0, c.deref.ensures ∙ c.named.view_is ∙ is.1)
