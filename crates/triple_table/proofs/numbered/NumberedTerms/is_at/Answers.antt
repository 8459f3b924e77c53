use Rattle.std.proofs.Common.{◌∙◌, List, subst}
use Rattle.std.specs.Prelude.{◌↔◌, IsTrue}
use Rattle.rdf_model.specs.declared.term.Term.{Term}
use Rattle.rdf_model.specs.declared.term.Term.TheVariants.{Blank}
use Rattle.triple_table.specs.Tables.{IsPlaceOf}
use Rattle.triple_table.proofs.Places.{is_there}
use Rattle.triple_table.proofs.numbered.NumberedTerms.is_at.Goals as goal

pub returns-in-Some : goal.returns-in-Some
returns-in-Some c =
    let found = c.in-Some.ensures.lookup.3 in
    subst (λ (us : List Term). IsTrue c.eq.result ↔ IsPlaceOf us c.args.number c.args.term.now) (c.deref.ensures.value ∙ c.self.view_is)
    (is_there c.deref.result.now c.args.number c.args.term.now c.in-Some.found.now c.eq.result found.0 (found.1 (Blank 0 0)) c.eq.ensures)
