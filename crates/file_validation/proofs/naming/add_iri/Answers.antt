use Rattle.std.proofs.Common.{ℕ, List, subst}
use Rattle.rdf_model.specs.declared.term.Term.TheVariants.{Iri}
use Rattle.triple_table.specs.Tables.{IsPlaceOf}
use Rattle.triple_table.proofs.Places.{grown_with}
use Rattle.file_validation.proofs.naming.add_iri.Goals as goal

pub returns-clause-grown : goal.returns-clause-grown
returns-clause-grown c = grown_with c.args.names.now c.add.new.self (Iri c.in_ok-new.field-0) c.in_ok-add.ensures.ok

pub returns-clause-number : goal.returns-clause-number
returns-clause-number c = subst (λ (text : List ℕ). IsPlaceOf c.add.new.self c.in_ok-add.field-0 (Iri text)) c.in_ok-new.ensures c.in_ok-add.ensures.number
