use Rattle.std.proofs.Common.{sym, subst}
use Rattle.std.specs.Prelude.{◌↔◌, IsTrue}
use Rattle.rdf_model.specs.declared.term.Term.{Term}
use Rattle.shape_model.specs.TermTests.{IsOfKind}
use Rattle.value_constraints.proofs.kind.is_of_kind.Goals as goal

pub returns-in-Blank : goal.returns-in-Blank
returns-in-Blank c = subst (λ (v : Term). IsTrue c.takes_blank.result ↔ IsOfKind c.args.kind.now v) (sym c.in-Blank.is) c.takes_blank.ensures

pub returns-in-Iri : goal.returns-in-Iri
returns-in-Iri c = subst (λ (v : Term). IsTrue c.takes_iri.result ↔ IsOfKind c.args.kind.now v) (sym c.in-Iri.is) c.takes_iri.ensures

pub returns-in-Literal : goal.returns-in-Literal
returns-in-Literal c = subst (λ (v : Term). IsTrue c.takes_literal.result ↔ IsOfKind c.args.kind.now v) (sym c.in-Literal.is) c.takes_literal.ensures
