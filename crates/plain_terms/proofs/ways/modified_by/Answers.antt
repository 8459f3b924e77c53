use Rattle.std.proofs.Common.{sym, subst}
use Rattle.std.specs.Prelude.{IfOk}
use Rattle.plain_terms.specs.declared.ways.PathModifier.{PathModifier}
use Rattle.plain_terms.specs.Relations.{Means}
use Rattle.plain_terms.specs.Ways.{JoinsModified}
use Rattle.plain_terms.proofs.ways.modified_by.Goals as goal

pub returns-in-Inverse : goal.returns-in-Inverse
returns-in-Inverse c = subst (λ (modifier : PathModifier). IfOk c.reversed_relation.result (Means (JoinsModified modifier c.args.relation.now))) (sym c.in-Inverse.is) c.reversed_relation.ensures

pub returns-in-ZeroOrMore : goal.returns-in-ZeroOrMore
returns-in-ZeroOrMore c = subst (λ (modifier : PathModifier). IfOk c.any_times.result (Means (JoinsModified modifier c.args.relation.now))) (sym c.in-ZeroOrMore.is) c.any_times.ensures

pub returns-in-OneOrMore : goal.returns-in-OneOrMore
returns-in-OneOrMore c = subst (λ (modifier : PathModifier). IfOk c.once_or_more.result (Means (JoinsModified modifier c.args.relation.now))) (sym c.in-OneOrMore.is) c.once_or_more.ensures

pub returns-in-ZeroOrOne : goal.returns-in-ZeroOrOne
returns-in-ZeroOrOne c = subst (λ (modifier : PathModifier). IfOk c.or_none.result (Means (JoinsModified modifier c.args.relation.now))) (sym c.in-ZeroOrOne.is) c.or_none.ensures
