use Rattle.std.proofs.Common.{subst}
use Rattle.std.specs.List.{Contains}
use Rattle.std.proofs.lemmas.List.Elements.{Contains-get_or}
use Rattle.rdf_model.specs.declared.term.Term.{Term}
use Rattle.rdf_model.specs.declared.term.Term.TheVariants.{Blank}
use Rattle.constraint_tests.proofs.evaluations.is_named.Goals as goal

pub returns-in-Some : goal.returns-in-Some
returns-in-Some c = λ t. subst (λ (x : Term). Contains c.args.names.now x) c.in-Some.ensures.1 (Contains-get_or c.args.names.now c.in-Some.field-0 (Blank 0 0) c.in-Some.ensures.0)
