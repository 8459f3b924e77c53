use Rattle.std.proofs.Common.{ap, List, subst, sym}
use Rattle.rdf_model.specs.declared.term.Term.{Term}
use Rattle.parallel_validate.specs.Named.{AreNamedTriples}
use Rattle.evidence_tests.proofs.blocks.explained_in.Goals as goal

pub explanation_over-requires : goal.explanation_over-requires
explanation_over-requires g c = subst (λ (ts : List Term). AreNamedTriples ts c.args.shapes.now) (sym (ap (λ d. d.terms) c.new-data.ensures)) c.requires.shapes
