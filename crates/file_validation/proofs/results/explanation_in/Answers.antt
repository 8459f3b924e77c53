use Rattle.std.proofs.Common.{List, subst, sym}
use Rattle.rdf_model.specs.declared.term.Term.{Term}
use Rattle.parallel_validate.specs.Named.{AreNamedTriples}
use Rattle.file_validation.proofs.results.explanation_in.Goals as goal

pub explanation_over-requires : goal.explanation_over-requires
explanation_over-requires g c = subst (λ (ts : List Term). AreNamedTriples ts c.args.shapes.now) (sym c.numbered_data-data.ensures.terms) c.requires.shapes
