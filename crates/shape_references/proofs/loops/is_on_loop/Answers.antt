use Rattle.std.proofs.Common.{List, sym, subst}
use Rattle.std.specs.List.{Contains}
use Rattle.rdf_model.specs.declared.term.Term.{Term}
use Rattle.shape_references.proofs.loops.is_on_loop.Goals as goal

pub leads_back-requires-clause-pending : goal.leads_back-requires-clause-pending
leads_back-requires-clause-pending c = λ n i. subst (λ (xs : List Term). Contains xs n) (sym c.as_slice.ensures) (c.in_ok-push_subjects.ensures n i)
