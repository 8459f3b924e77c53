use Rattle.std.proofs.Common.{ℕ, List, subst}
use Rattle.std.specs.List.{Contains}
use Rattle.rdf_model.specs.declared.term.Term.{Term}
use Rattle.shape_model.specs.Triples.{Has}
use Rattle.shape_model.specs.Vocabulary.{sh}
use Rattle.plain_terms.specs.Finds.{Finds}
use Rattle.plain_components.proofs.AllComponents.{component_found}
use Rattle.plain_components.proofs.component.component_rows.Goals as goal

pub rows_at_each-requires-clause-parameters : goal.rows_at_each-requires-clause-parameters
rows_at_each-requires-clause-parameters c = λ q h.
    let at = c.args.at.now in
    let named = subst (λ (n : List ℕ). Finds (Has at.shapes.now at.shape.now (sh n)) c.in_ok-found.found) c.parameter_name.ensures c.in_ok-found.ensures in
    (named.members q).0 (subst (λ (terms : List Term). Contains terms q) c.as_slice.ensures h)

pub returns : goal.returns
returns c =
    let at = c.args.at.now in
    component_found at c.args.component c.in_ok-found.found c.as_slice.result.now c.in_ok-rows.rows.items
    (subst (λ (n : List ℕ). Finds (Has at.shapes.now at.shape.now (sh n)) c.in_ok-found.found) c.parameter_name.ensures c.in_ok-found.ensures) c.as_slice.ensures c.in_ok-rows.ensures
