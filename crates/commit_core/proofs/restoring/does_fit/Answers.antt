use Rattle.std.proofs.Common.{◌∙◌, ◌&&◌, ap, not, sym}
use Rattle.std.specs.List.{list_all}
use Rattle.collections.specs.Ordered.{has_item}
use Rattle.rdf_model.specs.Numbers.{graph_of}
use Rattle.rdf_model.specs.Terms.{triple_cmp}
use Rattle.commit_core.proofs.RecordedTriples.{fits_by_number}
use Rattle.commit_core.proofs.restoring.does_fit.Goals as goal

pub returns-then-has_each : goal.returns-then-has_each
returns-then-has_each c = λ entry k.
    let g = c.args.graph.now in
    let none = list_all (λ t. not (has_item triple_cmp t g.triples)) (graph_of g.terms c.args.added.now) in
    c.has_none.ensures ∙ ap (λ b. b && none) (sym c.if-has_each.true ∙ c.has_each.ensures) ∙ fits_by_number g c.args.removed.now c.args.added.now entry k

pub returns-else-has_each : goal.returns-else-has_each
returns-else-has_each c = λ entry k.
    let g = c.args.graph.now in
    let none = list_all (λ t. not (has_item triple_cmp t g.triples)) (graph_of g.terms c.args.added.now) in
    c.if-has_each.false ∙ ap (λ b. b && none) (sym c.if-has_each.false ∙ c.has_each.ensures) ∙ fits_by_number g c.args.removed.now c.args.added.now entry k
