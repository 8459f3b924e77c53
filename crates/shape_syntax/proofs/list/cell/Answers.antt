use Rattle.rdf_model.specs.declared.term.Term.{Term}
use Rattle.shape_model.specs.ShapeSyntax.{IsCell}
use Rattle.shape_syntax.proofs.Own.{own_cell, match_map}
use Rattle.shape_syntax.proofs.list.cell.Goals as goal

pub returns : goal.returns
returns c =
    let s = c.args.graph.now in
    let own = c.triples_of-own.result.now in
    let n = c.args.node.now in
    let same = own_cell s own n c.triples_of-own.ensures.members in
    match_map c.cell_of.result ((m k : Term) → IsCell own n m k → ⊥) ((m k : Term) → IsCell s n m k → ⊥)
    (λ parts. IsCell own n parts.0.now parts.1.now) (λ parts. IsCell s n parts.0.now parts.1.now)
    (λ none m k h. none m k ((same m k).1 h)) (λ parts h. (same parts.0.now parts.1.now).0 h) c.cell_of.ensures
