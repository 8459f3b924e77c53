use Rattle.rdf_model.specs.declared.term.Term.{Term}
use Rattle.shape_model.specs.Triples.{Has}
use Rattle.plain_terms.proofs.FoundItems.{finds_at, some_all, some_step}
use Rattle.plain_terms.proofs.graph.objects_of_each.Goals as goal

pub loop-node-preserved : goal.loop-node-preserved
loop-node-preserved c =
    let At = λ (node object : Term). Has c.args.graph.now node c.args.predicate.now object in
    let x = c.node-item.result in
    some_step At c.args.nodes.now c.loop-node.node-index x c.loop-node.found.items c.into_vec-more.result.items c.append.new.self.items c.loop-node-test.true c.node-item.is c.in_ok-append.ensures.items c.loop-node.invariant
    (finds_at (At x) c.in_ok-objects.field-0 c.into_vec-more.result.items c.into_vec-more.ensures c.in_ok-objects.ensures)

pub returns : goal.returns
returns c = some_all (λ (node object : Term). Has c.args.graph.now node c.args.predicate.now object) c.args.nodes.now c.loop-node.node-index c.loop-node.found.items c.loop-node-test.false c.loop-node.invariant
