use Rattle.rdf_model.specs.declared.term.Term.{Term}
use Rattle.shape_model.specs.Triples.{Has}
use Rattle.plain_terms.proofs.FoundItems.{finds_at, some_all, some_step}
use Rattle.plain_terms.proofs.instances.subjects_with_any.Goals as goal

pub loop-object-preserved : goal.loop-object-preserved
loop-object-preserved c =
    let At = λ (object node : Term). Has c.args.graph.now node c.args.predicate.now object in
    let x = c.object-item.result in
    some_step At c.args.objects.now c.loop-object.object-index x c.loop-object.found.items c.into_vec-more.result.items c.append.new.self.items c.loop-object-test.true c.object-item.is c.in_ok-append.ensures.items c.loop-object.invariant
    (finds_at (At x) c.in_ok-subjects_with.field-0 c.into_vec-more.result.items c.into_vec-more.ensures c.in_ok-subjects_with.ensures)

pub returns : goal.returns
returns c = some_all (λ object (node : Term). Has c.args.graph.now node c.args.predicate.now object) c.args.objects.now c.loop-object.object-index c.loop-object.found.items c.loop-object-test.false c.loop-object.invariant
