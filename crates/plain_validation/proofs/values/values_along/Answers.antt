use Rattle.rdf_model.specs.declared.term.Term.{Term}
use Rattle.plain_terms.specs.Ways.{LeadsTo}
use Rattle.plain_terms.proofs.FoundItems.{some_all, some_step}
use Rattle.plain_validation.proofs.values.values_along.Goals as goal

pub loop-path-preserved : goal.loop-path-preserved
loop-path-preserved c =
    some_step (λ (node value : Term). LeadsTo c.args.graph.now c.args.shapes.now node c.args.focus.now value) c.args.paths.now c.loop-path.path-index c.path-item.result c.loop-path.found.items c.in_ok-more.more.items c.append.new.self.items c.loop-path-test.true c.path-item.is
    c.in_ok-append.ensures.items c.loop-path.invariant c.in_ok-more.ensures

pub returns : goal.returns
returns c = some_all (λ (node value : Term). LeadsTo c.args.graph.now c.args.shapes.now node c.args.focus.now value) c.args.paths.now c.loop-path.path-index c.loop-path.found.items c.loop-path-test.false c.loop-path.invariant
