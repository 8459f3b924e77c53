use Rattle.std.proofs.Common.{refl}
use Rattle.rdf_model.specs.Numbers.{graph_of}
use Rattle.evidence_blocks.specs.Blocks.{HasTriples}
use Rattle.evidence_verdict.proofs.Searching.{all_so_far, more_so_far}
use Rattle.evidence_verdict.proofs.exact.are_exact.Goals as goal

pub loop-look-preserved : goal.loop-look-preserved
loop-look-preserved g c =
    let graph = graph_of (g.N.Names.terms c.args.names.now) (g.R.Triples.triples c.args.graph.now) in
    more_so_far (HasTriples graph) c.args.looks.now c.loop-look.look-index c.look-item.result c.loop-look-test.true c.look-item.is c.loop-look.invariant (c.in_ok-is_exact.ensures.0 c.if-not-branch.false)

pub returns : goal.returns
returns g c =
    let graph = graph_of (g.N.Names.terms c.args.names.now) (g.R.Triples.triples c.args.graph.now) in
    (λ h. all_so_far (HasTriples graph) c.args.looks.now c.loop-look.look-index c.loop-look-test.false c.loop-look.invariant, λ a. refl)
