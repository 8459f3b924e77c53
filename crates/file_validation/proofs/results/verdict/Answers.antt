use Rattle.std.proofs.Common.{List, subst}
use Rattle.rdf_model.specs.declared.triple.Triple.{Triple}
use Rattle.rdf_model.specs.Numbers.{graph_of}
use Rattle.parallel_validate.specs.Named.{AreNamedTriples}
use Rattle.file_validation.proofs.Members.{in_graph}
use Rattle.file_validation.proofs.Verdicts.{same_verdict}
use Rattle.file_validation.proofs.results.verdict.Goals as goal

pub verdict_in-requires-clause-shapes : goal.verdict_in-requires-clause-shapes
verdict_in-requires-clause-shapes c = subst (λ (ts : List Triple). AreNamedTriples c.in_ok-numbered.numbered.names ts) c.triples.ensures c.in_ok-numbered.ensures.named

pub returns : goal.returns
returns c = λ graph is.
    let numbered = c.in_ok-numbered.numbered in
    let same = in_graph c.args.graph.names numbered.names c.args.graph.triples numbered.triples graph c.in_ok-numbered.ensures.index is in
    same_verdict (graph_of numbered.names numbered.triples) graph c.args.shapes.now same c.args.evidence.now c.in_ok-verdict.verdict c.in_ok-verdict.ensures
