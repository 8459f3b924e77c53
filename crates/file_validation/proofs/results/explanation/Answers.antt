use Rattle.std.proofs.Common.{List, string_bytes, subst}
use Rattle.rdf_model.specs.declared.triple.Triple.{Triple}
use Rattle.rdf_model.specs.Numbers.{graph_of}
use Rattle.parallel_validate.specs.Named.{AreNamedTriples}
use Rattle.graph_explanation.proofs.Members.{same_explanation}
use Rattle.file_validation.proofs.Members.{in_graph}
use Rattle.file_validation.proofs.results.explanation.Goals as goal

pub explanation_in-requires-clause-shapes : goal.explanation_in-requires-clause-shapes
explanation_in-requires-clause-shapes c = subst (λ (ts : List Triple). AreNamedTriples c.in_ok-numbered.numbered.names ts) c.triples.ensures c.in_ok-numbered.ensures.named

pub returns : goal.returns
returns c = λ graph is.
    let numbered = c.in_ok-numbered.numbered in
    let same = in_graph c.args.graph.names numbered.names c.args.graph.triples numbered.triples graph c.in_ok-numbered.ensures.index is in
    same_explanation (graph_of numbered.names numbered.triples) graph c.args.shapes.now same (string_bytes c.in_ok-text.text) c.in_ok-text.ensures
