use Rattle.std.proofs.Common.{◌∙◌, sym, subst}
use Rattle.std.specs.List.{Contains}
use Rattle.collections.specs.Listings.{IsListing}
use Rattle.rdf_model.specs.declared.term.Term.{Term}
use Rattle.rdf_model.specs.declared.look.Look.{Look}
use Rattle.rdf_model.specs.Numbers.{graph_of}
use Rattle.rdf_model.specs.Terms.{triple_cmp}
use Rattle.shape_model.specs.Looks.{Matches}
use Rattle.result_evidence.proofs.shown.shown_look.Goals as goal

pub returns-clause-triples : goal.returns-clause-triples
returns-clause-triples g c =
    let terms = g.N.Names.terms c.args.names.now in
    let graph = graph_of terms (g.R.Triples.triples c.args.graph.now) in
    subst (λ (l : Look Term). IsListing triple_cmp (λ t. Contains graph t × Matches l t) c.in_ok-triples.triples) (c.numbered_look-look.ensures.look ∙ sym c.in_ok-look.ensures) c.in_ok-triples.ensures
