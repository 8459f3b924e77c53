use Rattle.std.proofs.Common.{◌∙◌, List, map, sym, ap, subst}
use Rattle.std.specs.List.{All, Contains}
use Rattle.collections.specs.Listings.{IsListing}
use Rattle.rdf_model.specs.declared.ids.Ids.{Ids}
use Rattle.rdf_model.specs.declared.triple.Triple.{Triple}
use Rattle.rdf_model.specs.Numbers.{graph_of, triple_at}
use Rattle.rdf_model.specs.Terms.{triple_cmp}
use Rattle.shape_model.specs.Looks.{Matches}
use Rattle.path_eval.specs.Naming.{look_of}
use Rattle.result_evidence.specs.Standing.{IsNumbered}
use Rattle.result_evidence.proofs.Matched.{all_numbered, listed_triples}
use Rattle.result_evidence.proofs.triples.triples_under.Goals as goal

pub triples_at-requires : goal.triples_at-requires
triples_at-requires g c =
    let terms = g.N.Names.terms c.args.names.now in
    subst (λ (is : List Ids). All (IsNumbered terms) is) (sym c.as_slice.ensures.value) (all_numbered terms (g.R.Triples.triples c.args.graph.now) c.requires.graph c.args.look.now c.in_ok-ids.ids.items c.in_ok-ids.ensures)

pub returns : goal.returns
returns g c =
    let terms = g.N.Names.terms c.args.names.now in
    let ids = g.R.Triples.triples c.args.graph.now in
    subst (λ (ts : List Triple). IsListing triple_cmp (λ t. Contains (graph_of terms ids) t × Matches (look_of terms c.args.look.now) t) ts) (sym c.from_vec.ensures)
    (listed_triples terms ids c.requires.numbering c.requires.graph c.args.look.now c.requires.look c.in_ok-ids.ids.items c.in_ok-ids.ensures c.in_ok-triples.triples.items c.in_ok-sorted.sorted.items
    (c.in_ok-triples.ensures ∙ ap (map (triple_at terms)) c.as_slice.ensures.value) c.in_ok-sorted.ensures)
