use Rattle.std.proofs.Common.{◌≡◌, ◌∙◌, List, ap, subst, sym}
use Rattle.std.specs.List.{All}
use Rattle.rdf_model.specs.declared.ids.Ids.{Ids}
use Rattle.rdf_model.specs.Numbers.{graph_of}
use Rattle.triple_index.specs.Changes.{IsNumbered}
use Rattle.follow_command.proofs.Served.{all_numbered, served_graph}
use Rattle.follow_command.proofs.triples.served_triples.Goals as goal

pub triples_of-requires : goal.triples_of-requires
triples_of-requires c =
    let terms = c.args.served.now.names.terms in
    subst (λ (ids : List Ids). All (IsNumbered terms) ids) (sym c.deref.ensures.value) (all_numbered terms c.args.served.now.graph c.in_ok-found.found.items c.requires c.in_ok-found.ensures)

pub returns : goal.returns
returns c = λ g a i.
    let terms = c.args.served.now.names.terms in
    let found = c.in_ok-found.found.items in
    let triples : c.in_ok-triples.triples.items ≡ graph_of terms found = c.in_ok-triples.ensures ∙ ap (graph_of terms) c.deref.ensures.value in
    served_graph terms c.args.served.now.graph found c.in_ok-triples.triples.items c.in_ok-sorted_once.field-0.items g c.in_ok-found.ensures triples c.in_ok-sorted_once.ensures a i
