use Rattle.std.proofs.Common.{◌≡◌, ◌∙◌, List, [], ap, subst, sym}
use Rattle.std.specs.List.{All}
use Rattle.rdf_model.specs.declared.ids.Ids.{Ids}
use Rattle.rdf_model.specs.Graphs.{with_each}
use Rattle.rdf_model.specs.Numbers.{graph_of}
use Rattle.parallel_validate.specs.Named.{IsNumbered}
use Rattle.data_graph.specs.DataGraphs.{triples_at}
use Rattle.data_graph.proofs.ByNumber.{asked_numbered, asked_triples}
use Rattle.data_graph.proofs.Finding.{found_indexed}
use Rattle.data_graph.proofs.Listed.{ascends, listing, stands}
use Rattle.data_graph.proofs.by_number.triples_asked.Goals as goal

pub read_triples-requires : goal.read_triples-requires
read_triples-requires c =
    let terms = c.args.names.now.terms in
    subst (λ (ids : List Ids). All (IsNumbered terms) ids) (sym c.deref.ensures.value) (asked_numbered terms c.args.pattern.now c.args.index.now c.requires c.in_ok-ids.ids.items c.in_ok-ids.ensures)

pub returns : goal.returns
returns c =
    let terms = c.args.names.now.terms in
    let ids = c.args.index.now in
    let p = c.args.pattern.now in
    let asked = c.in_ok-ids.ids.items in
    let triples = c.in_ok-read_triples.field-0.items in
    let read : triples ≡ graph_of terms asked = c.in_ok-read_triples.ensures ∙ ap (graph_of terms) c.deref.ensures.value in
    found_indexed p terms ids (triples_at terms ids) (with_each [] triples) (ascends terms ids) (stands terms ids c.requires)
    (asked_triples terms p ids c.requires asked triples (with_each [] triples) c.in_ok-ids.ensures read (listing triples))
