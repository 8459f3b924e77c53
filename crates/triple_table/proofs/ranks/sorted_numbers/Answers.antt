use Rattle.std.proofs.Common.{List, subst, sym}
use Rattle.collections.specs.Listings.{IsListing}
use Rattle.rdf_model.specs.declared.ids.Ids.{Ids}
use Rattle.rdf_model.specs.Numbers.{AreNumbered, graph_of}
use Rattle.rdf_model.specs.Terms.{triple_cmp}
use Rattle.std.specs.List.{Contains}
use Rattle.triple_table.proofs.Listed.{below_as, listing_as, numbers_as, numbers_listing, numbers_within, one_listed, out_below}
use Rattle.triple_table.proofs.ranks.sorted_numbers.Goals as goal

pub unranked_of-requires : goal.unranked_of-requires
unranked_of-requires c =
    let ranking = c.in_ok-ranking.ranking in
    let triples = c.args.triples.now in
    let out = c.in_ok-ranked.ranked.items in
    let l = listing_as c.args.terms.now ranking.ranks.items c.deref.result.now triples c.in_ok-ranked_of.field-0.items out c.deref.ensures.value c.in_ok-ranked_of.ensures c.in_ok-ranked.ensures in
    below_as ranking.sorted.items c.deref-2.result.now out c.deref-3.result.now c.deref-2.ensures.value c.deref-3.ensures.value
    (out_below c.args.terms.now ranking.sorted.items ranking.ranks.items triples c.requires.numbering c.in_ok-ranking.ensures c.requires.numbered out l)

pub returns-clause-numbered : goal.returns-clause-numbered
returns-clause-numbered c =
    let ranking = c.in_ok-ranking.ranking in
    let triples = c.args.triples.now in
    let out = c.in_ok-ranked.ranked.items in
    let l = listing_as c.args.terms.now ranking.ranks.items c.deref.result.now triples c.in_ok-ranked_of.field-0.items out c.deref.ensures.value c.in_ok-ranked_of.ensures c.in_ok-ranked.ensures in
    let numbers = numbers_as ranking.sorted.items c.deref-2.result.now out c.deref-3.result.now c.in_ok-numbers.numbers.items c.deref-2.ensures.value c.deref-3.ensures.value c.in_ok-numbers.ensures in
    subst (λ (ids : List Ids). AreNumbered c.args.terms.now ids) (sym numbers)
    (numbers_within c.args.terms.now ranking.sorted.items ranking.ranks.items triples c.requires.numbering c.in_ok-ranking.ensures c.requires.numbered out l)

pub returns-clause-sorted : goal.returns-clause-sorted
returns-clause-sorted c =
    let ranking = c.in_ok-ranking.ranking in
    let triples = c.args.triples.now in
    let out = c.in_ok-ranked.ranked.items in
    let l = listing_as c.args.terms.now ranking.ranks.items c.deref.result.now triples c.in_ok-ranked_of.field-0.items out c.deref.ensures.value c.in_ok-ranked_of.ensures c.in_ok-ranked.ensures in
    let numbers = numbers_as ranking.sorted.items c.deref-2.result.now out c.deref-3.result.now c.in_ok-numbers.numbers.items c.deref-2.ensures.value c.deref-3.ensures.value c.in_ok-numbers.ensures in
    subst (λ (ids : List Ids). IsListing triple_cmp (Contains (graph_of c.args.terms.now triples)) (graph_of c.args.terms.now ids)) (sym numbers)
    (numbers_listing c.args.terms.now ranking.sorted.items ranking.ranks.items triples c.requires.numbering c.in_ok-ranking.ensures c.requires.numbered out l)

pub returns-then-triples-lt2-clause-sorted : goal.returns-then-triples-lt2-clause-sorted
returns-then-triples-lt2-clause-sorted c = one_listed c.args.terms.now c.args.triples.now c.in_ok-one.one.items c.if-triples-lt2.true c.in_ok-one.ensures
