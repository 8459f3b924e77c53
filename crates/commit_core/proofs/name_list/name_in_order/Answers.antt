use Rattle.std.proofs.Common.{◌∙◌, ℕ, List, ap, subst, sym}
use Rattle.std.specs.List.{AllByRecursion, flat_map}
use Rattle.term_dict.specs.declared.fault.NameFault.{NameFault}
use Rattle.term_dict.specs.Faults.{IsCause}
use Rattle.data_graph.specs.DataGraphs.{names_of}
use Rattle.data_graph.specs.Numbering.{HasPlaces}
use Rattle.commit_core.specs.Naming.{part_numbers}
use Rattle.commit_core.proofs.Faults.{err_stays}
use Rattle.commit_core.proofs.NamedLists.{have_places, list_naming, parts_at, same_cause}
use Rattle.commit_core.proofs.name_list.name_in_order.Goals as goal

pub returns-in_err-named-clause-cause : goal.returns-in_err-named-clause-cause
returns-in_err-named-clause-cause c =
    let parts = parts_at c.args.terms.now c.args.triples.now in
    let d = names_of c.args.graph.now in
    err_stays (λ (fault : NameFault). IsCause fault d parts) c.from_residual.result c.in_err-named.field-0.0 c.from_residual.ensures.1 (same_cause c.args.terms.now parts c.requires.alike d c.in_err-named.field-0.0 c.in_err-named.ensures.cause)

pub numbers_of_parts-requires : goal.numbers_of_parts-requires
numbers_of_parts-requires c =
    subst (λ (ns : List ℕ). AllByRecursion (HasPlaces ns) c.args.triples.now) (sym c.deref.ensures.value) (have_places c.in_ok-named.named.graph.terms c.args.terms.now c.in_ok-named.numbers.items c.in_ok-named.ensures.numbers c.args.triples.now c.requires.numbered)

pub returns-clause-named : goal.returns-clause-named
returns-clause-named c =
    let triples = c.args.triples.now in
    let parts = c.in_ok-parts.ensures ∙ ap (λ (ns : List ℕ). flat_map (part_numbers ns) triples) c.deref.ensures.value in
    list_naming c.args.kind c.args.graph.now c.args.given.now c.args.terms.now triples c.in_ok-named.named c.in_ok-named.numbers.items c.in_ok-parts.parts c.requires.numbered c.requires.alike c.recall_ascending.ensures c.requires.known c.in_ok-named.ensures.named c.in_ok-named.ensures.numbers parts
