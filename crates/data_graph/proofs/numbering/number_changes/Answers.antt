use Rattle.std.proofs.Common.{◌∙◌, ℕ, List, ap, map, subst, sym}
use Rattle.std.specs.List.{AllByRecursion}
use Rattle.data_graph.specs.Numbering.{HasChangePlaces, change_by}
use Rattle.data_graph.proofs.ByPlaces.{all_numbered, have_places}
use Rattle.data_graph.proofs.numbering.number_changes.Goals as goal

pub changes_by-requires : goal.changes_by-requires
changes_by-requires c =
    let changes = c.parts.result.1.now in
    subst (λ (ns : List ℕ). AllByRecursion (HasChangePlaces ns) changes) (sym c.deref.ensures.value) (have_places c.args.names.now.terms c.parts.result.0.now c.in_ok-numbers.numbers.items c.in_ok-numbers.ensures changes c.parts.ensures.numbered)

pub returns : goal.returns
returns c =
    let changes = c.parts.result.1.now in
    let made = c.in_ok-numbered.ensures ∙ ap (λ (ns : List ℕ). map (change_by ns) changes) c.deref.ensures.value in
    all_numbered c.args.names.now.terms c.parts.result.0.now c.in_ok-numbers.numbers.items c.in_ok-numbers.ensures changes c.in_ok-numbered.numbered.items c.args.net.now c.parts.ensures.changes c.parts.ensures.numbered c.requires made
