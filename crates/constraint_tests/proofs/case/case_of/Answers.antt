use Rattle.std.proofs.Common.{List, subst, sym}
use Rattle.rdf_model.specs.declared.ids.Ids.{Ids}
use Rattle.rdf_model.specs.declared.term.Term.{Term}
use Rattle.constraint_tests.specs.Rows.{IsRow}
use Rattle.constraint_tests.proofs.case.case_of.Goals as goal

pub invariant_of-result : goal.invariant_of-result
invariant_of-result c =
    let n = c.args.draft.numbers in
    let by_names = subst (λ (ts : List Term). IsRow ts c.args.draft.triples n.focus n.parameter n.values.items n.others.items n.members.items) (sym c.from_terms.ensures) c.requires.row in
    subst (λ (ids : List Ids). IsRow c.from_terms.result ids n.focus n.parameter n.values.items n.others.items n.members.items) (sym c.from_triples.ensures) by_names
