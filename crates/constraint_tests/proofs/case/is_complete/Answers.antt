use Rattle.std.proofs.Common.{List, subst}
use Rattle.rdf_model.specs.declared.ids.Ids.{Ids}
use Rattle.rdf_model.specs.declared.term.Term.{Term}
use Rattle.constraint_tests.specs.Rows.{IsRow}
use Rattle.constraint_tests.proofs.case.is_complete.Goals as goal

pub returns-clause-row : goal.returns-clause-row
returns-clause-row c = λ t.
    let draft = c.args.draft.now in
    let n = draft.numbers in
    let by_terms = subst (λ (ts : List Term). IsRow ts c.as_slice-2.result.now n.focus n.parameter n.values.items n.others.items n.members.items) c.as_slice.ensures (c.is_sound.ensures t) in
    subst (λ (ids : List Ids). IsRow draft.terms ids n.focus n.parameter n.values.items n.others.items n.members.items) c.as_slice-2.ensures by_terms
