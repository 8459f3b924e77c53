use Rattle.std.proofs.Common.{List, subst, sym}
use Rattle.rdf_model.specs.declared.ids.Ids.{Ids}
use Rattle.rdf_model.specs.Numbers.{AreNumbered}
use Rattle.page_tests.proofs.Numbered.{numbered_with}
use Rattle.page_tests.proofs.tests.joins_by_terms.add_triple.Goals as goal

pub returns : goal.returns
returns c =
    let terms = c.args.names.now.terms in
    let i : Ids = record { subject = c.in-Some.subject; predicate = c.in-Some-id.predicate; object = c.in-Some-id-2.object } in
    subst (λ (ids : List Ids). AreNumbered terms ids) (sym c.in_ok-apply.ensures.ok)
    (numbered_with terms i c.args.index.now (c.in-Some.ensures.0, c.in-Some-id.ensures.0, c.in-Some-id-2.ensures.0) c.requires)
