use Rattle.std.proofs.Common.{◌∙◌, List, [], ◌∷◌, ◌++◌, ap, subst, sym}
use Rattle.collections.proofs.Kept.{always_on_err}
use Rattle.rdf_model.specs.declared.ids.Ids.{Ids}
use Rattle.rdf_model.specs.declared.triple.Triple.{Triple}
use Rattle.rdf_model.specs.Numbers.{AreNumbered, graph_of}
use Rattle.triple_table.proofs.Places.{graph_grown, graph_more, numbered_grown, numbered_more}
use Rattle.triple_table.proofs.table.TripleTable.push_terms.Goals as goal

pub returns-in_err-ids-clause-err : goal.returns-in_err-ids-clause-err
returns-in_err-ids-clause-err c =
    always_on_err c.from_residual.result (graph_grown c.self.inside.terms c.place_all.new.self c.self.inside.triples.items c.place_all.ensures.grown c.self.invariant ∙ c.self.view_is)

pub invariant_of-self-in_err-push : goal.invariant_of-self-in_err-push
invariant_of-self-in_err-push c =
    let terms = c.place_all.new.self in
    subst (λ (ids : List Ids). AreNumbered terms ids) (sym c.in_err-push.ensures.items) (numbered_grown c.self.inside.terms terms c.self.inside.triples.items c.place_all.ensures.grown c.self.invariant)

pub returns-in_err-push-clause-err : goal.returns-in_err-push-clause-err
returns-in_err-push-clause-err c =
    let terms = c.place_all.new.self in
    always_on_err c.from_residual-in_err-push.result
    (ap (λ (ids : List Ids). graph_of terms ids) c.in_err-push.ensures.items ∙ graph_grown c.self.inside.terms terms c.self.inside.triples.items c.place_all.ensures.grown c.self.invariant ∙ c.self.view_is)

pub invariant_of-self-2 : goal.invariant_of-self-2
invariant_of-self-2 c =
    let terms = c.place_all.new.self in
    subst (λ (ids : List Ids). AreNumbered terms ids) (sym c.in_ok-push.ensures.items) (numbered_more c.self.inside.terms terms c.self.inside.triples.items c.in_ok-ids.ids _ c.place_all.ensures.grown c.self.invariant c.in_ok-ids.ensures.ids)

pub returns-clause-ok : goal.returns-clause-ok
returns-clause-ok c =
    let terms = c.place_all.new.self in
    let triple : Triple = record { subject = c.args.subject.now; predicate = c.args.predicate.now; object = c.args.object } in
    ap (λ (ids : List Ids). graph_of terms ids) c.in_ok-push.ensures.items
    ∙ graph_more c.self.inside.terms terms c.self.inside.triples.items c.in_ok-ids.ids triple c.place_all.ensures.grown c.self.invariant c.in_ok-ids.ensures.ids
    ∙ ap (λ (ts : List Triple). ts ++ triple ∷ []) c.self.view_is
