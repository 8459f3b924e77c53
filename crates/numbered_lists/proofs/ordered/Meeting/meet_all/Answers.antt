use Rattle.rdf_model.specs.Numbers.{triple_at}
use Rattle.triple_table.proofs.Places.{triple_placed}
use Rattle.numbered_lists.proofs.ordered.Meeting.meet_all.Goals as goal

pub returns-clause-met : goal.returns-clause-met
returns-clause-met c = λ all are. c.in_ok-object.ensures.met all (c.in_ok-predicate.ensures.met all (c.in_ok-subject.ensures.met all are))

pub returns-clause-ids : goal.returns-clause-ids
returns-clause-ids c = λ all are.
    let second = c.in_ok-subject.ensures.met all are in
    let third = c.in_ok-predicate.ensures.met all second in
    triple_placed _ _ _ _ (triple_at all c.args.triple.now) c.in_ok-predicate.ensures.grown c.in_ok-object.ensures.grown (c.in_ok-subject.ensures.place all are) (c.in_ok-predicate.ensures.place all second) (c.in_ok-object.ensures.place all third)
