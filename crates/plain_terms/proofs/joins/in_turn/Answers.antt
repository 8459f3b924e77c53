use Rattle.std.proofs.Common.{List, refl, subst, take}
use Rattle.plain_terms.specs.declared.relation.Relation.{Relation}
use Rattle.plain_terms.specs.Relations.{JoinsInTurn, Means}
use Rattle.plain_terms.proofs.Made.{in_turn_more, none_in_turn, taken_more, taken_whole}
use Rattle.plain_terms.proofs.joins.in_turn.Goals as goal

pub loop-relation-init : goal.loop-relation-init
loop-relation-init c = none_in_turn _ c.new.ensures refl

pub loop-relation-preserved : goal.loop-relation-preserved
loop-relation-preserved c =
    let i = c.loop-relation.relation-index in
    let rs = c.args.relations.now in
    let r = c.relation-item.result in
    subst (λ (front : List Relation). Means (JoinsInTurn front) c.in_ok-found.found) (taken_more rs i r c.loop-relation-test.true c.relation-item.is)
    (in_turn_more (take i rs) r c.loop-relation.found c.in_ok-found.found c.loop-relation.invariant c.in_ok-found.ensures)

pub returns : goal.returns
returns c = subst (λ (front : List Relation). Means (JoinsInTurn front) c.loop-relation.found) (taken_whole c.args.relations.now c.loop-relation.relation-index c.loop-relation-test.false) c.loop-relation.invariant
