use Rattle.std.proofs.Common.{List, subst}
use Rattle.plain_terms.specs.Finds.{Finds, WithSome}
use Rattle.plain_terms.specs.declared.relation.Pair.{Pair}
use Rattle.plain_terms.specs.Pairs.{EndOf}
use Rattle.plain_terms.proofs.Made.{ends_with, ends_without}
use Rattle.plain_terms.proofs.joins.ends_of.Goals as goal
use Rattle.plain_terms.proofs.joins.ends_of.Goals.{then-relation+in_ok-clone+in_ok-push, else-relation}

pub returns : goal.returns
returns c =
    let r = c.args.relation.now in
    let x = c.args.node.now in
    let found = c.in_ok-ends.ends.items in
    let h = subst (λ (pairs : List Pair). Finds (WithSome pairs (EndOf x)) found) c.as_slice.ensures c.in_ok-ends.ensures in
    elim c.if-relation.branch [
      | then-relation+in_ok-clone+in_ok-push w ↦ rw w.ends-is (ends_with r x found h w.if-relation.true w.push.new.self.items (rw w.in_ok-clone.ensures.cases at w.in_ok-push.ensures.items))
      | else-relation w ↦ rw w.ends-is (ends_without r x found h w.if-relation.false)
    ]
