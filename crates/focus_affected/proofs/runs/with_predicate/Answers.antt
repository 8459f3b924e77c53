use Rattle.std.proofs.Common.{◌≡◌, List, subst, sym}
use Rattle.std.specs.Prelude.{◌↔◌}
use Rattle.std.specs.List.{Contains}
use Rattle.focus_affected.proofs.Keys.{in_turn, run_members}
use Rattle.focus_affected.proofs.runs.with_predicate.Goals as goal

pub part_of-requires : goal.part_of-requires
part_of-requires g c = (
  in_turn g.T.UnderPredicate.under c.args.items.now c.args.predicate c.count_below-start.result c.count_up_to-end.result c.count_below-start.ensures.bound c.count_up_to-end.ensures.bound c.count_below-start.ensures.split c.count_up_to-end.ensures.split,
  c.count_up_to-end.ensures.bound,
)

pub returns : goal.returns
returns g c = λ i.
    let key = g.T.UnderPredicate.under in
    subst (λ run. Contains run i ↔ (Contains c.args.items.now i × (key i ≡ c.args.predicate))) (sym c.part_of.ensures)
    (run_members key c.args.items.now c.args.predicate c.count_below-start.result c.count_up_to-end.result c.count_below-start.ensures.bound c.count_up_to-end.ensures.bound c.count_below-start.ensures.split c.count_up_to-end.ensures.split i)
