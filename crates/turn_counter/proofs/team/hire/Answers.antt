use Rattle.std.proofs.Common.{◌≡◌, ◌+◌, ◌%◌, ◌^◌, ap, sym, subst, List}
use Rattle.turn_counter.specs.declared.entry.Entry.{Entry}
use Rattle.turn_counter.specs.Sums.{total_of}
use Rattle.turn_counter.specs.Workers.{HasAdded, IsFresh}
use Rattle.turn_counter.proofs.Added.{replied}
use Rattle.turn_counter.proofs.Hired.{fresh_after, hired}
use Rattle.turn_counter.proofs.team.hire.Goals as goal

pub returns-clause-fresh : goal.returns-clause-fresh
returns-clause-fresh g c =
    subst (λ (f : List Entry). IsFresh f (c.args.number + 1)) (sym (ap (λ x. x.known.front) c.in-Ok.ensures.1))
    (fresh_after c.args.turns.now.id c.args.first c.add-first.result.0 c.args.number c.add-first.result.1 c.requires.first c.requires.some c.requires.fresh c.add-first.ensures)

pub returns-clause-worker : goal.returns-clause-worker
returns-clause-worker g c = (
  subst (HasAdded c.args.turns.now.id c.args.number 1) (sym c.in-Ok.ensures.2)
      (hired c.args.turns.now.id c.args.first c.add-first.result.0 c.args.number c.add-first.result.1 c.requires.first c.requires.some c.requires.fresh c.add-first.ensures),
  subst (λ x. c.add-first.result.1 ≡ total_of x.known.front % 2 ^ 64) (sym c.in-Ok.ensures.2) (replied _ _ _ _ c.add-first.ensures),
)
