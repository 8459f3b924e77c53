use Rattle.std.proofs.Common.{◌+◌, sym, subst, ◌∙◌}
use Rattle.turn_counter.specs.Workers.{IsCaller}
use Rattle.turn_counter.proofs.Added.{added_one, replied}
use Rattle.turn_counter.proofs.worker.Worker.turn.Goals as goal

pub returns-clause-worker : goal.returns-clause-worker
returns-clause-worker g c =
    let self = c.args.self.now in
    (added_one _ _ _ _ _ _ (subst (IsCaller c.args.turns.now.id self.number (self.done + 1)) (sym c.take.ensures.value ∙ c.unwrap-pass.ensures) c.requires.worker.0) c.add-pass.ensures, replied _ _ _ _ c.add-pass.ensures)
