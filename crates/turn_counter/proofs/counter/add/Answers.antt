use Rattle.std.proofs.Common.{◌++◌, [], ◌∷◌, false, ap, sym, subst, ◌∙◌}
use Rattle.turn_lock.specs.History.{MayAdd}
use Rattle.turn_lock.proofs.Reserved.{may_still_add}
use Rattle.turn_counter.specs.Sums.{number_of}
use Rattle.turn_counter.proofs.counter.add.Goals as goal

pub leave-requires-clause-entry : goal.leave-requires-clause-entry
leave-requires-clause-entry g c =
    let held = c.enter-held.ensures.held in
    let front = ap (λ h. h.known.front) held in (
      c.args.entry,
      c.push-counter.ensures ∙ ap (λ h. h ++ c.args.entry ∷ []) (sym front),
      subst (λ k. MayAdd number_of false k c.args.entry) (sym (ap (λ h. h.known) held)) (may_still_add number_of false c.args.caller.known c.enter-held.result.1 c.args.entry c.enter-held.ensures.added c.requires.entry),
    )
