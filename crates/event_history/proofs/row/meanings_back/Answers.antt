use Rattle.std.proofs.Common.{◌≡◌, ◌∙◌, [], ◌∷◌, ◌++◌, sym, ap}
use Rattle.event_history.specs.declared.row.Row.{Row}
use Rattle.event_history.specs.Kept.{meaning}
use Rattle.event_history.specs.Rows.{kept_events}
use Rattle.event_history.proofs.Telling.{fewer_have, more_meanings}
use Rattle.event_history.proofs.row.meanings_back.Goals as goal

pub loop-at-preserved : goal.loop-at-preserved
loop-at-preserved c =
    let names = c.args.names.now.terms in
    let event = c.deref.result.now.event in
    let older = c.deref-in-After.result.now.older in
    let split : c.loop-at.at.now ≡ older ++ event ∷ [] = sym c.at.view_is ∙ ap kept_events c.in-After.is
    ∙ ap (λ (row : Row). row.older ++ c.in-After.row.value.event ∷ []) (sym c.deref-in-After.ensures) ∙ ap (λ (row : Row). older ++ row.event ∷ []) (sym c.deref.ensures) in
    let more : c.push.new.self.items ≡ c.loop-at.read.items ++ meaning names event ∷ [] = rw c.in_ok-meaning.ensures at c.in_ok-push.ensures.items in
    record {
      so_far = more_meanings names _ _ _ _ _ _ split more c.loop-at.invariant.so_far;
      terms = fewer_have names _ _ _ split c.loop-at.invariant.terms;
    }
