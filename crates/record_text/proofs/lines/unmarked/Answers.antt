use Rattle.std.proofs.Common.{◌∙◌, ap, ◌++◌, List, ℕ, ◌∷◌, []}
use Rattle.record_text.proofs.OneSplit.{one_more}
use Rattle.record_text.proofs.lines.unmarked.Goals as goal

pub loop-line-preserved : goal.loop-line-preserved
loop-line-preserved c =
    let i = c.loop-line.invariant in
    let first = c.in-Some.ensures in
    let more = one_more c.args.mark.now c.args.text.now c.loop-line.lines.items c.loop-line.rest.now i.each first.0 c.in-Some.next.now c.extend_from_slice.new.self.items i.lines_of i.text_is i.lines_are i.size first.1 first.3
    (c.in_ok-extend_from_slice.ensures.items ∙ ap (λ (l : List ℕ). c.loop-line.lines.items ++ l) first.2) in
    record { each = i.each ++ first.0 ∷ []; lines_of = more.0; text_is = more.1; lines_are = more.2; size = more.3 }
