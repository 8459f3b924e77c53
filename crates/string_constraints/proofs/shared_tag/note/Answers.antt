use Rattle.string_constraints.proofs.Tags.{seen_again, seen_first}
use Rattle.string_constraints.proofs.shared_tag.note.Goals as goal

pub returns-in_ok-keep : goal.returns-in_ok-keep
returns-in_ok-keep c = seen_again c.args.tag.now c.args.seen.now.keys c.args.shared.now.keys c.keep.new.tags.keys (c.is_kept.ensures.0 c.if-is_kept.true) c.in_ok-keep.ensures

pub returns-in_ok-keep-2 : goal.returns-in_ok-keep-2
returns-in_ok-keep-2 c =
    seen_first c.args.tag.now c.args.seen.now.keys c.args.shared.now.keys c.keep-else-is_kept.new.tags.keys
    (λ there. let is = c.is_kept.ensures.1 there in let not = c.if-is_kept.false in cc (is, not)) c.in_ok-keep-2.ensures
