use Rattle.std.proofs.Common.{rules, ℕ, [], length, refl, subst, sym}
use Rattle.store_model.specs.declared.event.Limits.{Limits}
use Rattle.store_model.specs.Store.{empty_store}
use Rattle.session_player.specs.Progress.{HasRun, OpensSessions}
use Rattle.session_player.proofs.Advancing.{HasRun-start, HasReplies-HasRun}
use Rattle.session_player.proofs.run.run_in.Goals as goal

pub play_all-requires-clause-opened : goal.play_all-requires-clause-opened
play_all-requires-clause-opened g c κs within =
    let start = HasRun-start c.args.files.items c.args.limits _ c.open_all.new.core _ c.in_ok-core.ensures refl (subst (λ (n : ℕ). OpensSessions c.in_ok-core.core c.open_all.new.core n) (search rules) c.in_ok-open_all.ensures) in
    subst (λ (l : Limits). HasRun c.args.files.items l empty_store c.open_all.new.core 0 []) (sym start.limits) start

pub returns : goal.returns
returns g c =
    let start = HasRun-start c.args.files.items c.args.limits _ c.open_all.new.core _ c.in_ok-core.ensures refl (subst (λ (n : ℕ). OpensSessions c.in_ok-core.core c.open_all.new.core n) (search rules) c.in_ok-open_all.ensures) in
    let done = subst (λ (l : Limits). HasRun c.args.files.items l empty_store c.play_all.new.core (length c.args.files.items) c.in_ok-replies.replies.items) start.limits c.in_ok-replies.ensures in
    rw c.in_ok-order.ensures (HasReplies-HasRun c.args.files.items c.args.limits empty_store c.play_all.new.core c.in_ok-replies.replies.items done)
