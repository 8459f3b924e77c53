use Rattle.std.proofs.Common.{◌≡◌, ◌+◌, ◌++◌, length, refl, sym, ap, ◌∙◌}
use Rattle.std.specs.Vec.Iter.{into_iter_items}
use Rattle.session_player.proofs.Advancing.{HasRun-next, at_end, more_yielded, placed_next}
use Rattle.session_player.proofs.Playing.{nothing_left}
use Rattle.session_player.proofs.run.play_all.Goals as goal

pub loop-commands-init : goal.loop-commands-init
loop-commands-init g c = record { session = refl; rest = c.into_iter-commands-iterator.ensures.into_iter_gives.0; so_far = rw c.new-all.ensures.items c.requires.opened }

pub loop-commands-preserved : goal.loop-commands-preserved
loop-commands-preserved g c =
    let i = c.loop-commands.invariant in
    let done = c.loop-commands.yielded in
    let rest = ap (λ cs. done ++ cs) (sym c.in-Some.ensures.steps.0) ∙ i.rest in
    let place = placed_next done _ _ c.in-Some.commands rest in
    let more = more_yielded done c.in-Some.commands in
    let at : c.loop-commands.session + 1 ≡ length done + 1 = ap (λ n. n + 1) i.session in
    record {
      session = at ∙ sym more;
      rest = place.2;
      so_far = rw (c.in_ok-push.ensures.items, more) (HasRun-next _ _ _ _ _ _ _ c.in-Some.commands _ _ _ i.so_far at place.0 place.1 c.in_ok-replies.ensures.advances);
    }

pub returns : goal.returns
returns g c =
    let left = c.loop-commands.commands-iterator in
    at_end _ _ _ _ c.loop-commands.yielded (into_iter_items left) c.args.files.items (nothing_left (into_iter_items left) (sym left.rest.ok.0 ∙ c.in-None.ensures.steps.0)) c.loop-commands.invariant.rest c.loop-commands.invariant.so_far
