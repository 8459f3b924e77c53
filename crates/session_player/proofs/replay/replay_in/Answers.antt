use Rattle.std.proofs.Common.{rules, ◌≡◌, ◌<◌, ◌≤◌, ℕ, List, [], subst, ◌∙◌}
use Rattle.std.specs.List.{AllByRecursion}
use Rattle.session_player.specs.Players.{Player, EndsAll, states_of}
use Rattle.session_player.proofs.Seats.{are_ready_start, stops_start, ends_unopened, ends_unfinished, all_opened, replayed, same_players}
use Rattle.session_player.proofs.replay.replay_in.Goals as goal

pub play_places-requires-clause-ready : goal.play_places-requires-clause-ready
play_places-requires-clause-ready g c κs within =
    are_ready_start c.args.limits _ _ c.args.files.items c.in_ok-core.ensures (c.deref_mut.ensures.value ∙ c.in_ok-players.ensures) c.requires.few

pub returns-in-Err : goal.returns-in-Err
returns-in-Err g c =
    stops_start c.args.limits _ _ c.args.files.items c.args.places.now c.in-Err.fault c.in_ok-core.ensures (c.deref_mut.ensures.value ∙ c.in_ok-players.ensures) c.in-Err.ensures

pub returns-then-opened-count : goal.returns-then-opened-count
returns-then-opened-count g c =
    ends_unopened c.args.limits _ _ _ _ c.args.files.items c.args.places.now c.in-Ok.opened c.in_ok-core.ensures (c.deref_mut.ensures.value ∙ c.in_ok-players.ensures) c.in-Ok.ensures.0 c.in-Ok.ensures.1 (subst (λ (n : ℕ). c.in-Ok.opened < n) (search rules) c.if-opened-count.true)

pub returns-in_default : goal.returns-in_default
returns-in_default g c =
    let whole = same_players c.in_ok-players.players.items c.deref_mut.result.now c.play_places.new.players c.in_ok-players.players.len c.deref_mut.ensures.value c.deref_mut.ensures.len c.in-Ok.ensures.0.plays.count in
    let left = subst (λ (ps : List Player). AllByRecursion (λ s. s.commands ≡ []) (states_of ps) → ⊥) whole (rw c.in_default.is at c.in_ok-replies.ensures.ends) in
    ends_unfinished c.args.limits _ _ _ _ c.args.files.items c.args.places.now c.in_ok-core.ensures (c.deref_mut.ensures.value ∙ c.in_ok-players.ensures) c.in-Ok.ensures.0 left

pub returns : goal.returns
returns g c =
    let whole = same_players c.in_ok-players.players.items c.deref_mut.result.now c.play_places.new.players c.in_ok-players.players.len c.deref_mut.ensures.value c.deref_mut.ensures.len c.in-Ok.ensures.0.plays.count in
    let all = subst (λ (ps : List Player). EndsAll (states_of ps) c.in-Some.replies.items) whole (rw c.in-Some.is at c.in_ok-replies.ensures.ends) in
    let players = c.deref_mut.ensures.value ∙ c.in_ok-players.ensures in
    let opened = all_opened c.args.limits _ _ _ _ c.args.files.items c.args.places.now c.in-Ok.opened players c.in-Ok.ensures.0 c.in-Ok.ensures.1 (subst (λ (n : ℕ). n ≤ c.in-Ok.opened) (search rules) c.if-opened-count.false) in
    replayed c.args.limits _ _ _ _ _ c.args.files.items c.args.places.now c.in-Some.replies.items c.in_ok-order.order.items c.in_ok-core.ensures players c.in-Ok.ensures.0 opened all c.in_ok-replies.ensures.same c.in_ok-order.ensures
