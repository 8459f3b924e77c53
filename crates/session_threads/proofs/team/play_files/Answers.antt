use Rattle.std.proofs.Common.{rules, ℕ, ◌≡◌, ◌<◌, ◌+◌, ◌∷◌, ◌++◌, [], List, Option, Some, get_or, length, reverse, ap, sym, subst, ◌∙◌, arith, vec_len}
use Rattle.std.proofs.lemmas.List.{length-map}
use Rattle.std.specs.Option.{IsSome}
use Rattle.session_model.specs.declared.command.Command.{Command}
use Rattle.session_model.specs.declared.reply.SessionReply.{SessionReply}
use Rattle.guard_store.specs.Sessions.{StoreSession}
use Rattle.session_player.proofs.Seats.{written}
use Rattle.session_threads.specs.Team.{AreNumbered, HasEnded, Met, TeamPlayer, files_of}
use Rattle.session_threads.proofs.Closing.{sound_met}
use Rattle.session_threads.proofs.Gathering.{all_left, ended_here, here_left, here_lock, met_next, met_none, of_last, over_of, reverse_last, some_here}
use Rattle.session_threads.proofs.team.play_files.Goals as goal

pub loop-player-init : goal.loop-player-init
loop-player-init g c =
    let store = c.args.store.now in
    let files = c.args.files.items in
    let keeper = c.in_ok-keeper.keeper in
    let opened = c.in_ok-keeper.ensures in
    let items = c.in_ok-keeper.players.items in
    let len = c.in_ok-keeper.players.len in
    let new = c.play_all.new.players in
    let value = c.deref_mut.ensures.value in
    let size : length items ≡ len = omega (arith, c.deref_mut.ensures.len, ap length value) in
    let count : len ≡ length files = sym size ∙ (sym (length-map items (λ (p : TeamPlayer). p.commands)) ∙ ap length opened.files) in
    let whole = written items new len (omega (arith, c.play_all.ensures.count, ap length value)) (omega (arith, size)) in
    let same : files_of c.deref_mut.result.now ≡ files = ap files_of value ∙ opened.files in (
      opened.keeper,
      opened.opened,
      omega (arith, opened.spare, count),
      subst (λ (ps : List TeamPlayer). (k : ℕ) (d : TeamPlayer) → k < length ps → HasEnded store files (get_or ps k d)) (sym whole)
          (subst (λ (fs : List (List Command)). (k : ℕ) (d : TeamPlayer) → k < length new → HasEnded store fs (get_or new k d)) same c.play_all.ensures.players),
      subst AreNumbered (sym whole) c.play_all.ensures.numbers,
      subst (λ (rs : List (List SessionReply)). Met files store len keeper.pass (reverse rs)) (sym c.new-all.ensures.items)
          (subst (λ (n : ℕ). Met files store n keeper.pass []) (sym count) (met_none files store keeper.pass)),
    )

pub unwrap-requires : goal.unwrap-requires
unwrap-requires g c =
    let store = c.args.store.now in
    let ended : HasEnded store c.args.files.items c.in-Some.player = of_last (λ _ (w : TeamPlayer). HasEnded store c.args.files.items w) _ c.pop.new.self.items _ c.in-Some.ensures.items c.loop-player.invariant.3 in
    subst IsSome (ap (λ (p : Option StoreSession × Option (List SessionReply)). p.0) (sym c.into_parts-session.ensures)) (some_here store c.in-Some.player.session (ended_here store _ _ c.in-Some.player.replies c.in-Some.player.session ended))

pub meet-keeper-requires-clause-session : goal.meet-keeper-requires-clause-session
meet-keeper-requires-clause-session g c =
    let store = c.args.store.now in
    let ended : HasEnded store c.args.files.items c.in-Some.player = of_last (λ _ (w : TeamPlayer). HasEnded store c.args.files.items w) _ c.pop.new.self.items _ c.in-Some.ensures.items c.loop-player.invariant.3 in
    let session : c.in-Some.player.session ≡ Some c.unwrap.result = ap (λ (p : Option StoreSession × Option (List SessionReply)). p.0) (sym c.into_parts-session.ensures) ∙ c.unwrap.ensures in
    here_lock store c.in-Some.player.session c.unwrap.result session (ended_here store _ _ c.in-Some.player.replies c.in-Some.player.session ended)

pub meet_all-requires-clause-players : goal.meet_all-requires-clause-players
meet_all-requires-clause-players g c = here_left c.args.store.now c.args.files.items _ c.pop.new.self.items _ c.in-Some.ensures.items c.loop-player.invariant.3

pub meet_all-requires-in_default-push-clause-players : goal.meet_all-requires-in_default-push-clause-players
meet_all-requires-in_default-push-clause-players g c = here_left c.args.store.now c.args.files.items _ c.pop.new.self.items _ c.in-Some.ensures.items c.loop-player.invariant.3

pub loop-player-preserved : goal.loop-player-preserved
loop-player-preserved g c =
    let i = c.loop-player.invariant in
    let store = c.args.store.now in
    let files = c.args.files.items in
    let old = c.loop-player.keeper in
    let after = c.meet-keeper.result in
    let left = c.pop.new.self.items in
    let k = vec_len c.pop.new.self in
    let last = c.in-Some.ensures.items in
    let count : k ≡ length left = search rules in
    let before : vec_len c.loop-player.players ≡ k + 1 = search rules in
    let session : c.in-Some.player.session ≡ Some c.unwrap.result = ap (λ (p : Option StoreSession × Option (List SessionReply)). p.0) (sym c.into_parts-session.ensures) ∙ c.unwrap.ensures in
    let replies : c.in-Some.player.replies ≡ Some c.in-Some-replies.replies = ap (λ (p : Option StoreSession × Option (List SessionReply)). p.1) (sym c.into_parts-session.ensures) ∙ c.in-Some-replies.is in
    let ended : HasEnded store files c.in-Some.player = of_last (λ _ (w : TeamPlayer). HasEnded store files w) _ left _ last i.3 in
    let number : c.in-Some.player.number ≡ length left + 1 = of_last (λ n (w : TeamPlayer). w.number ≡ n + 1) _ left _ last i.4 in
    let over = over_of store files c.in-Some.player.number k c.in-Some.player.replies c.in-Some.player.session c.in-Some-replies.replies c.unwrap.result (number ∙ ap (λ n. n + 1) (sym count)) replies session ended in
    let met = met_next store files k old.pass after.pass c.unwrap.result (reverse c.loop-player.all.items) c.in-Some-replies.replies (subst (λ n. Met files store n old.pass (reverse c.loop-player.all.items)) before i.5) (ap (λ x. x.pass) c.meet-keeper.ensures.met) c.meet-keeper.ensures.this c.meet-keeper.ensures.that over in
    let items : c.push.new.self.items ≡ c.loop-player.all.items ++ c.in-Some-replies.replies ∷ [] = search rules in
    let pushed = reverse_last c.push.new.self.items c.loop-player.all.items c.in-Some-replies.replies items in (
      sound_met store old after i.0 c.meet-keeper.ensures.keeper c.meet-keeper.ensures.this,
      ap (λ x. x.opened) c.meet-keeper.ensures.met ∙ i.1,
      omega (arith, i.2, before, ap (λ x. x.pass.spare) c.meet-keeper.ensures.met),
      all_left (λ _ (w : TeamPlayer). HasEnded store files w) _ left _ last i.3,
      all_left (λ n (w : TeamPlayer). w.number ≡ n + 1) _ left _ last i.4,
      subst (Met files store k after.pass) (sym pushed) met,
    )
