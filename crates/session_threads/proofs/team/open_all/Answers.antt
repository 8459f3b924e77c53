use Rattle.std.proofs.Common.{rules, ◌≡◌, ◌+◌, ◌∷◌, ◌++◌, [], Some, None, ap, append_assoc, length, length-append, sym, ◌∙◌, arith, vec_len}
use Rattle.std.proofs.lemmas.List.{map-append}
use Rattle.std.specs.Vec.Iter.{into_iter_items}
use Rattle.session_player.proofs.Playing.{nothing_left}
use Rattle.session_threads.specs.Team.{IsStarting, TeamPlayer, files_of}
use Rattle.session_threads.proofs.Gathering.{all_opened, all_pushed, sound_opened, starting_opened}
use Rattle.session_threads.proofs.team.open_all.Goals as goal

pub loop-commands-preserved : goal.loop-commands-preserved
loop-commands-preserved g c =
    let v = c.loop-commands.invariant in
    let store = c.args.store.now in
    let old = c.loop-commands.keeper in
    let done = c.loop-commands.yielded in
    let file = c.in-Some.commands in
    let kept = c.in-Ok-open.kept in
    let s = c.in-Ok-open.session in
    let o = c.in-Ok-open.ensures.opens in
    let opened : kept.opened ≡ old.opened + 1 = o.opened ∙ o.number in
    let n = c.number-number.result in
    let p : TeamPlayer = record { session = Some s; number = n; commands = file; replies = None } in
    let one : length (done ++ file ∷ []) ≡ length done + 1 = length-append done (file ∷ []) in
    let starts : IsStarting store p = starting_opened store old kept s n file o c.number-number.ensures in
    let pushed : c.push_reserved.new.self.items ≡ c.loop-commands.players.items ++ p ∷ [] = search rules in
    let more : vec_len c.push_reserved.new.self ≡ vec_len c.loop-commands.players + 1 = search rules in
    let len : vec_len c.loop-commands.players ≡ length c.loop-commands.players.items = search rules in (
      sound_opened store old kept s v.0 o,
      omega (arith, opened, v.1, one),
      omega (arith, c.in-Ok-open.ensures.seats, v.2, one),
      omega (arith, more, v.3, one),
      all_pushed (λ _ (q : TeamPlayer). IsStarting store q) _ _ p pushed v.4 starts,
      all_pushed (λ k (q : TeamPlayer). q.number ≡ k + 1) _ _ p pushed v.5 (omega (arith, c.number-number.ensures, o.number, v.1, v.3, len)),
      ap files_of pushed ∙ (map-append (λ (q : TeamPlayer). q.commands) c.loop-commands.players.items (p ∷ []) ∙ ap (λ cs. cs ++ file ∷ []) v.6),
      append_assoc done (file ∷ []) _ ∙ (ap (λ cs. done ++ cs) (sym c.in-Some.ensures.steps.0) ∙ v.7),
    )

pub returns-clause-opened : goal.returns-clause-opened
returns-clause-opened g c =
    let v = c.loop-commands.invariant in
    let left = c.loop-commands.commands-iterator in
    v.1 ∙ ap length (all_opened c.loop-commands.yielded (into_iter_items left) c.args.files.items (nothing_left (into_iter_items left) (sym left.rest.ok.0 ∙ c.in-None.ensures.steps.0)) v.7)

pub returns-clause-spare : goal.returns-clause-spare
returns-clause-spare g c =
    let v = c.loop-commands.invariant in
    let left = c.loop-commands.commands-iterator in
    let all = all_opened c.loop-commands.yielded (into_iter_items left) c.args.files.items (nothing_left (into_iter_items left) (sym left.rest.ok.0 ∙ c.in-None.ensures.steps.0)) v.7 in
    omega (arith, v.2, ap length all)

pub returns-clause-files : goal.returns-clause-files
returns-clause-files g c =
    let v = c.loop-commands.invariant in
    let left = c.loop-commands.commands-iterator in
    v.6 ∙ all_opened c.loop-commands.yielded (into_iter_items left) c.args.files.items (nothing_left (into_iter_items left) (sym left.rest.ok.0 ∙ c.in-None.ensures.steps.0)) v.7
