use Rattle.std.proofs.Common.{rules, ◌≡◌, ◌+◌, ◌≤◌, length, ap, sym, subst, ◌∙◌, arith, vec_len}
use mathlib.Core.Logic.{dite}
use native.Mathlib.Decide.{ℕ_discrete}
use Rattle.turn_counter.specs.declared.worker.Worker.{Worker}
use Rattle.turn_counter.specs.Workers.{HasAdded, IsWorker, IsCaller}
use Rattle.turn_counter.proofs.Gathered.{still_has, now_has, all_left, of_last}
use Rattle.turn_counter.proofs.team.gather.Goals as goal

pub loop-worker-preserved : goal.loop-worker-preserved
loop-worker-preserved c =
    let i = c.loop-worker.invariant in
    let lock = c.args.turns.now.id in
    let after = c.meet-first.result in
    let left = c.pop.new.self.items in
    let last = c.in-Some.ensures.items in
    let count : vec_len c.pop.new.self ≡ length left = search rules in
    let before : vec_len c.loop-worker.workers ≡ length left + 1 = search rules in
    let worker : IsWorker lock c.in-Some.worker = of_last (λ _ w. IsWorker lock w) _ left _ last i.2 in
    let number : c.in-Some.worker.number ≡ length left + 1 = of_last (λ k (w : Worker). w.number ≡ k + 1) _ left _ last i.3 in
    let done : c.in-Some.worker.done ≡ c.args.times = search rules in
    let has = subst (IsCaller lock c.in-Some.worker.number (c.in-Some.worker.done + 1)) c.unwrap.ensures worker.0 in (
      search rules,
      search rules,
      all_left (λ _ w. IsWorker lock w) _ left _ last i.2,
      all_left (λ k (w : Worker). w.number ≡ k + 1) _ left _ last i.3,
      λ k le lt. dite (ℕ_discrete k (length left))
          (λ same. subst (λ n. HasAdded lock n (c.args.times + 1) after) (number ∙ ap (λ n. n + 1) (sym same)) (now_has lock _ _ c.loop-worker.first c.unwrap.result after i.0.0 c.meet-first.ensures.met c.meet-first.ensures.that (subst (λ t. HasAdded lock c.in-Some.worker.number (t + 1) c.unwrap.result) done has)))
          (λ other. let rest : vec_len c.loop-worker.workers ≤ k = omega (arith, le, count, before, other) in
          still_has lock (k + 1) (c.args.times + 1) c.loop-worker.first c.unwrap.result after c.meet-first.ensures.met c.meet-first.ensures.this (i.4 k rest lt)),
    )
