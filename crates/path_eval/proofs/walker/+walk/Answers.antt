use Rattle.std.proofs.Common.{◌≡◌, ◌∙◌, ◌<◌, ◌≤◌, ◌*◌, ◌+◌, ℕ, List, IfOk, length, drop, ap, arith, sym, subst}
use Rattle.std.specs.Box.{with_value}
use Rattle.std.proofs.lemmas.List.{length-append}
use Rattle.std.proofs.lemmas.Result.{IfOk-weaker}
use Rattle.rdf_model.specs.declared.look.Look.{Look}
use Rattle.rdf_model.specs.Numbers.{IsFound}
use Rattle.path_eval.specs.declared.walker.Walker.{Walker, Here, Edges, Then, Either, More}
use Rattle.path_eval.specs.Relations.{IsFollowed}
use Rattle.path_eval.specs.NumberedWalks.{look_from}
use Rattle.path_eval.specs.Walkers.{Explores, GoesOn, plan_of}
use Rattle.path_eval.proofs.Going.{advances, edges_on, either_on, either_size, explores_more, explores_none, here_on, more_on, more_size, nowhere_on, plan_size, same_size, size_same, then_on, then_size}
use Rattle.path_eval.proofs.walker.+walk.Goals as goal

pub advance-returns-clause-entered : goal.advance-returns-clause-entered
advance-returns-clause-entered g t c = advances (g.R.Triples.triples c.args.graph.now) c.args.walker.now c.walk_on.new.walker c.args.done c.args.entered.now c.enter_all.new.visited c.entered_after.result.now c.in_ok-ends.ends.items
    c.deref.result.now c.args.footprint.now c.walk_on.new.footprint c.entered_after.ensures c.deref.ensures.value c.in_ok-ends.ensures.ends c.in_ok-enter_all.ensures

pub explore-loop-done-init : goal.explore-loop-done-init
explore-loop-done-init g t c = explores_none (g.R.Triples.triples c.args.graph.now) c.args.walker.now c.args.from c.args.entered.now c.args.footprint.now c.requires

pub explore-loop-done-preserved : goal.explore-loop-done-preserved
explore-loop-done-preserved g t c =
    let ids = g.R.Triples.triples c.args.graph.now in
    subst (λ (n : ℕ). Explores ids c.args.walker.now c.advance.new.walker c.args.from n c.args.entered.now c.advance.new.entered c.args.footprint.now c.advance.new.footprint) (sym c.len-done.ensures.len)
    (explores_more ids c.args.walker.now c.loop-done.walker c.advance.new.walker c.args.from c.loop-done.done c.args.entered.now c.loop-done.entered c.advance.new.entered c.args.footprint.now c.loop-done.footprint
    c.advance.new.footprint c.requires c.loop-done.invariant c.in_ok-advance.ensures.entered)

pub walk_on-walk_on-requires : goal.walk_on-walk_on-requires
walk_on-walk_on-requires g t c κs within =
    let part = c.deref_mut.result.now in
    let same = size_same part c.in-Then.first.value c.deref_mut.ensures.value in
    let less : plan_size (plan_of part) * 3 < plan_size (plan_of c.args.walker.now) * 3 = omega (arith, then_size c.args.walker.now c.in-Then.first c.in-Then.second c.in-Then.is, same) in
    (subst (λ (n : ℕ). plan_size (plan_of part) * 3 < n) c.decreases less, within)

pub walk_on-walk_on-requires-in-Then : goal.walk_on-walk_on-requires-in-Then
walk_on-walk_on-requires-in-Then g t c κs within =
    let part = c.deref_mut-in-Then.result.now in
    let same = size_same part c.in-Then.second.value c.deref_mut-in-Then.ensures.value in
    let less : plan_size (plan_of part) * 3 < plan_size (plan_of c.args.walker.now) * 3 = omega (arith, then_size c.args.walker.now c.in-Then.first c.in-Then.second c.in-Then.is, same) in
    (subst (λ (n : ℕ). plan_size (plan_of part) * 3 < n) c.decreases less, within)

pub walk_on-walk_on-requires-in-Either : goal.walk_on-walk_on-requires-in-Either
walk_on-walk_on-requires-in-Either g t c κs within =
    let part = c.deref_mut-in-Either.result.now in
    let same = size_same part c.in-Either.first.value c.deref_mut-in-Either.ensures.value in
    let less : plan_size (plan_of part) * 3 < plan_size (plan_of c.args.walker.now) * 3 = omega (arith, either_size c.args.walker.now c.in-Either.first c.in-Either.second c.in-Either.is, same) in
    (subst (λ (n : ℕ). plan_size (plan_of part) * 3 < n) c.decreases less, within)

pub walk_on-walk_on-requires-in-Either-2 : goal.walk_on-walk_on-requires-in-Either-2
walk_on-walk_on-requires-in-Either-2 g t c κs within =
    let part = c.deref_mut-in-Either-2.result.now in
    let same = size_same part c.in-Either.second.value c.deref_mut-in-Either-2.ensures.value in
    let less : plan_size (plan_of part) * 3 < plan_size (plan_of c.args.walker.now) * 3 = omega (arith, either_size c.args.walker.now c.in-Either.first c.in-Either.second c.in-Either.is, same) in
    (subst (λ (n : ℕ). plan_size (plan_of part) * 3 < n) c.decreases less, within)

pub walk_on-walk_on-requires-in-More : goal.walk_on-walk_on-requires-in-More
walk_on-walk_on-requires-in-More g t c κs within =
    let part = c.deref_mut-in-More.result.now in
    let same = size_same part c.in-More.inner.value c.deref_mut-in-More.ensures.value in
    let less : plan_size (plan_of part) * 3 < plan_size (plan_of c.args.walker.now) * 3 = omega (arith, more_size c.args.walker.now c.in-More.inner c.in-More.entered c.in-More.is, same) in
    (subst (λ (n : ℕ). plan_size (plan_of part) * 3 < n) c.decreases less, within)

pub walk_on-explore-requires : goal.walk_on-explore-requires
walk_on-explore-requires g t c κs within =
    let part = c.deref_mut-in-More-2.result.now in
    let mid = c.walk_on-in-More.new.walker in
    let same : plan_size (plan_of part) ≡ plan_size (plan_of mid) = size_same part mid c.deref_mut-in-More-2.ensures.value in
    let kept = same_size (plan_of mid) (plan_of c.deref_mut-in-More.result.now) c.in_ok-first-in-More.ensures.ends.kept in
    let inner = size_same c.deref_mut-in-More.result.now c.in-More.inner.value c.deref_mut-in-More.ensures.value in
    let less : plan_size (plan_of part) * 3 + 2 < plan_size (plan_of c.args.walker.now) * 3 = omega (arith, more_size c.args.walker.now c.in-More.inner c.in-More.entered c.in-More.is, same, kept, inner) in
    let more = c.in_ok-enter_all-in-More.ensures in
    let start : c.len-from-in-More.result ≤ length c.enter_all-in-More.new.visited = omega (arith, c.len-from-in-More.ensures.len, ap length more.extended, length-append c.in-More.entered more.more) in
    (subst (λ (n : ℕ). plan_size (plan_of part) * 3 + 2 < n) c.decreases less, (within, start))

pub walk_on-returns-in-Here-clause-ends : goal.walk_on-returns-in-Here-clause-ends
walk_on-returns-in-Here-clause-ends g t c =
    let ids = g.R.Triples.triples c.args.graph.now in
    let xs = c.args.starts.now in
    let looks = c.args.footprint.now in
    subst (λ (w : Walker). IfOk c.copied.result (λ ends. GoesOn ids w w xs looks looks ends.items)) (sym c.in-Here.is)
    (IfOk-weaker c.copied.result (λ ends. ends.items ≡ xs) (λ ends. GoesOn ids Here Here xs looks looks ends.items) (λ ends e. here_on ids xs ends.items looks e) c.copied.ensures)

pub walk_on-returns-in_ok-enter_all-in-Edges-clause-ends : goal.walk_on-returns-in_ok-enter_all-in-Edges-clause-ends
walk_on-returns-in_ok-enter_all-in-Edges-clause-ends g t c =
    let ids = g.R.Triples.triples c.args.graph.now in
    let xs = c.args.starts.now in
    let old = c.args.footprint.now in
    let new = c.edges.new.footprint in
    let p = c.in-Edges.predicate in
    let reversed = c.in-Edges.reversed in
    let seen = c.in-Edges.seen in
    let seen' = c.enter_all.new.visited in
    let R = λ (x y : ℕ). IsFound (look_from reversed p x) ids y in
    let L = λ (x : ℕ) (look : Look ℕ). look ≡ look_from reversed p x in
    let from = subst (λ (l : List ℕ). IfOk c.edges.result (λ ends. IsFollowed l R L old new ends.items)) c.entered_after.ensures c.edges.ensures.followed in
    let fresh = subst (λ (n : ℕ). IfOk c.edges.result (λ ends. IsFollowed (drop n seen') R L old new ends.items)) c.len-from.ensures.len from in
    subst (λ (w : Walker). IfOk c.edges.result (λ ends. GoesOn ids w (Edges p reversed seen') xs old new ends.items)) (sym c.in-Edges.is)
    (IfOk-weaker c.edges.result (λ ends. IsFollowed (drop (length seen) seen') R L old new ends.items) (λ ends. GoesOn ids (Edges p reversed seen) (Edges p reversed seen') xs old new ends.items)
    (λ ends h. edges_on ids p reversed seen seen' xs ends.items old new c.in_ok-enter_all-in-Edges.ensures h) fresh)

pub walk_on-returns-in_ok-middle-in-Then-clause-ends : goal.walk_on-returns-in_ok-middle-in-Then-clause-ends
walk_on-returns-in_ok-middle-in-Then-clause-ends g t c =
    let ids = g.R.Triples.triples c.args.graph.now in
    let xs = c.args.starts.now in
    let old = c.args.footprint.now in
    let mid = c.walk_on.new.footprint in
    let new = c.walk_on-in-Then.new.footprint in
    let first = c.in-Then.first in
    let second = c.in-Then.second in
    let first' = with_value first c.walk_on.new.walker in
    let second' = with_value second c.walk_on-in-Then.new.walker in
    let middle = c.in_ok-middle-in-Then.middle.items in
    let level = c.deref.result.now in
    let h = subst (λ (w : Walker). GoesOn ids w c.walk_on.new.walker xs old mid middle) c.deref_mut.ensures.value c.in_ok-middle-in-Then.ensures.ends in
    let k = subst (λ (w : Walker). IfOk c.walk_on-in-Then.result (λ ends. GoesOn ids w c.walk_on-in-Then.new.walker level mid new ends.items)) c.deref_mut-in-Then.ensures.value c.walk_on-in-Then.ensures.ends in
    subst (λ (w : Walker). IfOk c.walk_on-in-Then.result (λ ends. GoesOn ids w (Then first' second') xs old new ends.items)) (sym c.in-Then.is)
    (IfOk-weaker c.walk_on-in-Then.result (λ ends. GoesOn ids second.value c.walk_on-in-Then.new.walker level mid new ends.items) (λ ends. GoesOn ids (Then first second) (Then first' second') xs old new ends.items)
    (λ ends k. then_on ids first first' second second' xs old mid new middle level ends.items c.deref.ensures.value h k) k)

pub walk_on-returns-in_ok-append-in-Either-clause-ends : goal.walk_on-returns-in_ok-append-in-Either-clause-ends
walk_on-returns-in_ok-append-in-Either-clause-ends g t c =
    let ids = g.R.Triples.triples c.args.graph.now in
    let xs = c.args.starts.now in
    let old = c.args.footprint.now in
    let mid = c.walk_on-in-Either.new.footprint in
    let new = c.walk_on-in-Either-2.new.footprint in
    let first = c.in-Either.first in
    let second = c.in-Either.second in
    let first' = with_value first c.walk_on-in-Either.new.walker in
    let second' = with_value second c.walk_on-in-Either-2.new.walker in
    let ends = c.in_ok-ends-in-Either.ends.items in
    let more = c.in_ok-more-in-Either.more.items in
    let h = subst (λ (w : Walker). GoesOn ids w c.walk_on-in-Either.new.walker xs old mid ends) c.deref_mut-in-Either.ensures.value c.in_ok-ends-in-Either.ensures.ends in
    let k = subst (λ (w : Walker). GoesOn ids w c.walk_on-in-Either-2.new.walker xs mid new more) c.deref_mut-in-Either-2.ensures.value c.in_ok-more-in-Either.ensures.ends in
    subst (λ (w : Walker). GoesOn ids w (Either first' second') xs old new c.append.new.self.items) (sym c.in-Either.is)
    (either_on ids first first' second second' xs old mid new ends more c.append.new.self.items c.in_ok-append-in-Either.ensures.items h k)

pub walk_on-returns-in_ok-explore-in-More-clause-ends : goal.walk_on-returns-in_ok-explore-in-More-clause-ends
walk_on-returns-in_ok-explore-in-More-clause-ends g t c =
    let ids = g.R.Triples.triples c.args.graph.now in
    let xs = c.args.starts.now in
    let old = c.args.footprint.now in
    let mid = c.walk_on-in-More.new.footprint in
    let new = c.explore.new.footprint in
    let inner = c.in-More.inner in
    let inner' = with_value inner c.explore.new.walker in
    let entered = c.in-More.entered in
    let middle = c.enter_all-in-More.new.visited in
    let entered' = c.explore.new.entered in
    let from = c.len-from-in-More.result in
    let first = c.in_ok-first-in-More.first.items in
    let level = c.entered_after-in-More.result.now in
    let h = subst (λ (w : Walker). GoesOn ids w c.walk_on-in-More.new.walker xs old mid first) c.deref_mut-in-More.ensures.value c.in_ok-first-in-More.ensures.ends in
    let k = subst (λ (w : Walker). Explores ids w c.explore.new.walker from (length entered') middle entered' mid new) c.deref_mut-in-More-2.ensures.value c.in_ok-explore-in-More.ensures.entered in
    subst (λ (w : Walker). IfOk c.copied-in-More.result (λ ends. GoesOn ids w (More inner' entered') xs old new ends.items)) (sym c.in-More.is)
    (IfOk-weaker c.copied-in-More.result (λ ends. ends.items ≡ level) (λ ends. GoesOn ids (More inner entered) (More inner' entered') xs old new ends.items)
    (λ ends e. more_on ids inner inner' c.walk_on-in-More.new.walker from xs first c.deref-in-More.result.now ends.items entered middle entered' old mid new c.len-from-in-More.ensures.len c.deref-in-More.ensures.value
    h c.in_ok-enter_all-in-More.ensures k (e ∙ c.entered_after-in-More.ensures)) c.copied-in-More.ensures)

pub walk_on-returns-in-Nowhere-clause-ends : goal.walk_on-returns-in-Nowhere-clause-ends
walk_on-returns-in-Nowhere-clause-ends g t c =
    let ids = g.R.Triples.triples c.args.graph.now in
    let looks = c.args.footprint.now in
    subst (λ (w : Walker). GoesOn ids w w c.args.starts.now looks looks c.new.result.items) (sym c.in-Nowhere.is) (nowhere_on ids c.args.starts.now c.new.result.items looks c.new.ensures.items)

-- what the footprint had stays there at each way out
pub advance-returns-clause-kept : goal.advance-returns-clause-kept
advance-returns-clause-kept g t c = c.walk_on.ensures.kept

pub advance-returns-in_err-ends-clause-kept : goal.advance-returns-in_err-ends-clause-kept
advance-returns-in_err-ends-clause-kept g t c = c.walk_on.ensures.kept

pub advance-returns-in_err-enter_all-clause-kept : goal.advance-returns-in_err-enter_all-clause-kept
advance-returns-in_err-enter_all-clause-kept g t c = c.walk_on.ensures.kept

pub explore-returns-clause-kept : goal.explore-returns-clause-kept
explore-returns-clause-kept g t c = c.loop-done.invariant.grown

pub explore-returns-in_err-advance-clause-kept : goal.explore-returns-in_err-advance-clause-kept
explore-returns-in_err-advance-clause-kept g t c = λ look h. c.advance.ensures.kept look (c.loop-done.invariant.grown look h)

pub walk_on-returns-in-Here-clause-kept : goal.walk_on-returns-in-Here-clause-kept
walk_on-returns-in-Here-clause-kept g t c = λ look h. h

pub walk_on-returns-in-Nowhere-clause-kept : goal.walk_on-returns-in-Nowhere-clause-kept
walk_on-returns-in-Nowhere-clause-kept g t c = λ look h. h

pub walk_on-returns-in_err-enter_all-in-Edges-clause-kept : goal.walk_on-returns-in_err-enter_all-in-Edges-clause-kept
walk_on-returns-in_err-enter_all-in-Edges-clause-kept g t c = λ look h. h

pub walk_on-returns-in_ok-enter_all-in-Edges-clause-kept : goal.walk_on-returns-in_ok-enter_all-in-Edges-clause-kept
walk_on-returns-in_ok-enter_all-in-Edges-clause-kept g t c = c.edges.ensures.kept

pub walk_on-returns-in_err-middle-in-Then-clause-kept : goal.walk_on-returns-in_err-middle-in-Then-clause-kept
walk_on-returns-in_err-middle-in-Then-clause-kept g t c = c.walk_on.ensures.kept

pub walk_on-returns-in_ok-middle-in-Then-clause-kept : goal.walk_on-returns-in_ok-middle-in-Then-clause-kept
walk_on-returns-in_ok-middle-in-Then-clause-kept g t c = λ look h. c.walk_on-in-Then.ensures.kept look (c.walk_on.ensures.kept look h)

pub walk_on-returns-in_err-ends-in-Either-clause-kept : goal.walk_on-returns-in_err-ends-in-Either-clause-kept
walk_on-returns-in_err-ends-in-Either-clause-kept g t c = c.walk_on-in-Either.ensures.kept

pub walk_on-returns-in_err-more-in-Either-clause-kept : goal.walk_on-returns-in_err-more-in-Either-clause-kept
walk_on-returns-in_err-more-in-Either-clause-kept g t c = λ look h. c.walk_on-in-Either-2.ensures.kept look (c.walk_on-in-Either.ensures.kept look h)

pub walk_on-returns-in_err-append-in-Either-clause-kept : goal.walk_on-returns-in_err-append-in-Either-clause-kept
walk_on-returns-in_err-append-in-Either-clause-kept g t c = λ look h. c.walk_on-in-Either-2.ensures.kept look (c.walk_on-in-Either.ensures.kept look h)

pub walk_on-returns-in_ok-append-in-Either-clause-kept : goal.walk_on-returns-in_ok-append-in-Either-clause-kept
walk_on-returns-in_ok-append-in-Either-clause-kept g t c = λ look h. c.walk_on-in-Either-2.ensures.kept look (c.walk_on-in-Either.ensures.kept look h)

pub walk_on-returns-in_err-first-in-More-clause-kept : goal.walk_on-returns-in_err-first-in-More-clause-kept
walk_on-returns-in_err-first-in-More-clause-kept g t c = c.walk_on-in-More.ensures.kept

pub walk_on-returns-in_err-enter_all-in-More-clause-kept : goal.walk_on-returns-in_err-enter_all-in-More-clause-kept
walk_on-returns-in_err-enter_all-in-More-clause-kept g t c = c.walk_on-in-More.ensures.kept

pub walk_on-returns-in_err-explore-in-More-clause-kept : goal.walk_on-returns-in_err-explore-in-More-clause-kept
walk_on-returns-in_err-explore-in-More-clause-kept g t c = λ look h. c.explore.ensures.kept look (c.walk_on-in-More.ensures.kept look h)

pub walk_on-returns-in_ok-explore-in-More-clause-kept : goal.walk_on-returns-in_ok-explore-in-More-clause-kept
walk_on-returns-in_ok-explore-in-More-clause-kept g t c = λ look h. c.explore.ensures.kept look (c.walk_on-in-More.ensures.kept look h)
