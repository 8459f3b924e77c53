use Rattle.std.proofs.Common.{◌≡◌, ◌∙◌, None, length, replicate, refl, ap, sym, rules}
use Rattle.std.proofs.lemmas.List.{length-replicate}
use Rattle.numbered_lists.proofs.Meetings.{get_or-other, none_met, numbered_at, triples_step}
use Rattle.numbered_lists.proofs.ordered.in_order.Goals as goal

pub loop-triple-init : goal.loop-triple-init
loop-triple-init c =
    let long : c.len-2.result ≡ length c.args.terms.items = search rules in
    let each : c.in_ok-vec.field-0.items ≡ replicate (length c.args.terms.items) None = c.in_ok-vec.ensures.items_if_clones_equal (search rules) ∙ ap (λ n. replicate n None) long in
    record {
      numbered = search rules;
      graph = search rules;
      left = refl;
      long = ap length each ∙ length-replicate (length c.args.terms.items) None;
      met = none_met c.args.terms.items c.in_ok-with_capacity.field-0.items c.in_ok-vec.field-0.items each;
    }

pub meet_all-requires-clause-within : goal.meet_all-requires-clause-within
meet_all-requires-clause-within c = numbered_at c.args.terms.items _ c.args.triples.now c.loop-triple.triple-index _ c.requires c.loop-triple.invariant.left c.loop-triple-test.true

pub meet_all-requires-clause-long : goal.meet_all-requires-clause-long
meet_all-requires-clause-long c = c.loop-triple.invariant.long ∙ sym c.loop-triple.invariant.left

pub loop-triple-preserved : goal.loop-triple-preserved
loop-triple-preserved c =
    let loop = c.loop-triple in
    let all = c.args.terms.items in
    let r = triples_step all loop.meeting.met.items c.meet_all.new.self.met.items c.args.triples.now loop.found.items c.push.new.self.items loop.triple-index _ c.in_ok-meet_all.field-0 c.loop-triple-test.true
    (get_or-other c.args.triples.now loop.triple-index _ _ c.loop-triple-test.true) c.in_ok-meet_all.ensures.grown loop.invariant.numbered loop.invariant.graph (c.in_ok-meet_all.ensures.ids all loop.invariant.met) c.in_ok-push.ensures.items in
    record {
      numbered = r.0;
      graph = r.1;
      left = c.in_ok-meet_all.ensures.long.0 ∙ loop.invariant.left;
      long = c.in_ok-meet_all.ensures.long.1 ∙ loop.invariant.long;
      met = c.in_ok-meet_all.ensures.met all loop.invariant.met;
    }
