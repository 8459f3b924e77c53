use Rattle.std.proofs.Common.{◌≡◌, ◌∙◌, ◌++◌, ℕ, List, ap, arith, refl, take, take-append-drop}
use Rattle.threaded_listing.specs.Shares.{nodes_of_shares}
use Rattle.threaded_listing.proofs.Gathering.{one_share_more}
use Rattle.threaded_listing.proofs.nodes.shares_of.Goals as goal

pub loop-rest-init : goal.loop-rest-init
loop-rest-init g c = record {
  nodes = ap (λ ss. nodes_of_shares ss ++ c.args.nodes.now) c.new-shares.ensures.items;
  steps = refl;
}

pub loop-rest-preserved : goal.loop-rest-preserved
loop-rest-preserved g c =
    let front = c.split_at.result.0.now in
    let back = c.split_at.result.1.now in
    let rest = c.loop-rest.rest.now in
    let n = c.share_len.result in
    let whole : front ++ back ≡ rest = ap (λ (ns : List ℕ). ns ++ back) c.split_at.ensures.front ∙ (ap (λ (ns : List ℕ). take n rest ++ ns) c.split_at.ensures.back ∙ take-append-drop n rest) in
    record {
      nodes = one_share_more c.loop-rest.shares.items c.push.new.self.items (record { visits = c.in_ok-visits.visits }) front back rest c.args.nodes.now c.in_ok-push.ensures.items c.in_ok-visits.ensures.nodes whole c.loop-rest.invariant.nodes;
      steps = let before = c.loop-rest.invariant.steps in let taken = c.in_ok-visits.ensures.steps in omega (arith, before, taken, c.split_at.ensures.front_len, c.split_at.ensures.back_len);
    }
