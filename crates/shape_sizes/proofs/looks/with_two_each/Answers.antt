use Rattle.std.proofs.Common.{◌+◌, ◌*◌, ◌∙◌, ℕ, ap}
use Rattle.reference_totals.specs.Totals.{capped}
use Rattle.shape_model.specs.Limits.{looks_limit}
use Rattle.shape_sizes.proofs.LookWeights.{two_each}
use Rattle.shape_sizes.proofs.looks.with_two_each.Goals as goal

pub returns : goal.returns
returns c =
    let once = c.capped_sum-once.ensures ∙ ap (λ (m : ℕ). capped m (c.args.sum + c.in_ok-count.count)) c.most_looks.ensures.limit in
    let twice = c.capped_sum.ensures ∙ ap (λ (m : ℕ). capped m (c.capped_sum-once.result + c.in_ok-count.count)) c.most_looks-2.ensures.limit in
    two_each looks_limit c.args.sum c.in_ok-count.count c.capped_sum-once.result c.capped_sum.result once twice ∙ ap (λ (k : ℕ). capped looks_limit (c.args.sum + 2 * k)) c.in_ok-count.ensures
