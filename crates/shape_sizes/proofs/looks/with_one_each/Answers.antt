use Rattle.std.proofs.Common.{◌+◌, ◌∙◌, ℕ, ap}
use Rattle.reference_totals.specs.Totals.{capped}
use Rattle.shape_model.specs.Limits.{looks_limit}
use Rattle.shape_sizes.proofs.looks.with_one_each.Goals as goal

pub returns : goal.returns
returns c = c.capped_sum.ensures ∙ ap (λ (m : ℕ). capped m (c.args.sum + c.in_ok-count.count)) c.most_looks.ensures.limit ∙ ap (λ (k : ℕ). capped looks_limit (c.args.sum + k)) c.in_ok-count.ensures
