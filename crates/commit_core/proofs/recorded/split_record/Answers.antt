use Rattle.std.proofs.Common.{◌∙◌, ℕ, ap, drop, take}
use Rattle.commit_core.proofs.RecordedTriples.{parted}
use Rattle.commit_core.proofs.recorded.split_record.Goals as goal

pub returns : goal.returns
returns c =
    let ids = c.args.ids.now in
    let behind = c.split_at.result.1.now in
    let more = c.split_at-2.result.1.now in
    parted c.args.entry.now ids c.split_at.result.0.now behind c.split_at-2.result.0.now more c.split_at-3.result.1.now (c.split_at.ensures.front ∙ ap (λ (n : ℕ). take n ids) c.len.ensures) (c.split_at.ensures.back ∙ ap (λ (n : ℕ). drop n ids) c.len.ensures)
    (c.split_at-2.ensures.front ∙ ap (λ (n : ℕ). take n behind) c.len-2.ensures) (c.split_at-2.ensures.back ∙ ap (λ (n : ℕ). drop n behind) c.len-2.ensures) (c.split_at-3.ensures.back ∙ ap (λ (n : ℕ). drop n more) c.count_staged.ensures)
