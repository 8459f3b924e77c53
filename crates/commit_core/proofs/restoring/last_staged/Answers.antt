use Rattle.std.proofs.Common.{◌∙◌, List, ap, sym}
use Rattle.std.proofs.lemmas.List.{drop_all}
use Rattle.record_text.specs.declared.record.Record.{Record}
use Rattle.commit_core.specs.RestoredParts.{shapes_after, staged_in}
use Rattle.commit_core.proofs.RestoredParts.{last_is_staged}
use Rattle.commit_core.proofs.restoring.last_staged.Goals as goal

pub returns : goal.returns
returns c =
    last_is_staged c.args.records.now c.loop-entry.last
    (sym (ap (λ (rs : List Record). shapes_after (staged_in c.loop-entry.last) rs) (drop_all c.loop-entry.entry-index c.args.records.now c.loop-entry-test.false)) ∙ c.loop-entry.invariant)
