use Rattle.std.proofs.Common.{◌≡◌, ◌∙◌, List, ap, sym, subst}
use Rattle.kept_rows.specs.declared.kept_row.KeptRow.{KeptRow}
use Rattle.kept_rows.specs.Kept.{Merges}
use Rattle.kept_rows.specs.Merging.{with_checked, without_checked}
use Rattle.kept_rows.proofs.Merged.{merged}
use Rattle.kept_rows.proofs.kept_rows.KeptRows.merge.Goals as goal

pub returns-clause-ok : goal.returns-clause-ok
returns-clause-ok c =
    let pairs = c.args.checked.now in
    let old = c.args.self.now in
    let left = c.in_ok-take_all_out.ensures ∙ ap (λ (ks : List KeptRow). without_checked pairs ks) (c.in_ok-next.ensures ∙ c.self.view_is) in
    let new : c.put_all_in.new.rows ≡ with_checked pairs (without_checked pairs old) = c.in_ok-put_all_in.ensures ∙ ap (λ (ks : List KeptRow). with_checked pairs ks) left in
    subst (λ (ks : List KeptRow). Merges old pairs ks) (sym new) (merged pairs old)
