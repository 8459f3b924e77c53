use Rattle.std.proofs.Common.{◌≡◌, ◌∙◌, List, subst, sym}
use Rattle.std.specs.Prelude.{◌↔◌}
use Rattle.std.specs.List.{Contains}
use Rattle.collections.specs.Ordered.{IsAscending}
use Rattle.kept_rows.specs.declared.kept_row.KeptRow.{KeptRow}
use Rattle.kept_rows.specs.Kept.{kept_cmp}
use Rattle.kept_rows.proofs.kept_rows.KeptRows.from_rows.Goals as goal

pub from_sorted-requires : goal.from_sorted-requires
from_sorted-requires c = subst (λ (ks : List KeptRow). IsAscending kept_cmp ks) (sym c.deref.ensures.value) c.in_ok-sorted.ensures.ascending

pub returns : goal.returns
returns c =
    let same : c.in_ok-pages.pages ≡ c.in_ok-sorted.sorted.items = c.in_ok-pages.ensures ∙ c.deref.ensures.value in
    λ k. subst (λ (ks : List KeptRow). Contains ks k ↔ Contains c.args.rows.items k) (sym same) (c.in_ok-sorted.ensures.members k)
