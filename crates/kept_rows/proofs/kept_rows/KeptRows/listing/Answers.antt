use Rattle.std.proofs.Common.{◌≡◌, ◌∙◌, ◌++◌, List, ap, append-nil, sym}
use Rattle.std.specs.Prelude.{map}
use Rattle.kept_rows.specs.declared.kept_row.KeptRow.{KeptRow}
use Rattle.kept_rows.proofs.Merged.{listed}
use Rattle.kept_rows.proofs.kept_rows.KeptRows.listing.Goals as goal

pub returns : goal.returns
returns c =
    let rows = c.loop-kept.rows.items in
    let all : rows ≡ map (λ (k : KeptRow). k.row) c.args.self.now =
    sym (append-nil rows) ∙ ap (λ (ks : List KeptRow). rows ++ map (λ (k : KeptRow). k.row) ks) (sym c.in-None.ensures.steps.0) ∙ c.loop-kept.invariant in
    listed c.args.self.now rows c.in_ok-sorted_once.field-0.items all c.in_ok-sorted_once.ensures
