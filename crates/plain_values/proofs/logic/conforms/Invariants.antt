use Rattle.std.proofs.Common.{◌≡◌, take}
use Rattle.std.specs.List.{Contains}
use Rattle.plain_values.specs.declared.site.ToldRow.{ToldRow}
use Rattle.plain_values.proofs.logic.conforms.Given as goal

abbrev pub invariant-loop-entry : goal.invariant-loop-entry
invariant-loop-entry l = (t : ToldRow) → Contains (take l.entry-index l.told) t → (t.shape ≡ l.shape) × (t.node ≡ l.node) → ⊥
