use Rattle.kept_rows.proofs.Merged.{merge_law}
use Rattle.kept_rows.proofs.laws.merge_law.Goals as goal

pub returns : goal.returns
returns c = merge_law
