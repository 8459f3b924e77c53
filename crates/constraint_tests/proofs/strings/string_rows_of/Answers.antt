use Rattle.std.proofs.Common.{◌<◌, ℕ, length, subst, sym}
use Rattle.std.specs.List.{Contains}
use Rattle.component_rows.specs.Sites.{Spot}
use Rattle.constraint_tests.proofs.strings.string_rows_of.Goals as goal

pub string_rows-requires : goal.string_rows-requires
string_rows-requires c =
    subst (λ (s : Spot). (n : ℕ) → Contains c.others.result.now n → n < length s.terms) (sym c.site_of.ensures) c.others.ensures.named
