use Rattle.std.proofs.Common.{◌<◌, ℕ, length, subst, sym}
use Rattle.std.specs.List.{Contains}
use Rattle.component_rows.specs.Sites.{Spot}
use Rattle.constraint_tests.proofs.shapes.asked_list.Goals as goal

pub list_by_name-requires-clause-members : goal.list_by_name-requires-clause-members
list_by_name-requires-clause-members c =
    subst (λ (s : Spot). (n : ℕ) → Contains c.others.result.now n → n < length s.terms) (sym c.site_of.ensures) c.others.ensures.named
