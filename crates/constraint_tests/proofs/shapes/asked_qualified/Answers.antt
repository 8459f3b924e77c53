use Rattle.std.proofs.Common.{◌<◌, ℕ, length, subst, sym}
use Rattle.std.specs.List.{Contains}
use Rattle.component_rows.specs.Sites.{Spot}
use Rattle.constraint_tests.proofs.shapes.asked_qualified.Goals as goal

pub qualified_by_name-requires-clause-siblings : goal.qualified_by_name-requires-clause-siblings
qualified_by_name-requires-clause-siblings c =
    subst (λ (s : Spot). (n : ℕ) → Contains c.args.siblings.now n → n < length s.terms) (sym c.site_of-site.ensures) c.requires.siblings
