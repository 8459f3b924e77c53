use Rattle.std.proofs.Common.{subst, sym, length, ◌≤◌}
use Rattle.page_tree.specs.Pages.{image_of, IsPage}
use Rattle.page_tree.specs.Blocks.{height_of}
use Rattle.page_tree.proofs.Sides.{width-le-keys}
use Rattle.page_tree.proofs.page.Page.+second.Goals as goal

pub returns-in-Some-clause-keys : goal.returns-in-Some-clause-keys
returns-in-Some-clause-keys g t c =
    let page = subst (λ n. IsPage g.K.Ord.cmp n) c.in-Inner.is c.self.invariant in
    subst (λ d. d.width ≤ length d.keys) c.self.view_is (subst (λ n. (image_of n).width ≤ length (image_of n).keys) (sym c.in-Inner.is) (width-le-keys (height_of c.in-Inner.entries.items) c.in-Inner.entries.items page.2.below))
