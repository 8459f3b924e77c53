-- Each page below another is lower.
use Rattle.std.specs.Prelude.{ℕ, ◌+◌, ◌≤◌, List, [], ◌∷◌, max}
use Rattle.std.proofs.Common.{arith}
use denote.Param.Weighed.{most}
use Rattle.std.specs.declared.cmp.Ordering.{Ordering}
use Rattle.std.specs.declared.cmp.Ord as ord
use Rattle.std.specs.declared.cmp.PartialEq as partial_eq
use Rattle.std.specs.declared.cmp.PartialOrd as partial_ord
use Rattle.page_tree.specs.declared.page.Node.{Node}
use Rattle.page_tree.specs.declared.page.Node.TheVariants.{Leaf, Inner}
use Rattle.page_tree.specs.declared.page.Entry.TheDeep.{deep-Node}
use Rattle.page_tree.specs.Blocks.{Block, AreBelow, height_of}
use Rattle.page_tree.specs.Pages.{IsPage, image_of}

-- no page below is as high as the one that holds them
most_falls : {K : Type 0} (h : ℕ) (bs : List (Block K)) → AreBelow h bs → most (λ b. b.page.height + b.page.height + 1 + 1) bs ≤ h + h
most_falls h [] a = omega arith
most_falls h (b ∷ bs) a = let ih = most_falls h bs a.1 in let e = a.0.level in omega arith

pub page_falls : {K : Type 0} (o : ord.Ghosts K) (e : partial_eq.Ghosts K) (p : partial_ord.Ghosts K) (R : K → K → Ordering) (node : Node K) → IsPage R node → max (deep-Node K o e p node) 0 ≤ (image_of node).height + (image_of node).height
page_falls o e p R (Leaf ks) h = omega arith
page_falls o e p R (Inner es) h = let m = most_falls (height_of es.items) es.items h.2.below in omega arith
