-- What a page's parts mean.
use Rattle.std.specs.Prelude.{◌<◌, ◌≤◌, length}
use Rattle.std.specs.Arc.{arc_value}
use Rattle.std.specs.declared.cmp.Ordering.{Ordering}
use Rattle.collections.specs.Ordered.{IsAscending}
use Rattle.page_tree.specs.Blocks.{Image, Block, leaf_image, inner_image, height_of, AreSound, most}
use Rattle.page_tree.specs.declared.page.Node.{Node}
use Rattle.page_tree.specs.declared.page.Node.TheVariants.{Leaf, Inner}
use Rattle.page_tree.specs.declared.page.Entry.TheInside.{Inside}

abbrev pub image_of : {K : Type 0} → Node K → Image K
image_of (Leaf ks) = leaf_image ks.items
image_of (Inner es) = inner_image es.items

-- the keys of a page ascend; what stands right in it is not too much, and pages below it are there and sound
abbrev pub IsPage : {K : Type 0} → (K → K → Ordering) → Node K → Type 0
IsPage R (Leaf ks) = (length ks.items ≤ most) × IsAscending R ks.items
IsPage R (Inner es) = (length es.items ≤ most) × (0 < length es.items) × AreSound R (height_of es.items) es.items

abbrev pub block_of : {K : Type 0} → Inside K → Block K
block_of e = record { low = e.low; page = arc_value e.page }
