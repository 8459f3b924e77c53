use Rattle.std.proofs.Common.{◌≡◌, ◌∙◌, ◌<◌, ◌≤◌, ◌++◌, ◌+◌, ℕ, List, length, ap, sym, subst, arith}
use Rattle.collections.specs.Ordered.{IsAscending}
use Rattle.page_tree.specs.Blocks.{Block, Image, IsPlace, height_of, AreBelow, pair_blocks, width_at, most, least}
use Rattle.page_tree.proofs.Swaps.{IsSwapped, two_swapped, neighbours, width-get, two-length}
use Rattle.page_tree.proofs.removal.spare_for.Given as given
use Rattle.page_tree.proofs.removal.spare_for.Goals as goal
use Rattle.page_tree.proofs.removal.spare_for.Goals.{After-deref-4, After-put_for_two}

pub returns-then-width-gt-LEAST-clause-place : goal.returns-then-width-gt-LEAST-clause-place
returns-then-width-gt-LEAST-clause-place g c =
    let within = subst (λ (bs : List (Block g.row.K.Denot)). c.place_of-at.result < length bs) c.deref.ensures.value c.place_of-at.ensures.within in
    let page : c.deref-2.result.now ≡ c.index-entry.result.now.page = c.deref-2.ensures ∙ ap (λ (b : Block g.row.K.Denot). b.page) c.entry.view_is in
    let wide : width_at c.args.entries.now.items c.place_of-at.result ≡ c.width.result = width-get c.args.entries.now.items c.place_of-at.result c.index-entry.result.now within ∙ ap (λ (b : Block g.row.K.Denot). b.page.width) (sym c.index-entry.ensures) ∙ ap (λ (d : Image g.row.K.Denot). d.width) (sym page) ∙ sym c.width.ensures.value in
    let place = subst (λ (bs : List (Block g.row.K.Denot)). IsPlace g.K.Ord.cmp c.args.key.now bs c.place_of-at.result) c.deref.ensures.value c.place_of-at.ensures in
    (place, subst (λ (n : ℕ). least < n) (sym wide) c.if-width-gt-LEAST.true)

left : (g : given.Over) (c : After-deref-4 g) → c.deref-3.result.now ≡ c.index.result.now.page
left g c = c.deref-3.ensures ∙ ap (λ (b : Block g.row.K.Denot). b.page) c.left.view_is

right : (g : given.Over) (c : After-deref-4 g) → c.deref-4.result.now ≡ c.index-2.result.now.page
right g c = c.deref-4.ensures ∙ ap (λ (b : Block g.row.K.Denot). b.page) c.right.view_is

few : (g : given.Over) (c : After-deref-4 g) → width_at c.args.entries.now.items c.place_of-at.result ≤ least
few g c =
    let within = subst (λ (bs : List (Block g.row.K.Denot)). c.place_of-at.result < length bs) c.deref.ensures.value c.place_of-at.ensures.within in
    let page : c.deref-2.result.now ≡ c.index-entry.result.now.page = c.deref-2.ensures ∙ ap (λ (b : Block g.row.K.Denot). b.page) c.entry.view_is in
    let wide : width_at c.args.entries.now.items c.place_of-at.result ≡ c.width.result = width-get c.args.entries.now.items c.place_of-at.result c.index-entry.result.now within ∙ ap (λ (b : Block g.row.K.Denot). b.page.width) (sym c.index-entry.ensures) ∙ ap (λ (d : Image g.row.K.Denot). d.width) (sym page) ∙ sym c.width.ensures.value in
    subst (λ (n : ℕ). n ≤ least) (sym wide) c.if-width-gt-LEAST.false

within : (g : given.Over) (c : After-deref-4 g) → c.left_of-first.result + 1 < length c.args.entries.now.items
within g c = let w = c.left_of-first.ensures.within in let l = c.len.ensures in omega arith

both : (g : given.Over) (c : After-deref-4 g) →
    IsAscending g.K.Ord.cmp (c.index.result.now.page.keys ++ c.index-2.result.now.page.keys) × (c.index.result.now.page.height ≡ c.index-2.result.now.page.height) × (least + least ≤ c.index.result.now.page.width + c.index-2.result.now.page.width) × (c.index.result.now.page.width + c.index-2.result.now.page.width ≤ most + least)
both g c = neighbours g.K.Ord.cmp g.met.K.Ord.total c.args.key.now (height_of c.args.entries.now.items) c.args.entries.now.items c.place_of-at.result c.left_of-first.result c.index.result.now c.index-2.result.now c.requires.sound (within g c) c.left_of-first.ensures.near c.index.ensures c.index-2.ensures (few g c)

pub merged-requires-clause-ascending : goal.merged-requires-clause-ascending
merged-requires-clause-ascending g c = subst (λ (ks : List g.row.K.Denot). IsAscending g.K.Ord.cmp ks) (let l = left g c in let r = right g c in cc (l, r)) (both g c).0

pub merged-requires-clause-height : goal.merged-requires-clause-height
merged-requires-clause-height g c = let b = (both g c).1 in let l = left g c in let r = right g c in cc (b, l, r)

pub merged-requires-clause-size : goal.merged-requires-clause-size
merged-requires-clause-size g c =
    let b = both g c in
    let l : c.deref-3.result.now.width ≡ c.index.result.now.page.width = ap (λ (d : Image g.row.K.Denot). d.width) (left g c) in
    let r : c.deref-4.result.now.width ≡ c.index-2.result.now.page.width = ap (λ (d : Image g.row.K.Denot). d.width) (right g c) in
    (omega (arith, b.2), omega (arith, b.3))

swapped : (g : given.Over) (c : After-put_for_two g) → IsSwapped g.K.Ord.cmp c.args.key.now (height_of c.args.entries.now.items) c.args.entries.now.items c.put_for_two.new.entries.items (c.left_of-first.result + c.side_of-side.result)
swapped g c =
    let l : c.deref-3.result.now ≡ c.index.result.now.page = c.deref-3.ensures ∙ ap (λ (b : Block g.row.K.Denot). b.page) c.left.view_is in
    let r : c.deref-4.result.now ≡ c.index-2.result.now.page = c.deref-4.ensures ∙ ap (λ (b : Block g.row.K.Denot). b.page) c.right.view_is in
    two_swapped g.K.Ord.cmp g.met.K.Ord.total c.args.key.now (height_of c.args.entries.now.items) c.args.entries.now.items c.requires.sound c.in_ok-pair.pair c.in_ok-pair.ensures.roomy c.side_of-side.result c.side_of-side.ensures c.put_for_two.new.entries.items c.place_of-at.result c.left_of-first.result c.index.result.now c.index-2.result.now
    (subst (λ (bs : List (Block g.row.K.Denot)). IsPlace g.K.Ord.cmp c.args.key.now bs c.place_of-at.result) c.deref.ensures.value c.place_of-at.ensures) c.left_of-first.ensures.near (let w = c.left_of-first.ensures.within in let n = c.len.ensures in omega arith) c.index.ensures c.index-2.ensures
    (let k = c.in_ok-pair.ensures.keys_are in cc (k, l, r)) (subst (λ (d : Image g.row.K.Denot). AreBelow (d.height + 1) (pair_blocks c.in_ok-pair.pair)) l c.in_ok-pair.ensures.sound.below) c.put_for_two.ensures

pub returns-clause-kept : goal.returns-clause-kept
returns-clause-kept g c =
    let s = swapped g c in
    let l = two-length c.args.entries.now.items c.left_of-first.result c.in_ok-pair.pair c.put_for_two.new.entries.items (let w = c.left_of-first.ensures.within in let n = c.len.ensures in omega arith) c.put_for_two.ensures in
    let m = c.requires.size.1 in
    record { keys = s.keys; sound = s.sound; many = l.0; few = omega arith }

pub returns-clause-place : goal.returns-clause-place
returns-clause-place g c = let s = swapped g c in (s.place, s.spare)
