use Rattle.std.proofs.Common.{◌≡◌, ◌∙◌, ◌<◌, ◌+◌, ℕ, List, length, ap, sym, subst, arith}
use Rattle.page_tree.specs.Blocks.{Block, Image, IsPlace, height_of, AreBelow, pair_blocks, width_at, most}
use Rattle.page_tree.proofs.Swaps.{IsSwapped, one_swapped, one-length, width-get}
use Rattle.page_tree.proofs.insertion.room_for.Given as given
use Rattle.page_tree.proofs.insertion.room_for.Goals as goal
use Rattle.page_tree.proofs.insertion.room_for.Goals.{In_ok-put_for_one}

pub returns-then-width-lt-MOST-clause-place : goal.returns-then-width-lt-MOST-clause-place
returns-then-width-lt-MOST-clause-place g c =
    let within = subst (λ (bs : List (Block g.row.K.Denot)). c.place_of-at.result < length bs) c.deref.ensures.value c.place_of-at.ensures.within in
    let page : c.deref-2.result.now ≡ c.index-entry.result.now.page = c.deref-2.ensures ∙ ap (λ (b : Block g.row.K.Denot). b.page) c.entry.view_is in
    let wide : width_at c.args.entries.now.items c.place_of-at.result ≡ c.width.result = width-get c.args.entries.now.items c.place_of-at.result c.index-entry.result.now within ∙ ap (λ (b : Block g.row.K.Denot). b.page.width) (sym c.index-entry.ensures) ∙ ap (λ (d : Image g.row.K.Denot). d.width) (sym page) ∙ sym c.width.ensures.value in
    let place = subst (λ (bs : List (Block g.row.K.Denot)). IsPlace g.K.Ord.cmp c.args.key.now bs c.place_of-at.result) c.deref.ensures.value c.place_of-at.ensures in
    (place, subst (λ (n : ℕ). n < most) (sym wide) c.if-width-lt-MOST.true)

swapped : (g : given.Over) (c : In_ok-put_for_one g) → IsSwapped g.K.Ord.cmp c.args.key.now (height_of c.args.entries.now.items) c.args.entries.now.items c.put_for_one.new.entries.items (c.place_of-at.result + c.side_of-side.result)
swapped g c =
    let page : c.deref-3.result.now ≡ c.index-entry.result.now.page = c.deref-3.ensures ∙ ap (λ (b : Block g.row.K.Denot). b.page) c.entry.view_is in
    one_swapped g.K.Ord.cmp g.met.K.Ord.total c.args.key.now (height_of c.args.entries.now.items) c.args.entries.now.items c.requires.sound c.in_ok-pair.pair c.in_ok-pair.ensures.roomy c.side_of-side.result c.side_of-side.ensures c.put_for_one.new.entries.items c.place_of-at.result c.index-entry.result.now
    (subst (λ (bs : List (Block g.row.K.Denot)). IsPlace g.K.Ord.cmp c.args.key.now bs c.place_of-at.result) c.deref.ensures.value c.place_of-at.ensures) c.index-entry.ensures (c.in_ok-pair.ensures.keys_are ∙ ap (λ (d : Image g.row.K.Denot). d.keys) page) (subst (λ (d : Image g.row.K.Denot). AreBelow (d.height + 1) (pair_blocks c.in_ok-pair.pair)) page c.in_ok-pair.ensures.sound.below) c.in_ok-put_for_one.ensures.ok

pub returns-clause-kept : goal.returns-clause-kept
returns-clause-kept g c =
    let s = swapped g c in
    let within = subst (λ (bs : List (Block g.row.K.Denot)). c.place_of-at.result < length bs) c.deref.ensures.value c.place_of-at.ensures.within in
    let l = one-length c.args.entries.now.items c.place_of-at.result c.in_ok-pair.pair c.put_for_one.new.entries.items within c.in_ok-put_for_one.ensures.ok in
    let m = c.requires.size.1 in
    record { keys = s.keys; sound = s.sound; many = omega arith; few = omega arith }

pub returns-clause-place : goal.returns-clause-place
returns-clause-place g c = let s = swapped g c in (s.place, s.room)
