use Rattle.std.proofs.Common.{◌+◌, List, length, subst, sym, refl, ◌/◌, arith}
use Rattle.page_tree.specs.Blocks.{AreSound, AreBelow, keys_of, height_of, Block}
use Rattle.page_tree.proofs.Sides.{sound-take, sound-drop, pair-keys, part-height, below-take, below-drop, parted-two}
use Rattle.page_tree.proofs.parts.inner_pair.Goals as goal

pub inner_entry-requires-2-clause-sound : goal.inner_entry-requires-2-clause-sound
inner_entry-requires-2-clause-sound g c = subst (λ (bs : List (Block g.row.K.Denot)). AreSound g.K.Ord.cmp (height_of bs) bs) (sym c.split_at.ensures.front) (sound-take g.K.Ord.cmp (height_of c.args.entries.now) (length c.args.entries.now / 2) c.args.entries.now c.requires.sound)

pub inner_entry-requires-3-clause-sound : goal.inner_entry-requires-3-clause-sound
inner_entry-requires-3-clause-sound g c = subst (λ (bs : List (Block g.row.K.Denot)). AreSound g.K.Ord.cmp (height_of bs) bs) (sym c.split_at.ensures.back) (sound-drop g.K.Ord.cmp (height_of c.args.entries.now) (length c.args.entries.now / 2) c.args.entries.now c.requires.sound)

pub returns : goal.returns
returns g c =
    let h = height_of c.args.entries.now in
    let keys = pair-keys (length c.args.entries.now / 2) c.args.entries.now c.split_at.result.0.now c.split_at.result.1.now c.in_ok-inner_entry-2.field-0.page.keys c.in_ok-inner_entry-3.field-0.page.keys c.split_at.ensures.front c.split_at.ensures.back c.in_ok-inner_entry-2.ensures.keys c.in_ok-inner_entry-3.ensures.keys in
    let front = subst (λ (bs : List (Block g.row.K.Denot)). AreBelow h bs) (sym c.split_at.ensures.front) (below-take h (length c.args.entries.now / 2) c.args.entries.now c.requires.sound.below) in
    let back = subst (λ (bs : List (Block g.row.K.Denot)). AreBelow h bs) (sym c.split_at.ensures.back) (below-drop h (length c.args.entries.now / 2) c.args.entries.now c.requires.sound.below) in
    let m = c.split_at.ensures.front_len in
    let n = c.split_at.ensures.back_len in
    let w = c.in_ok-inner_entry-2.ensures.width in
    let v = c.in_ok-inner_entry-3.ensures.width in
    let size = c.requires.size in
    let full = c.if-entries-lt-MOST.false in
    parted-two g.K.Ord.cmp (h + 1) (keys_of c.args.entries.now) c.requires.sound.ascending c.in_ok-inner_entry-2.field-0 c.in_ok-inner_entry-3.field-0 keys
    (part-height h c.args.entries.now c.split_at.result.0.now c.in_ok-inner_entry-2.field-0 front (omega arith) refl c.in_ok-inner_entry-2.ensures.below)
    (part-height h c.args.entries.now c.split_at.result.1.now c.in_ok-inner_entry-3.field-0 back (omega arith) refl c.in_ok-inner_entry-3.ensures.below)
    (omega arith, omega arith) (omega arith, omega arith)
