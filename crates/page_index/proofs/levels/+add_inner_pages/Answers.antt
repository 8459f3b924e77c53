use Rattle.std.proofs.Common.{◌<◌, length, ◌/◌, arith}
use Rattle.std.proofs.lemmas.Result.{on_ok_weaker}
use Rattle.page_index.proofs.Built.{adds_inner, front_sound, back_sound}
use Rattle.page_index.proofs.levels.+add_inner_pages.Goals as goal

pub add_inner_pages-requires : goal.add_inner_pages-requires
add_inner_pages-requires g t c κs within =
    let few = c.if-entries-le-MOST.false in let n = c.split_at.ensures.front_len in
    (omega (arith, c.decreases, few, n), (within, (front_sound g.K.Ord.cmp (length c.args.entries.now / 2) c.args.entries.now c.split_at.result.0.now c.split_at.ensures.front c.requires.sound, omega arith)))

pub add_inner_pages-requires-2 : goal.add_inner_pages-requires-2
add_inner_pages-requires-2 g t c κs within =
    let few = c.if-entries-le-MOST.false in let n = c.split_at.ensures.back_len in
    (omega (arith, c.decreases, few, n), (within, (back_sound g.K.Ord.cmp (length c.args.entries.now / 2) c.args.entries.now c.split_at.result.1.now c.split_at.ensures.back c.requires.sound, omega arith)))

pub returns : goal.returns
returns g t c =
    let few = c.if-entries-le-MOST.false in
    let some : 0 < length c.split_at.result.0.now = (let n = c.split_at.ensures.front_len in omega arith) in
    let more : 0 < length c.split_at.result.1.now = (let n = c.split_at.ensures.back_len in omega arith) in
    on_ok_weaker c.add_inner_pages-2.result (λ last. adds_inner (length c.args.entries.now / 2) c.args.entries.now c.split_at.result.0.now c.split_at.result.1.now c.args.into.now.items c.add_inner_pages.new.into.items c.add_inner_pages-2.new.into.items c.requires.sound.below some more c.split_at.ensures.front c.split_at.ensures.back c.in_ok-add_inner_pages.ensures last) c.add_inner_pages-2.ensures
