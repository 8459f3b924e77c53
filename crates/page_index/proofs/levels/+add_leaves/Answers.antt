use Rattle.std.proofs.Common.{length, ◌/◌, arith}
use Rattle.std.proofs.lemmas.Result.{on_ok_weaker}
use Rattle.page_index.proofs.Built.{adds_leaves, front_ascending, back_ascending}
use Rattle.page_index.proofs.levels.+add_leaves.Goals as goal

pub add_leaves-requires : goal.add_leaves-requires
add_leaves-requires g t c κs within =
    let few = c.if-keys-le-MOST.false in let n = c.split_at.ensures.front_len in
    (omega (arith, c.decreases, few, n), (within, (front_ascending g.K.Ord.cmp (length c.args.keys.now / 2) c.args.keys.now c.split_at.result.0.now c.split_at.ensures.front c.requires.ascending, omega arith)))

pub add_leaves-requires-2 : goal.add_leaves-requires-2
add_leaves-requires-2 g t c κs within =
    let few = c.if-keys-le-MOST.false in let n = c.split_at.ensures.back_len in
    (omega (arith, c.decreases, few, n), (within, (back_ascending g.K.Ord.cmp (length c.args.keys.now / 2) c.args.keys.now c.split_at.result.1.now c.split_at.ensures.back c.requires.ascending, omega arith)))

pub returns : goal.returns
returns g t c = on_ok_weaker c.add_leaves-2.result (λ more. adds_leaves (length c.args.keys.now / 2) c.args.keys.now c.split_at.result.0.now c.split_at.result.1.now c.args.into.now.items c.add_leaves.new.into.items c.add_leaves-2.new.into.items c.split_at.ensures.front c.split_at.ensures.back c.in_ok-add_leaves.ensures more) c.add_leaves-2.ensures
