use Rattle.std.proofs.Common.{length, ◌-◌, sym, arith}
use Rattle.std.proofs.lemmas.Option.{slice_get_within}
use Rattle.growing_list.specs.Chunks.{full_block}
use Rattle.growing_list.proofs.Filled.{all_full}
use Rattle.growing_list.proofs.blocks.block_with_room.Goals as goal

pub returns : goal.returns
returns g c =
    let w = slice_get_within c.args.blocks.now (length c.args.blocks.now - 1) c.in_ok-last.last.now (sym c.in_ok-last.ensures.value) in
    all_full full_block c.args.blocks.now (length c.args.blocks.now - 1) c.in_ok-last.last.now c.requires (omega arith) c.in_ok-last.ensures.value (λ h. let f = c.if-len-lt-FULL_BLOCK.false in let e = c.len.ensures in omega arith)
