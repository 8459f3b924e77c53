use Rattle.std.proofs.Common.{◌∙◌, ◌≤◌, length, ap, arith}
use Rattle.page_tree.specs.Blocks.{Image}
use Rattle.page_index.proofs.Built.{higher}
use Rattle.page_index.proofs.levels.root_over.Goals as goal

pub over-requires : goal.over-requires
over-requires g c =
    let few : length c.loop-alloc.level.items ≤ 32 = (let f = c.loop-alloc-test.false in let n = c.len.ensures in omega arith) in
    record { sound = c.loop-alloc.invariant.sound; size = (c.loop-alloc.invariant.some, few) }

pub returns : goal.returns
returns g c = ap (λ (d : Image g.row.K.Denot). d.keys) c.in_ok-new.ensures.ok ∙ ap (λ (d : Image g.row.K.Denot). d.keys) c.over.ensures ∙ c.loop-alloc.invariant.keys

pub loop-alloc-preserved : goal.loop-alloc-preserved
loop-alloc-preserved g c =
    let h = higher g.K.Ord.cmp c.deref.result.now c.loop-alloc.level.items c.in_ok-level.level.items c.args.entries.items c.deref.ensures.value c.in_ok-level.ensures c.loop-alloc.invariant.sound c.loop-alloc.invariant.keys in
    record { sound = h.sound; some = h.some; keys = h.keys }

pub loop-alloc-smaller : goal.loop-alloc-smaller
loop-alloc-smaller g c =
    let h = higher g.K.Ord.cmp c.deref.result.now c.loop-alloc.level.items c.in_ok-level.level.items c.args.entries.items c.deref.ensures.value c.in_ok-level.ensures c.loop-alloc.invariant.sound c.loop-alloc.invariant.keys in
    h.less
