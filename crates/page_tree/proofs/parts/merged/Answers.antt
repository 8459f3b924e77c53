use Rattle.std.proofs.Common.{◌≡◌, ◌+◌, ◌++◌, ℕ, ap}
use Rattle.page_tree.specs.Blocks.{keys_of, height_of}
use Rattle.page_tree.proofs.Opened.{opened, joined-sound, joined-keys, joined-height}
use Rattle.page_tree.proofs.Sides.{parted-as}
use Rattle.page_tree.proofs.parts.merged.Goals as goal

pub inner_pair-requires-clause-sound : goal.inner_pair-requires-clause-sound
inner_pair-requires-clause-sound g c = joined-sound g.K.Ord.cmp c.args.left.now c.args.right.now c.in-Inner-Inner.first.items c.in-Inner-Inner.second.items c.deref-in-Inner-Inner-3.result.now
    (opened g.K.Ord.cmp c.left.inside.node c.in-Inner-Inner.first c.args.left.now c.left.invariant c.in-Inner-Inner.is-0 c.left.view_is)
    (opened g.K.Ord.cmp c.right.inside.node c.in-Inner-Inner.second c.args.right.now c.right.invariant c.in-Inner-Inner.is-1 c.right.view_is)
    (let v = c.deref-in-Inner-Inner-3.ensures.value in let j = c.in_ok-joined-in-Inner-Inner.ensures in let a = c.deref-in-Inner-Inner.ensures.value in let b = c.deref-in-Inner-Inner-2.ensures.value in cc (v, j, a, b)) c.requires.height c.requires.ascending

pub returns-in_ok-joined-in-Inner-Inner : goal.returns-in_ok-joined-in-Inner-Inner
returns-in_ok-joined-in-Inner-Inner g c =
    let first = opened g.K.Ord.cmp c.left.inside.node c.in-Inner-Inner.first c.args.left.now c.left.invariant c.in-Inner-Inner.is-0 c.left.view_is in
    let second = opened g.K.Ord.cmp c.right.inside.node c.in-Inner-Inner.second c.args.right.now c.right.invariant c.in-Inner-Inner.is-1 c.right.view_is in
    let is : c.deref-in-Inner-Inner-3.result.now ≡ c.in-Inner-Inner.first.items ++ c.in-Inner-Inner.second.items = let v = c.deref-in-Inner-Inner-3.ensures.value in let j = c.in_ok-joined-in-Inner-Inner.ensures in let a = c.deref-in-Inner-Inner.ensures.value in let b = c.deref-in-Inner-Inner-2.ensures.value in cc (v, j, a, b) in
    parted-as g.K.Ord.cmp (height_of c.deref-in-Inner-Inner-3.result.now + 1) (c.args.left.now.height + 1) (keys_of c.deref-in-Inner-Inner-3.result.now) (c.args.left.now.keys ++ c.args.right.now.keys) c.inner_pair.result
    (ap (λ (n : ℕ). n + 1) (joined-height c.args.left.now c.in-Inner-Inner.first.items c.in-Inner-Inner.second.items c.deref-in-Inner-Inner-3.result.now first is))
    (joined-keys g.K.Ord.cmp c.args.left.now c.args.right.now c.in-Inner-Inner.first.items c.in-Inner-Inner.second.items c.deref-in-Inner-Inner-3.result.now first second is) c.inner_pair.ensures
