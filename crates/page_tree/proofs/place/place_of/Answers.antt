use Rattle.std.proofs.Common.{rules, subst, sym}
use Rattle.std.proofs.lemmas.List.Sorted.{IsPartitionPoint-from_clause}
use Rattle.std.specs.Ordering.{is_ge}
use Rattle.page_tree.specs.Blocks.{IsPlace, height_of}
use Rattle.page_tree.proofs.Places.{lows-partitioned, placed}
use Rattle.page_tree.proofs.place.place_of.Goals as goal

pub returns : goal.returns
returns g c =
    let h = height_of c.args.entries.now in
    let point = IsPartitionPoint-from_clause (λ b. is_ge (g.K.Ord.cmp c.args.key.now b.low)) c.args.entries.now c.partition_point-after.result c.partition_point-after.ensures.partitioned (lows-partitioned g.K.Ord.cmp g.met.K.Ord.total c.args.key.now h c.args.entries.now c.requires.sound.ascending c.requires.sound.below) (λ a r f k. search rules) in
    subst (λ n. IsPlace g.K.Ord.cmp c.args.key.now c.args.entries.now n) (sym c.saturating_sub.ensures) (placed g.K.Ord.cmp g.met.K.Ord.total c.args.key.now h c.args.entries.now c.requires.sound.ascending c.requires.sound.below c.requires.some c.partition_point-after.result c.partition_point-after.ensures.bound point)
