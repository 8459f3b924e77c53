use Rattle.std.proofs.Common.{length, arith}
use Rattle.page_index.proofs.Built.{adds_one}
use Rattle.page_index.proofs.levels.add_leaf.Goals as goal

pub returns : goal.returns
returns g c = adds_one 1 (length c.args.keys.now) c.args.keys.now c.args.into.now.items c.push.new.self.items c.in_ok-leaf_entry.field-0 c.in_ok-push.ensures.items c.in_ok-leaf_entry.ensures.keys c.in_ok-leaf_entry.ensures.below (let m = c.requires.size.0 in omega arith)
