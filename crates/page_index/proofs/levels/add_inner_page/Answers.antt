use Rattle.std.proofs.Common.{◌+◌, length, arith}
use Rattle.page_tree.specs.Blocks.{keys_of, height_of}
use Rattle.page_index.proofs.Built.{adds_one}
use Rattle.page_index.proofs.levels.add_inner_page.Goals as goal

pub returns : goal.returns
returns g c = adds_one (height_of c.args.entries.now + 1) (length c.args.entries.now) (keys_of c.args.entries.now) c.args.into.now.items c.push.new.self.items c.in_ok-inner_entry.field-0 c.in_ok-push.ensures.items c.in_ok-inner_entry.ensures.keys c.in_ok-inner_entry.ensures.below (let m = c.requires.size.0 in omega arith)
