use Rattle.std.proofs.Common.{◌∙◌, ◌<◌, length, ap, sym, arith}
use Rattle.std.specs.Prelude.{Some}
use Rattle.page_tree.specs.Blocks.{Block, height_of}
use Rattle.page_tree.proofs.Reached.{first-low}
use Rattle.page_tree.proofs.reading.low_at.Goals as goal

pub returns : goal.returns
returns g c =
    let n = c.requires.within in let m = c.if-at-entries.false in
    let lt : c.args.at < length c.args.entries.now = omega arith in
    first-low (height_of c.args.entries.now) c.args.entries.now c.args.at c.index-entries-at.result c.requires.sound.below lt c.index-entries-at.is ∙ ap (λ (b : Block g.row.K.Denot). Some b.low) (sym c.entry.view_is)
