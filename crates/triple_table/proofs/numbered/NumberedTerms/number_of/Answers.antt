use Rattle.triple_table.proofs.Found.{left_first}
use Rattle.triple_table.proofs.numbered.NumberedTerms.number_of.Goals as goal

pub loop-next-init : goal.loop-next-init
loop-next-init c = left_first c.args.self.now c.args.term.now c.args.hash c.newest_with-next.result c.requires c.newest_with-next.ensures
