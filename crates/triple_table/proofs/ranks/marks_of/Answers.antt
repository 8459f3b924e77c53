use Rattle.triple_table.proofs.Ranking.{get_or-other, marks_step}
use Rattle.triple_table.proofs.ranks.marks_of.Goals as goal

pub loop-triple-preserved : goal.loop-triple-preserved
loop-triple-preserved c =
    let r = marks_step c.args.terms.now c.args.triples.now c.loop-triple.triple-index _ c.loop-triple.marks.items c.loop-triple-test.true (get_or-other c.args.triples.now c.loop-triple.triple-index _ _ c.loop-triple-test.true) c.requires c.loop-triple.invariant.long c.loop-triple.invariant.marked in
    record { long = r.0; marked = r.1 }
