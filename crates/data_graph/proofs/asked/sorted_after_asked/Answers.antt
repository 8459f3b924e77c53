use Rattle.data_graph.specs.Finding.{changes_asked}
use Rattle.data_graph.proofs.Laid.{sorted_laid}
use Rattle.data_graph.proofs.asked.sorted_after_asked.Goals as goal

pub returns : goal.returns
returns c =
    let last = c.in_ok-last.last in
    sorted_laid (changes_asked c.args.pattern.now c.args.net.now) last.added.keys last.removed.keys c.args.triples.items c.in_ok-laid.laid.items c.in_ok-sorted_once.field-0.items c.in_ok-last.ensures c.in_ok-laid.ensures c.in_ok-sorted_once.ensures
