use Rattle.term_joins.proofs.Selecting.{none_selected}
use Rattle.term_joins.proofs.select.select_terms.Goals as goal

pub returns-in-None-clause-rows : goal.returns-in-None-clause-rows
returns-in-None-clause-rows g c =
    none_selected (g.N.Names.terms c.args.names.now) (g.R.Triples.triples c.args.set.now) c.requires.numbered c.args.patterns.now (rw c.in-None.is at c.in_ok-numbered_patterns.ensures) c.new.result.items c.new.ensures.items
