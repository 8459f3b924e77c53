use Rattle.term_dict.specs.Names.{IsNumberOf}
use Rattle.term_dict.proofs.Places.{none_weaker, not_named}
use Rattle.term_dict.proofs.table.TermTable.number_of.Goals as goal

pub returns : goal.returns
returns c = none_weaker c.number_from.result (λ n. IsNumberOf c.args.self.now c.args.term.now n) (not_named c.args.self.now c.args.term.now) c.number_from.ensures
