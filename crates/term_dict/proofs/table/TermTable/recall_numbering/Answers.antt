use Rattle.std.proofs.Common.{List, subst}
use Rattle.rdf_model.specs.declared.term.Term.{Term}
use Rattle.rdf_model.specs.Numbers.{IsNumbering}
use Rattle.term_dict.proofs.table.TermTable.recall_numbering.Goals as goal

pub returns : goal.returns
returns c = subst (λ (ts : List Term). IsNumbering ts) c.self.view_is c.self.invariant.apart
