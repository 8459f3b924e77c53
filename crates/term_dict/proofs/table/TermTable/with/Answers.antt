use Rattle.term_dict.proofs.Growing.{with_old_term, with_new_term, last_number}
use Rattle.term_dict.proofs.table.TermTable.with.Goals as goal

pub returns-in-Some-clause-table : goal.returns-in-Some-clause-table
returns-in-Some-clause-table c = with_old_term c.args.term.now c.args.self c.in-Some.number c.in-Some.ensures

pub returns-in_ok-with_new-in-None-clause-table : goal.returns-in_ok-with_new-in-None-clause-table
returns-in_ok-with_new-in-None-clause-table c = with_new_term c.args.term.now c.args.self c.in_ok-with_new-in-None.field-0 c.in-None.ensures c.in_ok-with_new-in-None.ensures

pub returns-in_ok-with_new-in-None-clause-number : goal.returns-in_ok-with_new-in-None-clause-number
returns-in_ok-with_new-in-None-clause-number c = last_number c.args.term.now c.args.self c.in_ok-with_new-in-None.field-0 c.len-number.result c.len-number.ensures c.in_ok-with_new-in-None.ensures
