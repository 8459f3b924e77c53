use Rattle.record_text.proofs.OneSplit.{behind_mark, marked_first, not_marked}
use Rattle.record_text.proofs.lines.marked_line.Goals as goal

pub returns-in-Some : goal.returns-in-Some
returns-in-Some c =
    let is = behind_mark c.args.mark.now c.args.text.now c.in-Some.behind.now c.in-Some.ensures.cases.0 c.in-Some.ensures.cases.1 in
    marked_first c.args.mark.now c.args.text.now c.in-Some.behind.now c.first_line.result is c.first_line.ensures

pub returns-in-None : goal.returns-in-None
returns-in-None c = not_marked c.args.mark.now c.args.text.now c.in-None.ensures.cases
