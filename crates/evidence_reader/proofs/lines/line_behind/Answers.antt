use Rattle.std.proofs.Common.{None}
use Rattle.std.proofs.lemmas.Bool.Decides.{Decides-eqb}
use Rattle.std.proofs.lemmas.Slice.Eq.{strip_prefix_is}
use Rattle.record_text.proofs.OneSplit.{behind_mark}
use Rattle.evidence_reader.proofs.Splits.{line_behind_mark, none_behind_mark}
use Rattle.evidence_reader.proofs.lines.line_behind.Goals as goal

pub returns-in-Some-clause-line : goal.returns-in-Some-clause-line
returns-in-Some-clause-line c =
    let is = behind_mark c.args.mark.now c.args.text.now c.in-Some.behind.now c.in-Some.ensures.cases.0 c.in-Some.ensures.cases.1 in
    line_behind_mark c.args.mark.now c.args.text.now c.in-Some.behind.now c.first_line.result is c.first_line.ensures.line

pub returns-in-None-clause-line : goal.returns-in-None-clause-line
returns-in-None-clause-line c = none_behind_mark c.args.mark.now c.args.text.now (strip_prefix_is Decides-eqb c.args.text.now c.args.mark.now None c.in-None.ensures.cases)
