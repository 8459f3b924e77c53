use Rattle.std.proofs.Common.{◌∙◌, Ok, ap}
use Rattle.ntriples_text.specs.Grammar.{line}
use Rattle.ntriples_text.specs.Progress.{going_on}
use Rattle.ntriples_text.proofs.Numbers.{line_added}
use Rattle.ntriples_text.proofs.document.add_line.Goals as goal

pub returns-in-Ok-Some-clause-added : goal.returns-in-Ok-Some-clause-added
returns-in-Ok-Some-clause-added c = λ more.
    line_added c.add_statement.result c.args.number (line c.args.labels c.args.line.now) c.in-Ok-Some.statement more
    (going_on c.args.numbering.now.session c.args.numbering.now.first c.args.table.now c.args.numbering.now.labels) _
    (c.in-Ok-Some.ensures.statement ∙ ap Ok c.in-Ok-Some.field-0-is) (c.add_statement.ensures.added more)
