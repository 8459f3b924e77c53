use Rattle.ntriples_text.proofs.Numbers.{placed}
use Rattle.ntriples_text.proofs.statement.Node.numbered.Goals as goal

pub returns-in_ok-place-in-Labelled-clause-term : goal.returns-in_ok-place-in-Labelled-clause-term
returns-in_ok-place-in-Labelled-clause-term c = placed _ _ _ c.args.numbering.now.labels c.place.new.self c.in-Labelled.label c.args.self c.in-Labelled.is c.in_ok-place-in-Labelled.ensures.place c.in_ok-place-in-Labelled.ensures.labels
