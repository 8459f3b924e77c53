use Rattle.std.proofs.Common.{ap, arith}
use Rattle.turtle_reader.proofs.Productions.{doc_rises}
use Rattle.turtle_reader.proofs.document.read_document.Goals as goal

pub returns-clause-room : goal.returns-clause-room
returns-clause-room c =
    let up = doc_rises c.args.text.now _ c.opening-state.result c.read_statements.new.state c.in_ok-read_statements.ensures.reads in
    let first = ap (λ s. s.next) c.opening-state.ensures.opening in
    (omega (arith, up, first), omega (arith, c.in_ok-read_statements.ensures.moved, c.opening-state.ensures.need))
