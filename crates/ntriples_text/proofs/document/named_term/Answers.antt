use Rattle.std.proofs.Common.{sym}
use Rattle.ntriples_text.proofs.Characters.{alone_text, alone_no_text}
use Rattle.ntriples_text.proofs.document.named_term.Goals as goal

pub returns-in-Err : goal.returns-in-Err
returns-in-Err c = sym (alone_no_text c.args.bytes.now c.in-Err.ensures.cases.0)

pub returns-in-Ok : goal.returns-in-Ok
returns-in-Ok c = alone_text c.args.bytes.now c.in-Ok.text.now c.read_term.result c.in-Ok.ensures.cases.1 c.in-Ok.ensures.cases.0 c.read_term.ensures
