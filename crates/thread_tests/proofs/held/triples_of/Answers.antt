use Rattle.record_text.proofs.StoredTerms.{gives_readable_graph}
use Rattle.thread_tests.proofs.held.triples_of.Goals as goal

pub returns : goal.returns
returns c = gives_readable_graph c.args.text.now c.in-Ok.triples c.in-Ok.ensures
