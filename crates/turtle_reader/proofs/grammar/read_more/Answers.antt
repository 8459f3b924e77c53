use Rattle.std.proofs.Common.{◌∙◌, sym}
use Rattle.turtle_reader.proofs.Statements.{gives_by, more_end, more_next}
use Rattle.turtle_reader.proofs.grammar.read_more.Goals as goal

pub returns-then-is_dot_next-clause-reads : goal.returns-then-is_dot_next-clause-reads
returns-then-is_dot_next-clause-reads c = more_end c.args.text.now c.args.levels c.args.node.now c.args.state.now (sym c.is_dot_next.ensures ∙ c.if-is_dot_next.true)

pub returns-clause-reads : goal.returns-clause-reads
returns-clause-reads c = gives_by c.read_predicates.result _ _ _ (more_next c.args.text.now c.args.levels c.args.node.now c.args.state.now (sym c.is_dot_next.ensures ∙ c.if-is_dot_next.false)) c.read_predicates.ensures.reads
