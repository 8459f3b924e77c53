use Rattle.std.proofs.Common.{◌∙◌, sym, ap, arith}
use Rattle.std.proofs.lemmas.Result.{err_from_is_err_and}
use Rattle.turtle_reader.specs.Parsers.{and_then}
use Rattle.turtle_reader.specs.Grammar.{turtle_doc}
use Rattle.turtle_reader.proofs.Machine.{refuses_same}
use Rattle.turtle_reader.proofs.Statements.{doc_more, doc_end}
use Rattle.turtle_reader.proofs.grammar.read_statements.Goals as goal

pub loop-state-preserved : goal.loop-state-preserved
loop-state-preserved c = record {
  same = c.loop-state.invariant.same
      ∙ doc_more c.args.text.now c.args.levels c.loop-state.state (sym c.is_unfinished.ensures ∙ c.loop-state-test.true)
      ∙ ap (λ o. and_then o (λ _. turtle_doc c.args.text.now c.args.levels)) c.in_ok-read_statement.ensures.reads;
  moved = record { ready = c.in_ok-read_statement.ensures.moved.ready; left = omega (arith, c.in_ok-read_statement.ensures.moved, c.loop-state.invariant.moved); need = omega (arith, c.in_ok-read_statement.ensures.moved, c.loop-state.invariant.moved) };
}

pub returns-in_err-read_statement-clause-reads : goal.returns-in_err-read_statement-clause-reads
returns-in_err-read_statement-clause-reads c = let p = err_from_is_err_and c.from_residual.result c.from_residual.ensures.1 in rw (p.1, p.2)
    (refuses_same _ _ _ _ (c.loop-state.invariant.same ∙ doc_more c.args.text.now c.args.levels c.loop-state.state (sym c.is_unfinished.ensures ∙ c.loop-state-test.true)) c.in_err-read_statement.ensures.reads)

pub returns-clause-reads : goal.returns-clause-reads
returns-clause-reads c = c.loop-state.invariant.same ∙ doc_end c.args.text.now c.args.levels c.loop-state.state (sym c.is_unfinished.ensures ∙ c.loop-state-test.false)
