use Rattle.std.proofs.Common.{◌∙◌, suc, sym, ap}
use Rattle.std.proofs.lemmas.Result.{err_from_is_err_and}
use Rattle.turtle_reader.specs.Parsers.{and_then}
use Rattle.turtle_reader.specs.Grammar.{rdf_nil}
use Rattle.turtle_reader.specs.Stack.{all_closed}
use Rattle.turtle_reader.proofs.Machine.{refuses_same, round_end, round_next, at_levels, at_frames}
use Rattle.turtle_reader.proofs.objects.open_round.Goals as goal

pub returns-in_err-next-clause-goes : goal.returns-in_err-next-clause-goes
returns-in_err-next-clause-goes c = λ levels is. let p = err_from_is_err_and c.from_residual.result c.from_residual.ensures.1 in rw (p.1, p.2)
    (refuses_same _ _ _ _
    (round_end c.args.text.now levels c.args.brackets.now.frames c.args.state.now (sym c.is_close_parenthesis_next.ensures ∙ c.if-is_close_parenthesis_next.true))
    c.in_err-next.ensures.reads)

pub returns-then-is_close_parenthesis_next-clause-goes : goal.returns-then-is_close_parenthesis_next-clause-goes
returns-then-is_close_parenthesis_next-clause-goes c = λ levels is.
    round_end c.args.text.now levels c.args.brackets.now.frames c.args.state.now (sym c.is_close_parenthesis_next.ensures ∙ c.if-is_close_parenthesis_next.true)
    ∙ ap (λ o. and_then o (λ _. all_closed c.args.text.now (suc levels) c.args.brackets.now.frames rdf_nil)) c.in_ok-next.ensures.reads
    ∙ at_levels c.args.text.now (suc levels) c.args.brackets.now.levels c.args.brackets.now.frames rdf_nil c.next.new.state (sym is)
    ∙ ap (λ n. all_closed c.args.text.now c.args.brackets.now.levels c.args.brackets.now.frames n c.next.new.state) (sym c.in_ok-rdf_nil.ensures)

pub returns-clause-goes : goal.returns-clause-goes
returns-clause-goes c = λ levels is.
    round_next c.args.text.now levels c.args.brackets.now.frames c.fresh-node.result c.in_ok-last.last c.args.state.now c.fresh-node.new.state (sym c.is_close_parenthesis_next.ensures ∙ c.if-is_close_parenthesis_next.false) c.fresh-node.ensures.reads c.in_ok-last.ensures.cases
    ∙ at_frames c.args.text.now levels c.args.brackets.now.levels c.push.new.self.levels _ c.push.new.self.frames c.fresh-node.new.state is c.in_ok-push.ensures.levels c.in_ok-push.ensures.frames
