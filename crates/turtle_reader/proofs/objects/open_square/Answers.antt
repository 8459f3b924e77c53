use Rattle.std.proofs.Common.{◌∙◌, suc, None, ◌∷◌, sym, ap}
use Rattle.std.proofs.lemmas.Result.{err_from_is_err_and}
use Rattle.turtle_reader.specs.Parsers.{and_then}
use Rattle.turtle_reader.specs.Stack.{all_closed, remaining}
use Rattle.turtle_reader.specs.declared.frame.Frame.TheVariants.{Properties}
use Rattle.turtle_reader.proofs.Machine.{refuses_same, square_end, square_next, at_levels, at_frames}
use Rattle.turtle_reader.proofs.objects.open_square.Goals as goal

pub returns-in_err-next-clause-goes : goal.returns-in_err-next-clause-goes
returns-in_err-next-clause-goes c = λ levels is. let p = err_from_is_err_and c.from_residual.result c.from_residual.ensures.1 in rw (p.1, p.2)
    (refuses_same _ _ _ _
    (square_end c.args.text.now levels c.args.brackets.now.frames c.fresh-node.result c.args.state.now c.fresh-node.new.state c.fresh-node.ensures.reads (sym c.is_close_bracket_next.ensures ∙ c.if-is_close_bracket_next.true))
    c.in_err-next.ensures.reads)

pub returns-then-is_close_bracket_next-clause-goes : goal.returns-then-is_close_bracket_next-clause-goes
returns-then-is_close_bracket_next-clause-goes c = λ levels is.
    square_end c.args.text.now levels c.args.brackets.now.frames c.fresh-node.result c.args.state.now c.fresh-node.new.state c.fresh-node.ensures.reads (sym c.is_close_bracket_next.ensures ∙ c.if-is_close_bracket_next.true)
    ∙ ap (λ o. and_then o (λ _. all_closed c.args.text.now (suc levels) c.args.brackets.now.frames c.fresh-node.result)) c.in_ok-next.ensures.reads
    ∙ at_levels c.args.text.now (suc levels) c.args.brackets.now.levels c.args.brackets.now.frames c.fresh-node.result c.next.new.state (sym is)

pub returns-in_err-predicate-clause-goes : goal.returns-in_err-predicate-clause-goes
returns-in_err-predicate-clause-goes c = λ levels is. let p = err_from_is_err_and c.from_residual-in_err-predicate.result c.from_residual-in_err-predicate.ensures.1 in rw (p.1, p.2)
    (refuses_same _ _ _ _
    (square_next c.args.text.now levels c.args.brackets.now.frames c.fresh-node.result c.args.state.now c.fresh-node.new.state c.fresh-node.ensures.reads (sym c.is_close_bracket_next.ensures ∙ c.if-is_close_bracket_next.false))
    c.in_err-predicate.ensures.reads)

pub returns-clause-goes : goal.returns-clause-goes
returns-clause-goes c = λ levels is.
    square_next c.args.text.now levels c.args.brackets.now.frames c.fresh-node.result c.args.state.now c.fresh-node.new.state c.fresh-node.ensures.reads (sym c.is_close_bracket_next.ensures ∙ c.if-is_close_bracket_next.false)
    ∙ ap (λ o. and_then o (λ p. remaining c.args.text.now levels (Properties c.fresh-node.result p ∷ c.args.brackets.now.frames) None)) c.in_ok-predicate.ensures.reads
    ∙ at_frames c.args.text.now levels c.args.brackets.now.levels c.push.new.self.levels _ c.push.new.self.frames c.read_verb.new.state is c.in_ok-push.ensures.levels c.in_ok-push.ensures.frames
