use Rattle.std.proofs.Common.{◌∙◌, Some, sym, ap}
use Rattle.std.proofs.lemmas.Result.{err_from_is_err_and}
use Rattle.turtle_reader.specs.Grammar.{object}
use Rattle.turtle_reader.specs.Parsers.{and_then}
use Rattle.turtle_reader.specs.Stack.{properties_from}
use Rattle.turtle_reader.proofs.Machine.{refuses_same, goes_by, comma_more, comma_none}
use Rattle.turtle_reader.proofs.objects.next_predicate.Goals as goal

pub returns-in_err-next-clause-goes : goal.returns-in_err-next-clause-goes
returns-in_err-next-clause-goes c = λ levels node. let p = err_from_is_err_and c.from_residual.result c.from_residual.ensures.1 in rw (p.1, p.2)
    (refuses_same _ _ _ _ (comma_more c.args.text.now levels node c.args.predicate c.args.state.now (sym c.is_comma_next.ensures ∙ c.if-is_comma_next.true)) c.in_err-next.ensures.reads)

pub returns-then-is_comma_next-clause-goes : goal.returns-then-is_comma_next-clause-goes
returns-then-is_comma_next-clause-goes c = λ levels node.
    comma_more c.args.text.now levels node c.args.predicate c.args.state.now (sym c.is_comma_next.ensures ∙ c.if-is_comma_next.true)
    ∙ ap (λ o. and_then o (λ _. properties_from c.args.text.now (object c.args.text.now levels) node (Some c.args.predicate))) c.in_ok-next.ensures.reads

pub returns-clause-goes : goal.returns-clause-goes
returns-clause-goes c = λ levels node.
    goes_by c.next_verb.result _ _ _ (comma_none c.args.text.now levels node c.args.predicate c.args.state.now (sym c.is_comma_next.ensures ∙ c.if-is_comma_next.false)) (c.next_verb.ensures.goes levels node)
