use Rattle.std.proofs.Common.{◌∙◌, Some, sym, ap, arith}
use Rattle.std.proofs.lemmas.Result.{err_from_is_err_and}
use Rattle.turtle_reader.specs.Grammar.{object}
use Rattle.turtle_reader.specs.Parsers.{and_then}
use Rattle.turtle_reader.specs.Stack.{properties_from}
use Rattle.turtle_reader.proofs.Machine.{refuses_same, verbs_more, verbs_end, verbs_skip, verbs_verb}
use Rattle.turtle_reader.proofs.objects.next_verb.Goals as goal

pub returns-in_err-next-clause-goes : goal.returns-in_err-next-clause-goes
returns-in_err-next-clause-goes c = λ levels node. let p = err_from_is_err_and c.from_residual.result c.from_residual.ensures.1 in rw (p.1, p.2)
    (refuses_same _ _ _ _ (c.loop-state.invariant.same levels node ∙ verbs_more c.args.text.now levels node c.loop-state.state (sym c.is_semicolon_next.ensures ∙ c.loop-state-test.true)) c.in_err-next.ensures.reads)

pub returns-in_err-read_verb-clause-goes : goal.returns-in_err-read_verb-clause-goes
returns-in_err-read_verb-clause-goes c = λ levels node. let p = err_from_is_err_and c.from_residual-in_err-read_verb.result c.from_residual-in_err-read_verb.ensures.1 in rw (p.1, p.2)
    (refuses_same _ _ _ _ (c.loop-state.invariant.same levels node ∙ verbs_verb c.args.text.now levels node c.loop-state.state c.next.new.state c.in_ok-next.field-0 (sym c.is_semicolon_next.ensures ∙ c.loop-state-test.true) c.in_ok-next.ensures.reads (sym c.may_verb_begin.ensures ∙ c.if-may_verb_begin.true)) c.in_err-read_verb.ensures.reads)

pub returns-then-may_verb_begin-clause-goes : goal.returns-then-may_verb_begin-clause-goes
returns-then-may_verb_begin-clause-goes c = λ levels node.
    c.loop-state.invariant.same levels node
    ∙ verbs_verb c.args.text.now levels node c.loop-state.state c.next.new.state c.in_ok-next.field-0 (sym c.is_semicolon_next.ensures ∙ c.loop-state-test.true) c.in_ok-next.ensures.reads (sym c.may_verb_begin.ensures ∙ c.if-may_verb_begin.true)
    ∙ ap (λ o. and_then o (λ p. properties_from c.args.text.now (object c.args.text.now levels) node (Some p))) c.in_ok-read_verb.ensures.reads

pub loop-state-preserved : goal.loop-state-preserved
loop-state-preserved c = record {
  same = λ levels node. c.loop-state.invariant.same levels node
      ∙ verbs_skip c.args.text.now levels node c.loop-state.state c.next.new.state c.in_ok-next.field-0 (sym c.is_semicolon_next.ensures ∙ c.loop-state-test.true) c.in_ok-next.ensures.reads (sym c.may_verb_begin.ensures ∙ c.if-may_verb_begin.false);
  moved = record { ready = c.in_ok-next.ensures.moved.ready; left = omega (arith, c.in_ok-next.ensures.moved, c.loop-state.invariant.moved); need = omega (arith, c.in_ok-next.ensures.moved, c.loop-state.invariant.moved) };
}

pub returns-clause-goes : goal.returns-clause-goes
returns-clause-goes c = λ levels node. c.loop-state.invariant.same levels node ∙ verbs_end c.args.text.now levels node c.loop-state.state (sym c.is_semicolon_next.ensures ∙ c.loop-state-test.false)
