use Rattle.std.proofs.Common.{◌∙◌, suc, refl, sym, ap}
use Rattle.std.proofs.lemmas.Result.{err_from_is_err_and}
use Rattle.turtle_reader.specs.Parsers.{and_then}
use Rattle.turtle_reader.specs.Stack.{all_closed}
use Rattle.turtle_reader.proofs.Machine.{refuses_same, found_as, member_end, member_next, at_levels, at_frames}
use Rattle.turtle_reader.proofs.objects.after_member.Goals as goal

pub returns-in_err-close_list-clause-goes : goal.returns-in_err-close_list-clause-goes
returns-in_err-close_list-clause-goes c = λ levels is. let p = err_from_is_err_and c.from_residual-in_err-close_list.result c.from_residual-in_err-close_list.ensures.1 in rw (p.1, p.2)
    (refuses_same _ _ _ _
    (member_end c.args.text.now levels c.args.brackets.now.frames c.args.first c.args.last c.args.term c.args.state.now c.found.new.state
    (found_as c.args.last _ _ _ c.args.term _ c.args.state.now _ refl c.in_ok-rdf_first.ensures refl c.in_ok-found.ensures.reads)
    (sym c.is_close_parenthesis_next.ensures ∙ c.if-is_close_parenthesis_next.true))
    c.in_err-close_list.ensures.reads)

pub returns-then-is_close_parenthesis_next-clause-goes : goal.returns-then-is_close_parenthesis_next-clause-goes
returns-then-is_close_parenthesis_next-clause-goes c = λ levels is.
    member_end c.args.text.now levels c.args.brackets.now.frames c.args.first c.args.last c.args.term c.args.state.now c.found.new.state
    (found_as c.args.last _ _ _ c.args.term _ c.args.state.now _ refl c.in_ok-rdf_first.ensures refl c.in_ok-found.ensures.reads)
    (sym c.is_close_parenthesis_next.ensures ∙ c.if-is_close_parenthesis_next.true)
    ∙ ap (λ o. and_then o (λ _. all_closed c.args.text.now (suc levels) c.args.brackets.now.frames c.args.first)) c.in_ok-close_list.ensures.reads
    ∙ at_levels c.args.text.now (suc levels) c.args.brackets.now.levels c.args.brackets.now.frames c.args.first c.close_list.new.state (sym is)

pub returns-clause-goes : goal.returns-clause-goes
returns-clause-goes c = λ levels is.
    member_next c.args.text.now levels c.args.brackets.now.frames c.args.first c.args.last c.args.term c.in_ok-node.node c.args.state.now c.found.new.state c.next_node.new.state
    (found_as c.args.last _ _ _ c.args.term _ c.args.state.now _ refl c.in_ok-rdf_first.ensures refl c.in_ok-found.ensures.reads)
    (sym c.is_close_parenthesis_next.ensures ∙ c.if-is_close_parenthesis_next.false)
    c.in_ok-node.ensures.reads
    ∙ at_frames c.args.text.now levels c.args.brackets.now.levels c.push.new.self.levels _ c.push.new.self.frames c.next_node.new.state is c.in_ok-push.ensures.levels c.in_ok-push.ensures.frames
