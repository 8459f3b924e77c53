use Rattle.std.proofs.Common.{◌∙◌, List, ◌∷◌, [], ◌++◌, refl, sym, ap, subst, append_assoc}
use Rattle.std.proofs.lemmas.Result.{err_from_is_err_and}
use Rattle.session_reader.specs.declared.read_command.ReadCommand.{ReadCommand}
use Rattle.session_reader.specs.Asked.{AsksFirst}
use Rattle.session_reader.proofs.Asks.{each_push, stopped_after, stopped_in}
use Rattle.session_reader.proofs.Checks.{checked-push, commands_grow, grows_on}
use Rattle.session_reader.proofs.checking.check_commands.Goals as goal

pub loop-command-init : goal.loop-command-init
loop-command-init g c = rw c.new-commands.ensures (record { checked = refl; asked = refl; left = c.into_iter-command-iterator.ensures.into_iter_gives.0 ∙ c.into_vec-command-items.ensures })

pub returns-in_err-check_command-clause-refused : goal.returns-in_err-check_command-clause-refused
returns-in_err-check_command-clause-refused g c = grows_on _ _ _ (commands_grow _ _ _ _ c.loop-command.invariant.checked) c.check_command.ensures.refused

pub returns-in_err-check_command-clause-asked : goal.returns-in_err-check_command-clause-asked
returns-in_err-check_command-clause-asked g c =
    let p = err_from_is_err_and c.from_residual.result c.from_residual.ensures.1 in
    let rest = c.next.new.self.rest.items in
    let all = ap (λ (rs : List ReadCommand). c.loop-command.yielded ++ rs) (sym c.in-Some.ensures.steps.0) ∙ c.loop-command.invariant.left in
    let h = c.in_err-check_command.ensures.asked in
    rw p.1 (subst (λ (rs : List ReadCommand). AsksFirst rs (g.M.Maker.refused c.args.maker.now) (g.M.Maker.refused c.check_command.new.maker) (g.M.Maker.asked c.args.maker.now) (g.M.Maker.asked c.check_command.new.maker)) all
    (stopped_in c.loop-command.yielded c.loop-command.commands c.in-Some.command rest _ _ _ _ _ _ c.loop-command.invariant.checked c.loop-command.invariant.asked h.0 h.1))

pub loop-command-preserved : goal.loop-command-preserved
loop-command-preserved g c = rw c.in_ok-push.ensures.ok (record {
  checked = checked-push _ _ _ _ _ _ _ c.loop-command.invariant.checked c.in_ok-check_command.ensures.command;
  asked = each_push _ _ _ _ _ _ _ c.loop-command.invariant.asked c.in_ok-check_command.ensures.asked;
  left = append_assoc c.loop-command.yielded (c.in-Some.command ∷ []) c.next.new.self.rest.items
      ∙ (ap (λ (rs : List ReadCommand). c.loop-command.yielded ++ rs) (sym c.in-Some.ensures.steps.0) ∙ c.loop-command.invariant.left);
})

pub returns-in_err-push-clause-refused : goal.returns-in_err-push-clause-refused
returns-in_err-push-clause-refused g c = grows_on _ _ _ (commands_grow _ _ _ _ c.loop-command.invariant.checked) c.check_command.ensures.refused

pub returns-in_err-push-clause-asked : goal.returns-in_err-push-clause-asked
returns-in_err-push-clause-asked g c =
    let p = err_from_is_err_and c.from_residual-in_err-push.result c.from_residual-in_err-push.ensures.1 in
    let rest = c.next.new.self.rest.items in
    let all = append_assoc c.loop-command.yielded (c.in-Some.command ∷ []) rest
    ∙ (ap (λ (rs : List ReadCommand). c.loop-command.yielded ++ rs) (sym c.in-Some.ensures.steps.0) ∙ c.loop-command.invariant.left) in
    let checked = checked-push _ _ _ _ _ _ _ c.loop-command.invariant.checked c.in_ok-check_command.ensures.command in
    let asked = each_push _ _ _ _ _ _ _ c.loop-command.invariant.asked c.in_ok-check_command.ensures.asked in
    rw p.1 (subst (λ (rs : List ReadCommand). AsksFirst rs (g.M.Maker.refused c.args.maker.now) (g.M.Maker.refused c.check_command.new.maker) (g.M.Maker.asked c.args.maker.now) (g.M.Maker.asked c.check_command.new.maker)) all
    (stopped_after _ _ rest _ _ _ _ checked asked))

pub returns-clause-refused : goal.returns-clause-refused
returns-clause-refused g c = commands_grow _ _ _ _ c.loop-command.invariant.checked
