use Rattle.std.proofs.Common.{◌≡◌, ◌∙◌, ℕ, ◌-◌, suc, ap, arith}
use Rattle.turtle_reader.specs.Stack.{bracket_first}
use Rattle.turtle_reader.proofs.Machine.{goes_by, bracket_suc}
use Rattle.turtle_reader.proofs.objects.open_bracket.Goals as goal

pub returns-in-OpenBracket-clause-goes : goal.returns-in-OpenBracket-clause-goes
returns-in-OpenBracket-clause-goes c =
    let l : ℕ = c.args.brackets.now.levels - 1 in
    let is : c.args.brackets.now.levels ≡ suc l = omega arith in
    goes_by c.open_square.result _ _ _ (bracket_suc c.args.text.now c.args.brackets.now.levels l c.args.token.kind c.args.token c.args.brackets.now.frames c.args.state.now is ∙ ap (λ k. bracket_first k c.args.text.now l c.args.brackets.now.frames c.args.state.now) c.in-OpenBracket.is) (c.open_square.ensures.goes l is)
