use Rattle.std.proofs.Common.{◌∙◌, ◌+◌, ◌<◌, ◌≤◌, List, ℕ, ap, subst, arith}
use Rattle.std.specs.Prelude.{IfOk, IfSome}
use Rattle.turtle_lex.specs.Places.{HasSpan}
use Rattle.turtle_lex.specs.Productions.{IsNextToken}
use Rattle.turtle_lex.specs.Tokens.{next_token}
use Rattle.turtle_reader.specs.Parsers.{left, left_behind}
use Rattle.turtle_reader.specs.Progress.{unread, weight}
use Rattle.turtle_reader.proofs.Places.{next_passed, next_ready, passed_unread}
use Rattle.turtle_reader.proofs.tokens.pass.Goals as goal

pub returns-clause-moved : goal.returns-clause-moved
returns-clause-moved c =
    let is = c.next_token-state.ensures.value ∙ ap (λ text. next_token text c.args.token.end.at c.is_string.result) c.characters.ensures.same in
    let span = subst (λ (text : List ℕ). IfOk c.next_token-state.result (λ o. IfSome o (HasSpan text))) c.characters.ensures.same c.next_token-state.ensures.span in
    let token = subst (λ (text : List ℕ). IfOk c.next_token-state.result (λ o. IfSome o (IsNextToken c.is_string.result text))) c.characters.ensures.same c.next_token-state.ensures.token in
    let less : left_behind c.args.text.now c.next_token-state.result < left c.args.text.now c.args.state.now =
    next_passed c.args.text.now c.args.state.now c.args.token _ _ c.requires.ahead is in
    let fewer : unread c.args.text.now c.next_token-state.result + weight c.args.token.kind ≤ unread c.args.text.now c.args.state.now.ahead =
    passed_unread c.args.text.now c.args.state.now c.args.token _ _ c.requires.ahead c.requires.token is in
    record { ready = (next_ready _ c.args.text.now c.next_token-state.result span token, c.requires.ready.1); left = omega (arith, less); need = omega (arith, fewer) }
