use Rattle.std.proofs.Common.{◌∙◌, List, ℕ, false, ap, subst, arith}
use Rattle.std.specs.Prelude.{IfOk, IfSome}
use Rattle.turtle_lex.specs.Places.{HasSpan}
use Rattle.turtle_lex.specs.Productions.{IsNextToken}
use Rattle.turtle_lex.specs.Tokens.{next_token}
use Rattle.turtle_reader.proofs.Places.{next_ready, first_unread}
use Rattle.turtle_reader.proofs.document.opening.Goals as goal

pub returns-clause-ready : goal.returns-clause-ready
returns-clause-ready c = (
  next_ready _ c.args.text.now c.next_token.result
      (subst (λ (text : List ℕ). IfOk c.next_token.result (λ o. IfSome o (HasSpan text))) c.characters.ensures.same c.next_token.ensures.span)
      (subst (λ (text : List ℕ). IfOk c.next_token.result (λ o. IfSome o (IsNextToken false text))) c.characters.ensures.same c.next_token.ensures.token),
  tt,
)

pub returns-clause-need : goal.returns-clause-need
returns-clause-need c = omega (arith, first_unread c.args.text.now c.next_token.result _ false (c.next_token.ensures.value ∙ ap (λ text. next_token text c.start.result.at false) c.characters.ensures.same))
