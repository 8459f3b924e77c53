use Rattle.std.proofs.Common.{◌≡◌, ◌↔◌, [], Ok, None, sym, subst}
use Rattle.std.specs.Prelude.{IfOk, IfSome, OnErr}
use Rattle.turtle_lex.specs.Tokens.{behind_blanks}
use Rattle.turtle_lex.specs.Productions.{IsNextToken, HasNoToken}
use Rattle.turtle_lex.proofs.TokenLaws.{next_is_longest, fault_has_no_token, none_is_left}
use Rattle.turtle_lex.proofs.lexer.next_token.Goals as goal

pub returns-clause-token : goal.returns-clause-token
returns-clause-token c = subst (λ r. IfOk r (λ o. IfSome o (IsNextToken c.args.after_string c.args.characters.now))) (sym c.find_token.ensures.value) (next_is_longest c.args.after_string c.args.characters.now c.args.place.at)

pub returns-clause-none : goal.returns-clause-none
returns-clause-none c = subst (λ r. (r ≡ Ok None) ↔ (behind_blanks c.args.characters.now c.args.place.at ≡ [])) (sym c.find_token.ensures.value) (none_is_left c.args.after_string c.args.characters.now c.args.place.at)

pub returns-clause-fault : goal.returns-clause-fault
returns-clause-fault c = subst (λ r. OnErr r (HasNoToken c.args.after_string (behind_blanks c.args.characters.now c.args.place.at))) (sym c.find_token.ensures.value) (fault_has_no_token c.args.after_string c.args.characters.now c.args.place.at)
