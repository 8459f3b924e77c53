use Rattle.std.proofs.Common.{sym, ap, ◌∙◌, subst}
use Rattle.session_transaction.specs.Transactions.{plain_in}
use Rattle.session_player.specs.Players.{Player}
use Rattle.session_player.specs.Ready.{Performs}
use Rattle.session_player.proofs.player.play_command.Goals as goal

pub returns-clause-first : goal.returns-clause-first
returns-clause-first g c = record {
  command = c.in-Some.command;
  commands = sym (ap (λ (x : Player). x.commands) c.player.view_is) ∙ c.in-Some.ensures.items;
  performs = subst (λ (x : Player). Performs c.args.session c.args.core.now c.perform.new.core x.current (plain_in c.in_ok-player-inside.field-0) c.in-Some.command x.replies c.perform.new.replies) c.player.view_is (rw c.take-current.ensures.value at c.in_ok-player-inside.ensures);
}
