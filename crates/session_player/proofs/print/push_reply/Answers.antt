use Rattle.std.proofs.Common.{string_bytes}
use Rattle.std.proofs.lemmas.Result.{on_ok_weaker}
use Rattle.session_player.proofs.Printing.{reply_written}
use Rattle.session_player.proofs.print.push_reply.Goals as goal

pub returns-in_default : goal.returns-in_default
returns-in_default c = on_ok_weaker c.write-in_default.result (reply_written c.args.reply.now (string_bytes c.args.out.now) (string_bytes c.write-in_default.new.self) c.in_default.not-Reported) c.write-in_default.ensures.bytes
