use Rattle.std.proofs.Common.{◌∙◌}
use Rattle.session_model.specs.Sessions.{selected_by}
use Rattle.session_transaction.specs.Transactions.{plain}
use Rattle.session_transaction.proofs.Selecting.{too_many_selected}
use Rattle.session_player.proofs.Playing.{told_select}
use Rattle.session_player.proofs.find.answer_select.Goals as goal

pub returns-in-Err-TooMany-clause-reply : goal.returns-in-Err-TooMany-clause-reply
returns-in-Err-TooMany-clause-reply c =
    let many = rw c.in-Err-TooMany.field-0-is at c.in-Err-TooMany.ensures in
    too_many_selected (selected_by (plain c.args.transaction.now) c.args.patterns.now) many.0

pub returns-in-Ok-clause-reply : goal.returns-in-Ok-clause-reply
returns-in-Ok-clause-reply c =
    told_select c.reply_of_select.result c.deref.result.now (selected_by (plain c.args.transaction.now) c.args.patterns.now) (c.deref.ensures.value ∙ c.in-Ok.ensures.0.all) c.reply_of_select.ensures
