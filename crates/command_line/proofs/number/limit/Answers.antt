use Rattle.std.proofs.Common.{sym}
use Rattle.command_line.proofs.Numbers.{none_where_not_plain, none_where_unread, some_where_read}
use Rattle.command_line.proofs.number.limit.Goals as goal

pub returns-then-not-begins_plainly : goal.returns-then-not-begins_plainly
returns-then-not-begins_plainly c = sym (none_where_not_plain c.args.text.now (sym c.if-not-begins_plainly.ensures))

pub returns-in-Ok : goal.returns-in-Ok
returns-in-Ok c = sym (some_where_read c.args.text.now c.in-Ok.number (sym c.if-not-begins_plainly.ensures) c.in-Ok.ensures.value.0.0 c.in-Ok.ensures.value.0.1 c.if-number-le-MOST.true)

pub returns-in-Err : goal.returns-in-Err
returns-in-Err c = sym (none_where_unread c.args.text.now c.in-Err.ensures.value.0)
