use Rattle.session_reader.proofs.Items.{rest_left, single_rest}
use Rattle.session_reader.proofs.session_file.read_item.Goals as goal

pub returns-in-BeginCommand-clause-item : goal.returns-in-BeginCommand-clause-item
returns-in-BeginCommand-clause-item c = λ more. rw c.in-BeginCommand.is (c.push_command.ensures.item (more c.args.next.now))

pub returns-in-BeginCommand-clause-rest : goal.returns-in-BeginCommand-clause-rest
returns-in-BeginCommand-clause-rest c = single_rest c.push_command.result c.args.after.now c.push_command.ensures.none

pub returns-in-CommitCommand-clause-item : goal.returns-in-CommitCommand-clause-item
returns-in-CommitCommand-clause-item c = λ more. rw c.in-CommitCommand.is (c.push_command-in-CommitCommand.ensures.item (more c.args.next.now))

pub returns-in-CommitCommand-clause-rest : goal.returns-in-CommitCommand-clause-rest
returns-in-CommitCommand-clause-rest c = single_rest c.push_command-in-CommitCommand.result c.args.after.now c.push_command-in-CommitCommand.ensures.none

pub returns-in-ReportCommand-clause-item : goal.returns-in-ReportCommand-clause-item
returns-in-ReportCommand-clause-item c = λ more. rw c.in-ReportCommand.is (c.push_command-in-ReportCommand.ensures.item (more c.args.next.now))

pub returns-in-ReportCommand-clause-rest : goal.returns-in-ReportCommand-clause-rest
returns-in-ReportCommand-clause-rest c = single_rest c.push_command-in-ReportCommand.result c.args.after.now c.push_command-in-ReportCommand.ensures.none

pub returns-in-AbortCommand-clause-item : goal.returns-in-AbortCommand-clause-item
returns-in-AbortCommand-clause-item c = λ more. rw c.in-AbortCommand.is (c.push_command-in-AbortCommand.ensures.item (more c.args.next.now))

pub returns-in-AbortCommand-clause-rest : goal.returns-in-AbortCommand-clause-rest
returns-in-AbortCommand-clause-rest c = single_rest c.push_command-in-AbortCommand.result c.args.after.now c.push_command-in-AbortCommand.ensures.none

pub returns-in-FindCommand-clause-item : goal.returns-in-FindCommand-clause-item
returns-in-FindCommand-clause-item c = λ more. rw c.in-FindCommand.is (c.push_command-in-FindCommand.ensures.item (more c.args.next.now))

pub returns-in-FindCommand-clause-rest : goal.returns-in-FindCommand-clause-rest
returns-in-FindCommand-clause-rest c = single_rest c.push_command-in-FindCommand.result c.args.after.now c.push_command-in-FindCommand.ensures.none

pub returns-in-SelectBlock-clause-item : goal.returns-in-SelectBlock-clause-item
returns-in-SelectBlock-clause-item c = λ more. rw c.in-SelectBlock.is (c.read_select_item.ensures.item c.args.session c.args.next.now more)

pub returns-in-SelectBlock-clause-next : goal.returns-in-SelectBlock-clause-next
returns-in-SelectBlock-clause-next c = rest_left c.read_select_item.result c.args.next.now c.args.after.now c.read_select_item.new.after c.read_select_item.ensures.rest
