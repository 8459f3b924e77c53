use Rattle.std.proofs.Common.{◌≡◌, ◌++◌, codes, string_bytes, take}
use Rattle.report_writer.specs.Report.{term_statements}
use Rattle.report_writer.proofs.lines.push_messages.Given as goal

-- the lines of the messages so far are written
abbrev pub invariant-loop-message : goal.invariant-loop-message
invariant-loop-message l = string_bytes l.out ≡ string_bytes l.fn.out ++ term_statements l.label (codes "sh:resultMessage") (take l.message-index l.messages)
