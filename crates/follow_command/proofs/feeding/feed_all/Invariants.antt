use Rattle.std.proofs.Common.{string_bytes, take}
use Rattle.follow_command.specs.Printing.{FeedsAll}
use Rattle.follow_command.proofs.feeding.feed_all.Given as goal

abbrev pub invariant-loop-number : goal.invariant-loop-number
invariant-loop-number l = FeedsAll l.records (take l.number-index l.numbers) l.follower (string_bytes l.text)
