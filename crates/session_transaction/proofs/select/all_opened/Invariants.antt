use Rattle.std.proofs.Common.{◌≡◌, map, take}
use Rattle.bgp_query.specs.TermBindings.{opened}
use Rattle.session_transaction.proofs.select.all_opened.Given as goal

abbrev pub invariant-loop-pattern : goal.invariant-loop-pattern
invariant-loop-pattern l = l.asked.items ≡ map opened (take l.pattern-index l.patterns)
