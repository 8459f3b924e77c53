use Rattle.std.proofs.Common.{◌≡◌, ◌++◌}
use Rattle.page_tests.proofs.tests.pages.met.Given as goal

abbrev pub invariant-loop-key : goal.invariant-loop-key
invariant-loop-key l = l.met.items ++ l.key-iterator ≡ l.pages
