use Rattle.std.proofs.Common.{◌≡◌, ◌++◌}
use Rattle.page_index.proofs.pages.Pages.keys.Given as goal

abbrev pub invariant-loop-key : goal.invariant-loop-key
invariant-loop-key g l = l.keys.items ++ l.key-iterator ≡ l.self
