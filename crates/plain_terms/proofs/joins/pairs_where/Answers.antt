use Rattle.std.specs.List.{Contains}
use Rattle.plain_terms.proofs.FoundItems.{finds_at}
use Rattle.plain_terms.proofs.Made.{pairs_if}
use Rattle.plain_terms.proofs.joins.pairs_where.Goals as goal

pub returns-then-is_so : goal.returns-then-is_so
returns-then-is_so c = pairs_if c.args.pairs.now c.into_vec.result.items c.args.is_so c.if-is_so.true (finds_at (Contains c.args.pairs.now) c.in_ok-copy.copy c.into_vec.result.items c.into_vec.ensures c.in_ok-copy.ensures)
