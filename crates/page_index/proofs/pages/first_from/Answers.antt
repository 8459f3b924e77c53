use Rattle.std.proofs.Common.{rules}
use Rattle.std.proofs.lemmas.Fn.{always_returns_same}
use Rattle.page_index.proofs.Ranges.{from-rising}
use Rattle.page_index.proofs.pages.first_from.Goals as goal

pub returns : goal.returns
returns g c = c.seek.ensures (λ k. g.K.Ord.cmp k c.args.from.now) (always_returns_same _ _ _ (λ a r f k. search rules)) (from-rising g.K.Ord.cmp g.met.K.Ord.total c.args.from.now c.args.pages.now c.recall_ascending.ensures)
