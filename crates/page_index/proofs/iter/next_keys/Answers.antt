use Rattle.std.specs.Option.{option_map}
use Rattle.page_tree.proofs.Above.{run-then}
use Rattle.page_index.proofs.iter.next_keys.Goals as goal

pub returns : goal.returns
returns g c = run-then g.K.Ord.cmp g.met.K.Ord.total (option_map (λ key. key.now) c.args.above) c.args.pages.now c.in_ok-run.run'.now c.in_ok-first.first.now c.in_ok-last.last.now c.in_ok-first.rest.now c.in_ok-last.field-0-1.now c.run_above.ensures.ascending c.in_ok-run.ensures.run c.in_ok-first.ensures.cases.0 c.in_ok-last.ensures.cases.0
