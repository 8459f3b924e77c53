use Rattle.std.proofs.Common.{ap, ◌∙◌}
use Rattle.std.proofs.Math.ListN.{set}
use Rattle.page_tree.proofs.Edits.{put_one, put_both}
use Rattle.page_tree.proofs.place.put_for_one.Goals as goal
use Rattle.page_tree.proofs.place.put_for_one.Goals.{in-Some+in_ok-insert-in-Some, in-None}

pub returns-clause-ok : goal.returns-clause-ok
returns-clause-ok g c = elim c.match-second.branch [
  | in-Some+in_ok-insert-in-Some w ↦ ap (λ v. set v.items c.args.at c.args.pair.0) w.entries-is ∙ ap (λ l. set l c.args.at c.args.pair.0) w.in_ok-insert-in-Some.ensures.items ∙ put_both c.args.entries.now.items c.args.at c.args.pair w.in-Some.second w.in-Some.is c.requires
  | in-None w ↦ ap (λ v. set v.items c.args.at c.args.pair.0) w.entries-is ∙ put_one c.args.entries.now.items c.args.at c.args.pair w.in-None.is c.requires
]
