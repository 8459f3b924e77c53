use Rattle.page_tree.proofs.Edits.{put_over}
use Rattle.page_tree.proofs.place.put_for_two.Goals as goal

pub returns-in-Some : goal.returns-in-Some
returns-in-Some g c = put_over c.args.entries.now.items c.args.at c.args.pair c.in-Some.second c.in-Some.is c.requires
