use Rattle.std.proofs.Common.{take}
use Rattle.commit_core.proofs.NamedLists.{HasMet, parts_at}
use Rattle.commit_core.proofs.name_list.are_met_in_order.Given as goal

abbrev pub invariant-loop-ids : goal.invariant-loop-ids
invariant-loop-ids l = HasMet l.terms l.met (parts_at l.terms (take l.ids-index l.triples))
