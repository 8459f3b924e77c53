use Rattle.std.proofs.Common.{◌≡◌, take}
use Rattle.commit_core.proofs.NamedLists.{parts_at}
use Rattle.commit_core.proofs.name_list.parts_of.Given as goal

abbrev pub invariant-loop-ids : goal.invariant-loop-ids
invariant-loop-ids l = l.parts.items ≡ parts_at l.terms (take l.ids-index l.triples)
