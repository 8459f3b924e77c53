use Rattle.std.proofs.Common.{◌≡◌, take}
use Rattle.std.specs.List.{flat_map}
use Rattle.commit_core.specs.Naming.{part_numbers}
use Rattle.commit_core.proofs.name_list.numbers_of_parts.Given as goal

abbrev pub invariant-loop-ids : goal.invariant-loop-ids
invariant-loop-ids l = l.parts.items ≡ flat_map (part_numbers l.numbers) (take l.ids-index l.triples)
