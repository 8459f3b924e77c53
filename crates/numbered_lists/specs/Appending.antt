-- Lists whose terms come behind those of other lists.
use Rattle.std.specs.Prelude.{◌+◌, ◌<◌, ◌^◌, ℕ, Bool, true, false}
use Rattle.rdf_model.specs.declared.change.Change.{Change}
use Rattle.rdf_model.specs.declared.change.Change.TheVariants as changes
use Rattle.rdf_model.specs.declared.ids.Ids.{Ids}
use Rattle.rdf_model.specs.declared.triple.Triple.{Triple}
use Rattle.triple_index.specs.declared.change.NumberedChange.{NumberedChange}
use Rattle.triple_index.specs.declared.change.NumberedChange.TheVariants.{Add, Remove}

-- the places of a triple's terms, where so many terms come before them
abbrev pub shifted : ℕ → Ids → Ids
shifted n i = record { subject = n + i.subject; predicate = n + i.predicate; object = n + i.object }

-- each place is still one that can be told
abbrev pub HasRoom : ℕ → Ids → Type 0
HasRoom n i = (n + i.subject < 2 ^ 32) × (n + i.predicate < 2 ^ 32) × (n + i.object < 2 ^ 32)

-- the removal or the addition of a triple, by the places of its terms and by them
abbrev pub numbered_as : Bool → Ids → NumberedChange
numbered_as true i = Remove i
numbered_as false i = Add i

abbrev pub changed_as : Bool → Triple → Change
changed_as true t = changes.Remove t
changed_as false t = changes.Add t
