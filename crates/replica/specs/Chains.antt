-- What a chain of entries stands for. Not seen by any caller.
use Rattle.std.specs.Prelude.{List, [], ◌∷◌, ◌++◌}
use Rattle.replica.specs.declared.entry.Entry.{Entry}
use Rattle.replica.specs.declared.history.Link.{Link}
use Rattle.replica.specs.declared.history.Link.TheVariants.{End, After}

-- the oldest first
abbrev pub entries_of : Link → List Entry
entries_of End = []
entries_of (After newest older) = older.value ++ newest ∷ []
