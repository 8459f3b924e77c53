-- What a chain of entries stands for.
use Rattle.std.specs.Prelude.{ℕ, ◌+◌, List, [], ◌∷◌, ◌++◌, length, Option, Some, None}
use Rattle.turn_counter.specs.declared.entry.Entry.{Entry}
use Rattle.turn_counter.specs.declared.chain.Link.{Link}
use Rattle.turn_counter.specs.declared.chain.Link.TheVariants.{End, More}

abbrev pub entries_of : Link → List Entry
entries_of End = []
entries_of (More entry below) = below.value ++ entry ∷ []

-- how many links are left behind the last that was taken off
abbrev pub links_left : Option (List Entry × Entry) → ℕ
links_left None = 0
links_left (Some rest) = length rest.0 + 1
