-- A history that is taken apart, the newest entry first.
use Rattle.std.proofs.Common.{List, [], ◌∷◌, ◌++◌, Option, Some, None}
use Rattle.replica.specs.declared.entry.Entry.{Entry}

-- the newest entry and those before it, in order
abbrev pub left : Option (Entry × List Entry) → List Entry
left None = []
left (Some p) = p.1 ++ p.0 ∷ []
