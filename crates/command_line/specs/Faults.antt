-- Why words are no call.
use Rattle.std.specs.Prelude.{◌≡◌, List, ℕ, Option, None}
use Rattle.command_line.specs.declared.call.Call.{Call}
use Rattle.command_line.specs.declared.call.WordsFault.{WordsFault}
use Rattle.command_line.specs.declared.call.WordsFault.TheVariants.{Usage, Memory}

abbrev pub Refuses : WordsFault → Option Call → Type 0
Refuses Usage call = call ≡ None
Refuses Memory call = Unit {0}

-- why words lack the names of two files
abbrev pub Lacks : WordsFault → Option (List ℕ × List ℕ) → Type 0
Lacks Usage names = names ≡ None
Lacks Memory names = Unit {0}
