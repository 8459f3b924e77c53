-- Why a session isn't prepared, and why a select has no patterns.
use Rattle.std.specs.Prelude.{◌≡◌, ℕ, List, Result, Err}
use Rattle.outside.specs.Faults.{Refusal}
use Rattle.session_reader.specs.declared.prepare_fault.PrepareFault.{PrepareFault}
use Rattle.session_reader.specs.declared.prepare_fault.PrepareFault.TheVariants.{Line, Memory}
use Rattle.session_reader.specs.declared.select_block.SelectLineFault.{SelectLineFault}
use Rattle.session_reader.specs.declared.select_block.SelectLineFault.TheVariants as lines
use Rattle.session_reader.specs.declared.select_block.SelectLineFault.TheVariants.{Refused}

-- the fault is what reading gives, unless memory ran out
abbrev pub Fails : {X : Type 0} → PrepareFault → Result X ℕ → Type 0
Fails (Line n) reading = reading ≡ Err n
Fails Memory reading = Unit {0}

-- no pattern is made of a file that can't be read
abbrev pub MakesNone : PrepareFault → List Refusal → List Refusal → Type 0
MakesNone (Line n) old new = new ≡ old
MakesNone Memory old new = Unit {0}

-- Likewise of the block of a select.
abbrev pub RefusesLine : {X : Type 0} → Result X ℕ → SelectLineFault → Type 0
RefusesLine reading (Refused n) = reading ≡ Err n
RefusesLine reading lines.Memory = Unit {0}
