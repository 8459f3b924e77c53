-- What functions answer for a reading.
use Rattle.std.specs.Prelude.{◌≡◌, Result, Ok, Err}
use Rattle.rdf_lexical.specs.declared.refusal.RefusalKind.{RefusalKind}
use Rattle.ntriples_text.specs.declared.line_fault.LineFault.{LineFault}
use Rattle.ntriples_text.specs.declared.line_fault.LineFault.TheVariants.{Refused, Memory}

-- a function answered what the reading gives, seen by view, unless memory ran out
abbrev pub Fails : {Y : Type 0} → LineFault → Result Y RefusalKind → Type 0
Fails Memory reading = Unit {0}
Fails (Refused k) reading = reading ≡ Err k

abbrev pub Gives : {X Y : Type 0} → (X → Y) → Result X LineFault → Result Y RefusalKind → Type 0
Gives view (Ok x) reading = reading ≡ Ok (view x)
Gives view (Err e) reading = Fails e reading
