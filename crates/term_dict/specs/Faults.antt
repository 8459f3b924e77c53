-- When terms are not named.
use Rattle.std.specs.Prelude.{◌≡◌, ◌+◌, ◌<◌, List, length}
use Rattle.rdf_model.specs.declared.term.Term.{Term}
use Rattle.term_dict.specs.declared.fault.NameFault.{NameFault}
use Rattle.term_dict.specs.declared.fault.NameFault.TheVariants.{Full, Memory}
use Rattle.term_dict.specs.Names.{Named, with_terms}

-- the count of the named terms with these is above the limit
abbrev pub IsCause : NameFault → Named → List Term → Type 0
IsCause Memory d ts = Unit {0}
IsCause (Full count) d ts = (d.limit < count) × (count + 2 ≡ length (with_terms d.terms ts))
