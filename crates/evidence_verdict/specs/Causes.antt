-- Why a text isn't verified.
use Rattle.std.specs.Prelude.{ℕ, List}
use Rattle.rdf_model.specs.declared.triple.Triple.{Triple}
use Rattle.evidence_blocks.specs.Verdicts.{IsWrongAt}
use Rattle.evidence_verdict.specs.declared.fault.VerdictFault.{VerdictFault}
use Rattle.evidence_verdict.specs.declared.fault.VerdictFault.TheVariants.{Block, Memory}

-- behind blocks that show their results the one with this number doesn't stand, or doesn't; or memory ran out
abbrev pub IsCause : List Triple → List Triple → List ℕ → VerdictFault → Type 0
IsCause g s text (Block number) = IsWrongAt g s text number
IsCause g s text Memory = Unit {0}
