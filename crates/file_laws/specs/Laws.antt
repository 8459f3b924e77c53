-- What follows from the definitions of explanations and of verdicts.
use Rattle.std.specs.Prelude.{◌≡◌, ℕ, List, Some, length}
use Rattle.outside.specs.Files.{Contents}
use Rattle.input_files.specs.Loads.{Loads}
use Rattle.evidence_blocks.specs.declared.block.Block.{Block}
use Rattle.evidence_blocks.specs.BlockText.{numbered_blocks}
use Rattle.file_validation.specs.declared.validating.Explanation.{Explanation}
use Rattle.file_validation.specs.declared.validating.EvidenceVerdict.{EvidenceVerdict}
use Rattle.file_validation.specs.declared.validating.EvidenceVerdict.TheVariants.{Verified}
use Rattle.file_validation.specs.Validations.{IsExplanationOf, IsVerdictOn}
use Rattle.validate_command.specs.declared.validated_files.VerifiedFiles.{VerifiedFiles}
use Rattle.validate_command.specs.Validated.{AreExplained}
use Rattle.validate_command.specs.Verified.{AreVerified}

-- What explains the validation of two texts is verified of them, and has so many blocks.
abbrev pub ExplanationsAreVerified : Type 0
ExplanationsAreVerified = (data_text shapes_text : List ℕ) (e : Explanation) → IsExplanationOf data_text shapes_text e
    → (blocks : List Block) × (e.blocks ≡ numbered_blocks 1 blocks) × IsVerdictOn data_text shapes_text e.blocks (Verified (length blocks))

-- Two verdicts on one text of evidence are one.
abbrev pub VerdictsAreOne : Type 0
VerdictsAreOne = (data_text shapes_text evidence_text : List ℕ) (v w : EvidenceVerdict) → IsVerdictOn data_text shapes_text evidence_text v → IsVerdictOn data_text shapes_text evidence_text w → v ≡ w

-- Where later the two files hold what they held when their validation was explained, and the third holds the evidence that was given,
-- whatever verdict is given is that all its blocks show their results.
abbrev pub GivenEvidenceIsVerified : Type 0
GivenEvidenceIsVerified = (held later : Contents) (v : VerifiedFiles) (before after then now : Loads) (e : Explanation) (verdict : EvidenceVerdict)
    → AreExplained (Some held) v.graphs before after e
    → later v.graphs.data_file ≡ held v.graphs.data_file → later v.graphs.shapes_file ≡ held v.graphs.shapes_file → later v.evidence_file ≡ Some e.blocks
    → AreVerified (Some later) v then now verdict
    → (blocks : List Block) × (e.blocks ≡ numbered_blocks 1 blocks) × (verdict ≡ Verified (length blocks))
