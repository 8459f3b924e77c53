-- The text of evidence is verified.
use Rattle.std.proofs.Common.{List, [], ◌∷◌, refl}
use Rattle.std.specs.List.{AllByRecursion, Contains}
use Rattle.std.proofs.lemmas.List.Elements.{All-contains}
use Rattle.collections.proofs.Members.{has_head, has_tail}
use Rattle.evidence_blocks.specs.declared.block.Block.{Block}
use Rattle.evidence_blocks.specs.Blocks.{IsEvidence}
use Rattle.evidence_blocks.specs.Verdicts.{IsValid}
use Rattle.evidence_laws.proofs.Holding.{evidence_is_shown}
use Rattle.verdict_laws.specs.Laws.{EvidenceIsVerified}
use Rattle.verdict_laws.proofs.ReadableTerms.{evidence_ok}

all_of : (P : Block → Type 0) (bs : List Block) → ((b : Block) → Contains bs b → P b) → AllByRecursion P bs
all_of P [] f = tt
all_of P (b ∷ bs) f = (f b (has_head b bs), all_of P bs (λ c k. f c (has_tail b bs c k)))

pub evidence_is_verified : EvidenceIsVerified
evidence_is_verified g s blocks data_ok shapes_ok well each = record {
  blocks = blocks;
  count = refl;
  valid = all_of (IsValid g s) blocks (λ b c. (let e = All-contains (IsEvidence g s) blocks b each c in (evidence_ok g s data_ok shapes_ok well b e, evidence_is_shown g s b e)));
  written = refl;
}
