-- A verdict is the same for graphs with the same members.
use Rattle.std.proofs.Common.{List, ℕ, [], ◌∷◌}
use Rattle.std.specs.Prelude.{◌↔◌}
use Rattle.std.specs.List.{AllByRecursion, Contains}
use Rattle.rdf_model.specs.declared.triple.Triple.{Triple}
use Rattle.evidence_blocks.specs.declared.block.Block.{Block}
use Rattle.evidence_blocks.specs.declared.block.ShownLook.{ShownLook}
use Rattle.evidence_blocks.specs.Blocks.{HasTriples}
use Rattle.evidence_blocks.specs.Verdicts.{IsValid}
use Rattle.file_validation.specs.Validations.{IsVerdict}
use Rattle.file_validation.specs.declared.validating.EvidenceVerdict.{EvidenceVerdict}
use Rattle.file_validation.specs.declared.validating.EvidenceVerdict.TheVariants.{Verified, Wrong}

module _ (g h s : List Triple) (same : (t : Triple) → Contains g t ↔ Contains h t) where
  to_triples : (x : ShownLook) → HasTriples g x → HasTriples h x
  to_triples x l = record {
    ascending = l.ascending;
    members = λ t. (λ c. let k = (l.members t).0 c in ((same t).0 k.0, k.1), λ k. (l.members t).1 ((same t).1 k.0, k.1));
  }

  to_valid : (b : Block) → IsValid g s b → IsValid h s b
  to_valid b v = (v.0, record { ascending = v.1.ascending; triples = λ k d lt. to_triples _ (v.1.triples k d lt); listed = v.1.listed; gives = v.1.gives })

  all_valid : (bs : List Block) → AllByRecursion (IsValid g s) bs → AllByRecursion (IsValid h s) bs
  all_valid [] a = a
  all_valid (b ∷ bs) a = (to_valid b a.0, all_valid bs a.1)

pub same_verdict : (g h s : List Triple) → ((t : Triple) → Contains g t ↔ Contains h t) → (text : List ℕ) (v : EvidenceVerdict) → IsVerdict g s text v → IsVerdict h s text v
same_verdict g h s same text (Verified blocks) v = record { blocks = v.blocks; count = v.count; valid = all_valid g h s same v.blocks v.valid; written = v.written }
same_verdict g h s same text (Wrong block) v = record {
  before = v.before;
  rest = v.rest;
  number = v.number;
  valid = all_valid g h s same v.before v.valid;
  written = v.written;
  more = v.more;
  wrong = λ b behind valid. v.wrong b behind (to_valid h g s (λ t. ((same t).1, (same t).0)) b valid);
}
