-- Files that hold what they held have the texts that they had.
use Rattle.std.proofs.Common.{◌≡◌, ◌∙◌, ◌<◌, ◌≤◌, ℕ, List, Some, length, take, sym, ap, subst, arith}
use Rattle.std.proofs.lemmas.List.{length-take, take_all}
use Rattle.outside.specs.Files.{Contents}
use Rattle.input_files.specs.Lengths.{HoldsText, room}
use Rattle.file_validation.specs.Validations.{IsVerdictOn}
use Rattle.file_laws.specs.Laws.{GivenEvidenceIsVerified}
use Rattle.file_laws.proofs.OneVerdict.{explanations_are_verified, verdicts_are_one}

same_text : (held later : Contents) (name a b : List ℕ) → later name ≡ held name → HoldsText (Some held) name a → HoldsText (Some later) name b → b ≡ a
same_text held later name a b same h k =
    let both : Some k.0.0 ≡ Some h.0.0 = sym k.0.1 ∙ same ∙ h.0.1 in
    let one : k.0.0 ≡ h.0.0 = cc in
    k.0.2 ∙ ap (take room) one ∙ sym h.0.2

-- the whole of a file that is within its length
whole_text : (later : Contents) (name a b : List ℕ) → later name ≡ Some a → HoldsText (Some later) name b → b ≡ a
whole_text later name a b is k =
    let both : Some k.0.0 ≡ Some a = sym k.0.1 ∙ is in
    let one : k.0.0 ≡ a = cc in
    let taken : b ≡ take room a = k.0.2 ∙ ap (take room) one in
    taken ∙ take_all room a (short a (subst (λ (c : List ℕ). length c < room) taken k.1))
  where
    short : (c : List ℕ) → length (take room c) < room → length c ≤ room
    short c lt = let size = length-take room c in omega (arith, size, lt)

pub given_evidence_is_verified : GivenEvidenceIsVerified
given_evidence_is_verified held later v before after then now e verdict explained same_data same_shapes holds verified =
    let k = explanations_are_verified explained.0 explained.1 e explained.3 in
    let texts = verified.3 in
    let data_same = same_text held later v.graphs.data_file explained.0 verified.0 same_data explained.2.0 texts.0.0 in
    let shapes_same = same_text held later v.graphs.shapes_file explained.1 verified.1 same_shapes explained.2.1 texts.0.1 in
    let all = whole_text later v.evidence_file e.blocks verified.2 holds texts.1 in
    let told = subst (λ (p : List ℕ × List ℕ × List ℕ). IsVerdictOn p.0 p.1 p.2 verdict) (λ i. (data_same i, shapes_same i, all i)) verified.4 in
    (k.0, k.1, verdicts_are_one explained.0 explained.1 e.blocks verdict _ told k.2)
