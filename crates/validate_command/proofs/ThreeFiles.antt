-- Why a file of evidence isn't verified, from why the graphs' files give no texts, or its own, or their texts are refused.
use Rattle.std.proofs.Common.{◌≡◌, ◌∙◌, ℕ, zero, suc, List, [], ◌∷◌, ◌++◌, take, Option, refl, sym, ap, subst, inl, inr, append_assoc}
use Rattle.outside.specs.Files.{Contents}
use Rattle.input_files.specs.declared.file.FileFault.{FileFault}
use Rattle.input_files.specs.declared.file.FileFault.TheVariants as file
use Rattle.input_files.specs.Faults.{IsCause as IsFileCause}
use Rattle.input_files.specs.Lengths.{HoldsText, IsTooLong}
use Rattle.input_files.specs.Loads.{Loads, LoadsOne, NoneFailed, NoneRefused, OnlyFailed}
use Rattle.file_validation.specs.declared.fault.InputFault.{InputFault}
use Rattle.file_validation.specs.declared.fault.InputFault.TheVariants as texts
use Rattle.file_validation.specs.Validations.{IsCause}
use Rattle.validate_command.specs.declared.fault.ValidateFault.{ValidateFault}
use Rattle.validate_command.specs.declared.fault.ValidateFault.TheVariants as fault
use Rattle.validate_command.specs.declared.validated_files.VerifiedFiles.{VerifiedFiles}
use Rattle.validate_command.specs.Validated.{HoldTexts, LoadsBoth, both_files}
use Rattle.validate_command.specs.Faults.{IsFileFault, IsFirst, StopsValidation, of_file, of_texts}
use Rattle.validate_command.specs.Verified.{HoldAll, LoadsAll, StopsVerification, three_files}

module _ (held : Option Contents) (v : VerifiedFiles) (before after : Loads) where
  -- the first files of all are those of both
  same_first : (f : ℕ) (P : List ℕ → Type 0) → IsFirst held v.graphs f P → take f (both_files v.graphs) ≡ take f (three_files v)
  same_first f P (inl i) = subst (λ n. take n (both_files v.graphs) ≡ take n (three_files v)) (sym i.0) refl
  same_first f P (inr i) = subst (λ n. take n (both_files v.graphs) ≡ take n (three_files v)) (sym i.0) refl

  some_of_all : (n : ℕ) → (m : ℕ) × (take n (both_files v.graphs) ≡ take m (three_files v))
  some_of_all zero = (0, refl)
  some_of_all (suc zero) = (1, refl)
  some_of_all (suc (suc zero)) = (2, refl)
  some_of_all (suc (suc (suc n))) = (2, refl)

  pub graphs_stop : (told : ValidateFault) → IsFileFault told → StopsValidation told held v.graphs before after → StopsVerification told held v before after
  graphs_stop fault.ReadFault is s = (s.0, inl s.1, s.2 ∙ ap (λ (ns : List (List ℕ)). before.loaded ++ ns) (same_first s.0 (λ name. OnlyFailed name before after) s.1), s.3)
  graphs_stop (fault.TooLong f) is s = (inl s.0, s.1 ∙ ap (λ (ns : List (List ℕ)). before.loaded ++ ns) (same_first f (IsTooLong held) s.0), s.2, s.3)
  graphs_stop (fault.BadInput bad) is s = absurd is
  graphs_stop fault.Memory is s = (let m = some_of_all s.0.0 in (m.0, s.0.1 ∙ ap (λ (ns : List (List ℕ)). before.loaded ++ ns) m.1), s.1, s.2)

  -- the texts are refused
  of_cause : (cause : InputFault) (data_text shapes_text : List ℕ) → HoldTexts held v.graphs data_text shapes_text → LoadsAll v before after → IsCause data_text shapes_text before.refused after.refused cause → StopsVerification (of_texts cause) held v before after
  of_cause (texts.Data line kind) d s h loads c = ((d, s, h, (texts.Data line kind, refl, c)), loads)
  of_cause (texts.Shapes line kind) d s h loads c = ((d, s, h, (texts.Shapes line kind, refl, c)), loads)
  of_cause (texts.Rule row) d s h loads c = ((d, s, h, (texts.Rule row, refl, c)), loads)
  of_cause (texts.Pattern node) d s h loads c = ((d, s, h, (texts.Pattern node, refl, c)), loads)
  of_cause texts.Memory d s h loads c = ((3, loads.0), loads.1, c)

  pub texts_stop : (cause : InputFault) (told : ValidateFault) (data_text shapes_text : List ℕ) → told ≡ of_texts cause → HoldTexts held v.graphs data_text shapes_text → LoadsAll v before after → IsCause data_text shapes_text before.refused after.refused cause → StopsVerification told held v before after
  texts_stop cause told d s e h loads c = subst (λ (x : ValidateFault). StopsVerification x held v before after) (sym e) (of_cause cause d s h loads c)

-- the third file, behind the other two
module _ (held now : Option Contents) (v : VerifiedFiles) (data_text shapes_text name : List ℕ) (before mid after : Loads) (still : now ≡ held) (named : name ≡ v.evidence_file) (texts_held : HoldTexts held v.graphs data_text shapes_text) (loads : LoadsBoth v.graphs before mid) where
  three : LoadsOne name mid after → after.loaded ≡ before.loaded ++ three_files v
  three one = one ∙ ap (λ (n : List ℕ). mid.loaded ++ n ∷ []) named ∙ ap (λ (ns : List (List ℕ)). ns ++ v.evidence_file ∷ []) loads.0 ∙ append_assoc before.loaded (both_files v.graphs) (v.evidence_file ∷ [])

  pub all_texts : (text : List ℕ) → HoldsText now name text → LoadsOne name mid after → NoneFailed mid after → HoldAll held v data_text shapes_text text × LoadsAll v before after
  all_texts text h one none = (
    (texts_held, subst (λ (x : Option Contents). HoldsText x v.evidence_file text) still (subst (λ (n : List ℕ). HoldsText now n text) named h)),
    (three one, none ∙ loads.1),
  )

  third_stops : (f : FileFault) → NoneRefused before after → IsFileCause f held v.evidence_file mid after → StopsVerification (of_file f 3) held v before after
  third_stops file.Failed same c = (3, inr (refl, (data_text, shapes_text, texts_held), c.0 ∙ ap (λ (ns : List (List ℕ)). ns ++ v.evidence_file ∷ []) loads.1), whole c.1, same)
    where
      whole : LoadsOne v.evidence_file mid after → after.loaded ≡ before.loaded ++ three_files v
      whole one = one ∙ ap (λ (ns : List (List ℕ)). ns ++ v.evidence_file ∷ []) loads.0 ∙ append_assoc before.loaded (both_files v.graphs) (v.evidence_file ∷ [])
  third_stops file.TooLong same c = (inr (refl, (data_text, shapes_text, texts_held), c.0), c.1 ∙ ap (λ (ns : List (List ℕ)). ns ++ v.evidence_file ∷ []) loads.0 ∙ append_assoc before.loaded (both_files v.graphs) (v.evidence_file ∷ []), c.2 ∙ loads.1, same)
  third_stops file.Memory same (inl nothing, none) = ((2, nothing ∙ loads.0), none ∙ loads.1, same)
  third_stops file.Memory same (inr one, none) = ((3, one ∙ ap (λ (ns : List (List ℕ)). ns ++ v.evidence_file ∷ []) loads.0 ∙ append_assoc before.loaded (both_files v.graphs) (v.evidence_file ∷ [])), none ∙ loads.1, same)

  pub third_file : (told : ValidateFault) (f : FileFault) → told ≡ of_file f 3 → NoneRefused before after → IsFileCause f now name mid after → StopsVerification told held v before after
  third_file told f e same c =
      subst (λ (x : ValidateFault). StopsVerification x held v before after) (sym e)
      (third_stops f same (subst (λ (x : Option Contents). IsFileCause f x v.evidence_file mid after) still (subst (λ (n : List ℕ). IsFileCause f now n mid after) named c)))
