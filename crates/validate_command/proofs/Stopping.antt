-- Why two files aren't validated, from why the first gives no text, or the second, or their texts are refused.
use Rattle.std.proofs.Common.{◌≡◌, ◌∙◌, ℕ, List, [], ◌∷◌, ◌++◌, Option, refl, sym, ap, subst, inl, inr, append_assoc}
use Rattle.std.proofs.lemmas.List.{append-nil}
use Rattle.outside.specs.Files.{Contents}
use Rattle.input_files.specs.declared.file.FileFault.{FileFault}
use Rattle.input_files.specs.declared.file.FileFault.TheVariants as file
use Rattle.input_files.specs.Faults.{IsCause as IsFileCause}
use Rattle.input_files.specs.Lengths.{HoldsText}
use Rattle.input_files.specs.Loads.{Loads, LoadsOne, NoneFailed, NoneRefused}
use Rattle.file_validation.specs.declared.fault.InputFault.{InputFault}
use Rattle.file_validation.specs.declared.fault.InputFault.TheVariants as texts
use Rattle.file_validation.specs.Validations.{IsCause}
use Rattle.validate_command.specs.declared.fault.ValidateFault.{ValidateFault}
use Rattle.validate_command.specs.declared.validated_files.ValidatedFiles.{ValidatedFiles}
use Rattle.validate_command.specs.Validated.{HoldTexts, LoadsBoth}
use Rattle.validate_command.specs.Faults.{IsFileFault, StopsValidation, of_file, of_texts}

-- one name after another was loaded
two : (a b : List ℕ) (old mid new : List (List ℕ)) → mid ≡ old ++ a ∷ [] → new ≡ mid ++ b ∷ [] → new ≡ old ++ a ∷ b ∷ []
two a b old mid new m n = n ∙ (ap (λ xs. xs ++ b ∷ []) m ∙ append_assoc old (a ∷ []) (b ∷ []))

first_stops : (f : FileFault) (held : Option Contents) (v : ValidatedFiles) (before after : Loads) → NoneRefused before after → IsFileCause f held v.data_file before after → StopsValidation (of_file f 1) held v before after
first_stops file.Failed held v before after same c = (1, inl (refl, c.0), c.1, same)
first_stops file.TooLong held v before after same c = (inl (refl, c.0), c.1, c.2, same)
first_stops file.Memory held v before after same (inl nothing, none) = ((0, nothing ∙ sym (append-nil before.loaded)), none, same)
first_stops file.Memory held v before after same (inr one, none) = ((1, one), none, same)

second_stops : (f : FileFault) (held : Option Contents) (v : ValidatedFiles) (text : List ℕ) (before mid after : Loads) → HoldsText held v.data_file text → LoadsOne v.data_file before mid → NoneFailed before mid → NoneRefused before after → IsFileCause f held v.shapes_file mid after
    → StopsValidation (of_file f 2) held v before after
second_stops file.Failed held v text before mid after h one none same c =
    (2, inr (refl, (text, h), c.0 ∙ ap (λ xs. xs ++ v.shapes_file ∷ []) none), two v.data_file v.shapes_file before.loaded mid.loaded after.loaded one c.1, same)
second_stops file.TooLong held v text before mid after h one none same c = (inr (refl, (text, h), c.0), two v.data_file v.shapes_file before.loaded mid.loaded after.loaded one c.1, c.2 ∙ none, same)
second_stops file.Memory held v text before mid after h one none same (inl nothing, still) = ((1, nothing ∙ one), still ∙ none, same)
second_stops file.Memory held v text before mid after h one none same (inr more, still) = ((2, two v.data_file v.shapes_file before.loaded mid.loaded after.loaded one more), still ∙ none, same)

-- the texts are refused
of_cause : (cause : InputFault) (held : Option Contents) (v : ValidatedFiles) (data_text shapes_text : List ℕ) (before after : Loads) → HoldTexts held v data_text shapes_text → LoadsBoth v before after → IsCause data_text shapes_text before.refused after.refused cause → StopsValidation (of_texts cause) held v before after
of_cause (texts.Data line kind) held v d s before after h loads c = ((d, s, h, (texts.Data line kind, refl, c)), loads)
of_cause (texts.Shapes line kind) held v d s before after h loads c = ((d, s, h, (texts.Shapes line kind, refl, c)), loads)
of_cause (texts.Rule row) held v d s before after h loads c = ((d, s, h, (texts.Rule row, refl, c)), loads)
of_cause (texts.Pattern node) held v d s before after h loads c = ((d, s, h, (texts.Pattern node, refl, c)), loads)
of_cause texts.Memory held v d s before after h loads c = ((2, loads.0), loads.1, c)

pub texts_stop : (cause : InputFault) (told : ValidateFault) (held : Option Contents) (v : ValidatedFiles) (data_text shapes_text : List ℕ) (before after : Loads) → told ≡ of_texts cause → HoldTexts held v data_text shapes_text → LoadsBoth v before after → IsCause data_text shapes_text before.refused after.refused cause
    → StopsValidation told held v before after
texts_stop cause told held v d s before after e h loads c = subst (λ (x : ValidateFault). StopsValidation x held v before after) (sym e) (of_cause cause held v d s before after h loads c)

-- the fault is one of a file
pub of_a_file : (f : FileFault) (k : ℕ) (told : ValidateFault) → told ≡ of_file f k → IsFileFault told
of_a_file f k told e = subst (λ (x : ValidateFault). IsFileFault x) (sym e) (each f)
  where
    each : (h : FileFault) → IsFileFault (of_file h k)
    each file.Failed = tt
    each file.TooLong = tt
    each file.Memory = tt

-- The same where what the names hold is told again at the second load, and a name is that of its file.

pub first_file : (told : ValidateFault) (f : FileFault) (held : Option Contents) (v : ValidatedFiles) (name : List ℕ) (before after : Loads) → told ≡ of_file f 1 → name ≡ v.data_file → NoneRefused before after → IsFileCause f held name before after → StopsValidation told held v before after
first_file told f held v name before after e n same c =
    subst (λ (x : ValidateFault). StopsValidation x held v before after) (sym e) (first_stops f held v before after same (subst (λ (x : List ℕ). IsFileCause f held x before after) n c))

pub second_file : (told : ValidateFault) (f : FileFault) (held now : Option Contents) (v : ValidatedFiles) (text first second : List ℕ) (before mid after : Loads) → told ≡ of_file f 2 → now ≡ held → first ≡ v.data_file → second ≡ v.shapes_file → HoldsText held first text → LoadsOne first before mid → NoneFailed before mid
    → NoneRefused before after → IsFileCause f now second mid after → StopsValidation told held v before after
second_file told f held now v text first second before mid after e k n m h one none same c =
    subst (λ (x : ValidateFault). StopsValidation x held v before after) (sym e)
    (second_stops f held v text before mid after (subst (λ (x : List ℕ). HoldsText held x text) n h) (subst (λ (x : List ℕ). LoadsOne x before mid) n one) none same
    (subst (λ (x : Option Contents). IsFileCause f x v.shapes_file mid after) k (subst (λ (x : List ℕ). IsFileCause f now x mid after) m c)))

pub both_texts : (held now : Option Contents) (v : ValidatedFiles) (data_text shapes_text first second : List ℕ) (old mid new failed_old failed_mid failed_new : List (List ℕ)) → now ≡ held → first ≡ v.data_file → second ≡ v.shapes_file → HoldsText held first data_text → mid ≡ old ++ first ∷ [] → failed_mid ≡ failed_old
    → HoldsText now second shapes_text → new ≡ mid ++ second ∷ [] → failed_new ≡ failed_mid → HoldTexts held v data_text shapes_text × ((new ≡ old ++ v.data_file ∷ v.shapes_file ∷ []) × (failed_new ≡ failed_old))
both_texts held now v d s first second old mid new failed_old failed_mid failed_new k n m h one none i more still = (
  (subst (λ (x : List ℕ). HoldsText held x d) n h, subst (λ (x : Option Contents). HoldsText x v.shapes_file s) k (subst (λ (x : List ℕ). HoldsText now x s) m i)),
  (two v.data_file v.shapes_file old mid new (subst (λ (x : List ℕ). mid ≡ old ++ x ∷ []) n one) (subst (λ (x : List ℕ). new ≡ mid ++ x ∷ []) m more), still ∙ none),
)
