-- Why a log isn't followed, from why the first file gives no text, or the second, or their texts are refused.
use Rattle.std.proofs.Common.{◌≡◌, ◌∙◌, ℕ, List, [], ◌∷◌, ◌++◌, Option, Result, Ok, Err, refl, sym, ap, subst, inl, inr, append_assoc}
use Rattle.std.specs.Prelude.{MatchResult}
use Rattle.std.proofs.lemmas.List.{append-nil}
use Rattle.outside.specs.Files.{Contents}
use Rattle.input_files.specs.declared.file.FileFault.{FileFault}
use Rattle.input_files.specs.declared.file.FileFault.TheVariants as file
use Rattle.input_files.specs.Faults.{IsCause}
use Rattle.input_files.specs.Lengths.{HoldsText}
use Rattle.input_files.specs.Loads.{Loads, LoadsOne, NoneFailed}
use Rattle.follow_command.specs.declared.fault.FollowFault.{FollowFault}
use Rattle.follow_command.specs.declared.fault.FollowFault.TheVariants as fault
use Rattle.follow_command.specs.declared.files.FollowedFiles.{FollowedFiles}
use Rattle.follow_command.specs.Faults.{IsFileFault, RefusesTexts, StopsFollow, of_file}
use Rattle.follow_command.specs.Followed.{AreFollowed, HoldBoth, IsFollowed, LoadsBoth}

-- one name after another was loaded
two : (a b : List ℕ) (old mid new : List (List ℕ)) → mid ≡ old ++ a ∷ [] → new ≡ mid ++ b ∷ [] → new ≡ old ++ a ∷ b ∷ []
two a b old mid new m n = n ∙ (ap (λ xs. xs ++ b ∷ []) m ∙ append_assoc old (a ∷ []) (b ∷ []))

first_stops : (f : FileFault) (held : Option Contents) (v : FollowedFiles) (before after : Loads) → IsCause f held v.log_file before after → StopsFollow (of_file f 1) held v before after
first_stops file.Failed held v before after c = (1, inl (refl, c.0), c.1)
first_stops file.TooLong held v before after c = (inl (refl, c.0), c.1, c.2)
first_stops file.Memory held v before after (inl nothing, none) = ((0, nothing ∙ sym (append-nil before.loaded)), none)
first_stops file.Memory held v before after (inr one, none) = ((1, one), none)

second_stops : (f : FileFault) (held : Option Contents) (v : FollowedFiles) (text : List ℕ) (before mid after : Loads) → HoldsText held v.log_file text → LoadsOne v.log_file before mid → NoneFailed before mid → IsCause f held v.order_file mid after
    → StopsFollow (of_file f 2) held v before after
second_stops file.Failed held v text before mid after h one none c =
    (2, inr (refl, (text, h), c.0 ∙ ap (λ xs. xs ++ v.order_file ∷ []) none), two v.log_file v.order_file before.loaded mid.loaded after.loaded one c.1)
second_stops file.TooLong held v text before mid after h one none c = (inr (refl, (text, h), c.0), two v.log_file v.order_file before.loaded mid.loaded after.loaded one c.1, c.2 ∙ none)
second_stops file.Memory held v text before mid after h one none (inl nothing, still) = ((1, nothing ∙ one), still ∙ none)
second_stops file.Memory held v text before mid after h one none (inr more, still) = ((2, two v.log_file v.order_file before.loaded mid.loaded after.loaded one more), still ∙ none)

-- the fault is one of a file
pub of_a_file : (f : FileFault) (k : ℕ) (told : FollowFault) → told ≡ of_file f k → IsFileFault told
of_a_file f k told e = subst (λ (x : FollowFault). IsFileFault x) (sym e) (each f)
  where
    each : (h : FileFault) → IsFileFault (of_file h k)
    each file.Failed = tt
    each file.TooLong = tt
    each file.Memory = tt

-- The same where what the names hold is told again at the second load, and a name is that of its file.

pub first_file : (told : FollowFault) (f : FileFault) (held : Option Contents) (v : FollowedFiles) (name : List ℕ) (before after : Loads) → told ≡ of_file f 1 → name ≡ v.log_file → IsCause f held name before after → StopsFollow told held v before after
first_file told f held v name before after e n c = subst (λ (x : FollowFault). StopsFollow x held v before after) (sym e) (first_stops f held v before after (subst (λ (x : List ℕ). IsCause f held x before after) n c))

pub second_file : (told : FollowFault) (f : FileFault) (held now : Option Contents) (v : FollowedFiles) (text first second : List ℕ) (before mid after : Loads) → told ≡ of_file f 2 → now ≡ held → first ≡ v.log_file → second ≡ v.order_file → HoldsText held first text → LoadsOne first before mid → NoneFailed before mid
    → IsCause f now second mid after → StopsFollow told held v before after
second_file told f held now v text first second before mid after e k n m h one none c =
    subst (λ (x : FollowFault). StopsFollow x held v before after) (sym e)
    (second_stops f held v text before mid after (subst (λ (x : List ℕ). HoldsText held x text) n h) (subst (λ (x : List ℕ). LoadsOne x before mid) n one) none
    (subst (λ (x : Option Contents). IsCause f x v.order_file mid after) k (subst (λ (x : List ℕ). IsCause f now x mid after) m c)))

pub both_texts : (held now : Option Contents) (v : FollowedFiles) (log order first second : List ℕ) (old mid new failed_old failed_mid failed_new : List (List ℕ)) → now ≡ held → first ≡ v.log_file → second ≡ v.order_file → HoldsText held first log → mid ≡ old ++ first ∷ [] → failed_mid ≡ failed_old
    → HoldsText now second order → new ≡ mid ++ second ∷ [] → failed_new ≡ failed_mid → HoldBoth held v log order × ((new ≡ old ++ v.log_file ∷ v.order_file ∷ []) × (failed_new ≡ failed_old))
both_texts held now v d s first second old mid new failed_old failed_mid failed_new k n m h one none i more still = (
  (subst (λ (x : List ℕ). HoldsText held x d) n h, subst (λ (x : Option Contents). HoldsText x v.order_file s) k (subst (λ (x : List ℕ). HoldsText now x s) m i)),
  (two v.log_file v.order_file old mid new (subst (λ (x : List ℕ). mid ≡ old ++ x ∷ []) n one) (subst (λ (x : List ℕ). new ≡ mid ++ x ∷ []) m more), still ∙ none),
)

-- the texts are told, and followed or refused
texts_stop : (f : FollowFault) (held : Option Contents) (v : FollowedFiles) (log order : List ℕ) (before after : Loads) → HoldBoth held v log order → LoadsBoth v before after → RefusesTexts log order f → StopsFollow f held v before after
texts_stop fault.ReadFault held v log order before after h loads r = absurd r
texts_stop (fault.TooLong f) held v log order before after h loads r = absurd r
texts_stop (fault.BadLog number) held v log order before after h loads r = (log, order, h, r, loads)
texts_stop (fault.BadOrder place) held v log order before after h loads r = (log, order, h, r, loads)
texts_stop fault.Memory held v log order before after h loads r = ((2, loads.0), loads.1)

pub texts_followed : {T : Type 0} (bytes : T → List ℕ) (answer : Result T FollowFault) (held : Option Contents) (v : FollowedFiles) (log order seen given : List ℕ) (before after : Loads) → HoldBoth held v log order → LoadsBoth v before after → seen ≡ log → given ≡ order
    → MatchResult answer (λ text. IsFollowed seen given v.version (bytes text)) (RefusesTexts seen given) → MatchResult answer (λ text. AreFollowed held v before after (bytes text)) (λ f. StopsFollow f held v before after)
texts_followed bytes (Ok text) held v log order seen given before after h loads s g a =
    (log, order, h, subst (λ (x : List ℕ). IsFollowed log x v.version (bytes text)) g (subst (λ (x : List ℕ). IsFollowed x given v.version (bytes text)) s a), loads)
texts_followed bytes (Err f) held v log order seen given before after h loads s g a =
    texts_stop f held v log order before after h loads (subst (λ (x : List ℕ). RefusesTexts log x f) g (subst (λ (x : List ℕ). RefusesTexts x given f) s a))
