-- The forms in memory where no call is listed as one that fails.
use Rattle.std.proofs.Common.{◌≡◌, ℕ, ◌<◌, List, [], ◌∷◌, ◌++◌, Result, Ok, Err, None, true, length, refl, ap, subst, inl, inr, arith}
use Rattle.std.specs.Prelude.{IsOk}
use Rattle.outside.specs.Counts.{is_listed}
use Rattle.regex.specs.declared.string.regex.Regex.{Regex}
use Rattle.outside.specs.Faults.{Refusal}
use Rattle.outside.specs.Memory.{content, FilesState, LoadsInMemory, SinkState, WritesInMemory, FakeState, BuildsOver}
use Rattle.outside.specs.declared.files.LoadFault.TheVariants as load
use Rattle.outside.specs.declared.maker.MakeFault.{MakeFault}
use Rattle.outside.specs.declared.maker.MakeFault.TheVariants as make
use Rattle.outside.specs.declared.sink.Failed.{Failed}

unlisted : (numbers : List ℕ) (number : ℕ) → numbers ≡ [] → is_listed numbers number ≡ true → ⊥
unlisted numbers number e h = let k : is_listed [] number ≡ true = subst (λ ns. is_listed ns number ≡ true) e h in cc

-- a load fails only for a name that no file has
pub fails_unheld : (new : FilesState) (name : List ℕ) → new.fail ≡ [] → LoadsInMemory new name (Err load.Failed) → content new.files name ≡ None
fails_unheld new name e h = elim h [ inl listed ↦ absurd (unlisted _ _ e listed) | inr unheld ↦ unheld ]

-- a write counts no fault while room is left
pub takes_with_room : (old new : SinkState) (piece : List ℕ) (result : Result ℕ Failed) → old.fail ≡ [] → length old.taken < old.room → WritesInMemory old piece result new → IsOk result × (new.faults ≡ old.faults)
takes_with_room old new piece (Ok n) e room h = (refl, ap (λ s. s.faults) h.3)
takes_with_room old new piece (Err failed) e room h = elim h.0 [ inl listed ↦ absurd (unlisted _ _ e listed) | inr full ↦ absurd (omega (arith, full.0)) ]

-- a pattern is refused only where the maker below refused it
pub refuses_below : {M : Type 0} (refused : M → List Refusal) (gives : M → List ℕ → List ℕ → Result Regex MakeFault → M → Type 0) (old new : FakeState M) (pattern flags : List ℕ) → old.refuse ≡ [] → BuildsOver refused gives old pattern flags (Err make.Refused) new → refused new.maker ≡ refused old.maker ++ (pattern, flags) ∷ []
refuses_below refused gives old new pattern flags e h = elim h [ inl listed ↦ absurd (unlisted _ _ e listed.0) | inr below ↦ below.1 ]
