-- The entries of a replica, and the follower that they lead to.
use Rattle.std.specs.Prelude.{◌≡◌, ℕ, List, [], ◌∷◌, ◌++◌}
use Rattle.follower.specs.declared.fed.Fed.{Fed}
use Rattle.follower.specs.declared.fed.Fed.TheVariants.{Differs, Known, Window, Full, Waiting, Misfit, Applied}
use Rattle.follower.specs.Followed.{Feeds, Followed, version_of}
use Rattle.replica.specs.declared.entry.Entry.{Entry}
use Rattle.replica.specs.declared.entry.Entry.TheVariants.{Feed, Read, Void}

-- all entries stand under 0, which is everybody's
abbrev pub number_of : Entry → ℕ
number_of e = 0

-- what a follower answers in a turn, and what it is afterwards
abbrev pub Enters : Followed → Entry → Followed → Type 0
Enters s (Feed r fed) t = Feeds s r fed t
Enters s (Read version) t = (version ≡ version_of s) × (t ≡ s)
Enters s Void t = t ≡ s

-- the same of turn after turn
abbrev pub Leads : Followed → List Entry → Followed → Type 0
Leads s [] t = t ≡ s
Leads s (e ∷ es) t = (m : Followed) × Enters s e m × Leads m es t

-- a follower, and the entries that led to it
pub record Replicated : Type 0 where
  pub state : Followed
  pub entries : List Entry

-- one turn leads on, and its entry stands behind those before it
pub record Adds (old : Replicated) (e : Entry) (new : Replicated) : Type 0 where
  pub step : Enters old.state e new.state
  pub entries : new.entries ≡ old.entries ++ e ∷ []

-- the answer names a triple that misfits
abbrev pub IsMisfit : Fed → Type 0
IsMisfit (Differs number) = ⊥
IsMisfit (Known version) = ⊥
IsMisfit (Window version) = ⊥
IsMisfit (Full count) = ⊥
IsMisfit (Waiting version) = ⊥
IsMisfit (Misfit number triple) = Unit {0}
IsMisfit (Applied version dropped) = ⊥

-- an answer tells this version
abbrev pub Answers : Fed → ℕ → Type 0
Answers (Differs number) n = ⊥
Answers (Known version) n = n ≡ version
Answers (Window version) n = n ≡ version
Answers (Full count) n = ⊥
Answers (Waiting version) n = n ≡ version
Answers (Misfit number triple) n = ⊥
Answers (Applied version dropped) n = n ≡ version

-- an entry tells this version
abbrev pub Tells : Entry → ℕ → Type 0
Tells (Feed r fed) n = Answers fed n
Tells (Read version) n = n ≡ version
Tells Void n = ⊥
