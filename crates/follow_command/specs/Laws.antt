-- Laws of what is printed.
use Rattle.std.specs.Prelude.{ℕ, List}
use Rattle.std.specs.List.{AllByRecursion}
use Rattle.record_text.specs.declared.record.Record.{Record}
use Rattle.commit_log.specs.Format.{AreRecordsFrom}
use Rattle.follower.specs.declared.fed.Fed.{Fed}
use Rattle.follower.specs.declared.fed.Fed.TheVariants.{Differs, Known, Window, Full, Waiting, Misfit, Applied}
use Rattle.follower.specs.Followed.{Followed, unfed}
use Rattle.follower.specs.Laws.{Feeding, Runs}
use Rattle.follow_command.specs.Printing.{FedInOrder}

-- the answer isn't that another record is there
abbrev pub IsAlike : Fed → Type 0
IsAlike (Differs number) = ⊥
IsAlike (Known version) = Unit {0}
IsAlike (Window version) = Unit {0}
IsAlike (Full count) = Unit {0}
IsAlike (Waiting version) = Unit {0}
IsAlike (Misfit number triple) = Unit {0}
IsAlike (Applied version dropped) = Unit {0}

-- records of one log never differ
abbrev pub NoneDiffer : Type 0
NoneDiffer = (records : List Record) (numbers : List ℕ) (fs : List Feeding) (s : Followed) → AreRecordsFrom 1 records → FedInOrder records numbers fs → Runs unfed fs s → AllByRecursion (λ f. IsAlike f.1) fs
