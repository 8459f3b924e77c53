-- Which actions are commits.
use Rattle.store_model.specs.declared.event.Action.{Action}
use Rattle.store_model.specs.declared.event.Action.TheVariants.{Commit}

abbrev pub IsNoCommit : Action → Type 0
IsNoCommit (Commit x) = ⊥
IsNoCommit a = Unit {0}
