-- What following a log gives.
use Rattle.std.specs.Prelude.{ℕ, List, [], ◌∷◌, length, Option}
use Rattle.outside.specs.Files.{Contents}
use Rattle.input_files.specs.Lengths.{HoldsText}
use Rattle.input_files.specs.Loads.{Loads, LoadsSome, NoneFailed}
use Rattle.record_text.specs.declared.record.Record.{Record}
use Rattle.commit_log.specs.Format.{Opens}
use Rattle.follow_command.specs.declared.files.FollowedFiles.{FollowedFiles}
use Rattle.follow_command.specs.Order.{IsOrder}
use Rattle.follow_command.specs.Printing.{FollowPrint}

-- both files, in the order in which they are loaded
abbrev pub both_files : FollowedFiles → List (List ℕ)
both_files f = f.log_file ∷ f.order_file ∷ []

-- both were loaded, each once, in order, and no other
abbrev pub LoadsBoth : FollowedFiles → Loads → Loads → Type 0
LoadsBoth f before after = LoadsSome 2 (both_files f) before after × NoneFailed before after

-- the files hold this log and this order, within their length
abbrev pub HoldBoth : Option Contents → FollowedFiles → List ℕ → List ℕ → Type 0
HoldBoth held f log order = HoldsText held f.log_file log × HoldsText held f.order_file order

-- the text is printed of a log and an order
abbrev pub IsFollowed : List ℕ → List ℕ → ℕ → List ℕ → Type 0
IsFollowed log order version text = (records : List Record) × (numbers : List ℕ) × Opens log records × IsOrder (length records) order numbers × FollowPrint records numbers version text

-- it is printed of what the files hold
abbrev pub AreFollowed : Option Contents → FollowedFiles → Loads → Loads → List ℕ → Type 0
AreFollowed held f before after text = (log order : List ℕ) × HoldBoth held f log order × IsFollowed log order f.version text × LoadsBoth f before after
