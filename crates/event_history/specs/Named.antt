-- Blocks of terms that were named, commits that were accepted, and what a history is to contracts.
use Rattle.std.specs.Prelude.{◌≡◌, ℕ, List, ◌++◌, map}
use Rattle.rdf_model.specs.declared.change.Change.{Change}
use Rattle.rdf_model.specs.declared.term.Term.{Term}
use Rattle.rdf_model.specs.Numbers.{term_at}
use Rattle.store_model.specs.declared.event.Action.TheVariants.{Commit, Name}
use Rattle.store_model.specs.declared.event.Event.{Event}
use Rattle.store_model.specs.declared.event.NameKind.{NameKind}
use Rattle.store_model.specs.declared.event.Reply.TheVariants.{Named}
use Rattle.triple_index.specs.Changes.{change_at}
use Rattle.triple_index.specs.declared.change.NumberedChange.{NumberedChange}
use Rattle.event_history.specs.declared.kept.AcceptedCommit.{AcceptedCommit}

-- the terms of numbers
abbrev pub terms_at : List Term → List ℕ → List Term
terms_at names numbers = map (term_at names) numbers

-- the event of a block that was named
abbrev pub named_block : ℕ → NameKind → List Term → Event
named_block session kind terms = record { session = session; action = Name kind terms; reply = Named }

-- the changes of numbers
abbrev pub net_at : List Term → List NumberedChange → List Change
net_at names net = map (change_at names) net

-- the event of a commit that was accepted, with these changes
abbrev pub accepted_commit : AcceptedCommit → List Change → Event
accepted_commit c net = record { session = c.session; action = Commit (record c.transaction { net = net }); reply = c.reply }

-- the first are those that come first among the others
abbrev pub IsBeginning : List Term → List Term → Type 0
IsBeginning first names = (more : List Term) × (names ≡ first ++ more)

-- what a history is to contracts: its events, the oldest first, and the names by whose numbers it keeps terms
pub record NamedHistory : Type 0 where
  pub events : List Event
  pub names : List Term
