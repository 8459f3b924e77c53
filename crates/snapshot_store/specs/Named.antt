-- Commits by the numbers of their terms, and what is asked of them.
use Rattle.std.specs.Prelude.{◌≤◌, ℕ, Bool, List, [], Option, Some, None}
use Rattle.rdf_model.specs.declared.ids.Ids.{Ids}
use Rattle.rdf_model.specs.declared.look.Look.{Look}
use Rattle.rdf_model.specs.declared.pattern.Pattern.{Pattern}
use Rattle.rdf_model.specs.declared.term.Term.{Term}
use Rattle.rdf_model.specs.Graphs.{with_each}
use Rattle.rdf_model.specs.Numbers.{graph_of}
use Rattle.store_model.specs.declared.commit.Accepted.{Accepted}
use Rattle.store_model.specs.declared.commit.Verdict.{Verdict}

-- what the commits of a store are to contracts: the commits, the first one first, the names by whose numbers they are kept, and how
-- many there is room for without memory
pub record NamedCommits : Type 0 where
  pub commits : List Accepted
  pub names : List Term
  pub room : ℕ

-- the commit that changed the triples of these numbers: each once, in order
abbrev pub commit_of : List Term → List Ids → Bool → Accepted
commit_of names changed staged = record { changed = with_each [] (graph_of names changed); staged = staged }

-- the head of a verdict is a version up to this one
abbrev pub IsAtHead : ℕ → Option Verdict → Type 0
IsAtHead n None = Unit {0}
IsAtHead n (Some verdict) = verdict.head ≤ n

-- finds, and looks, with the names among which their terms were looked up
pub record NamedFinds : Type 0 where
  pub names : List Term
  pub finds : List Pattern

pub record NamedLooks : Type 0 where
  pub names : List Term
  pub looks : List (Look Term)
