-- Commits as they are kept, and what they stand for.
use Rattle.std.specs.Prelude.{List}
use Rattle.rdf_model.specs.declared.term.Term.{Term}
use Rattle.rdf_model.specs.Numbers.{AreNumbered}
use Rattle.store_model.specs.declared.commit.Accepted.{Accepted}
use Rattle.snapshot_store.specs.declared.kept.KeptCommit.{KeptCommit}
use Rattle.snapshot_store.specs.Named.{commit_of}

-- what a commit tells, by the names of its numbers
abbrev pub told : List Term → KeptCommit → Accepted
told names k = commit_of names k.changed k.staged

-- each of its numbers has a term
abbrev pub HasTerms : List Term → KeptCommit → Type 0
HasTerms names k = AreNumbered names k.changed
