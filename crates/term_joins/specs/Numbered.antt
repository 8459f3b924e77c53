-- Patterns by the numbers of their terms.
use Rattle.std.specs.Prelude.{◌≡◌, ◌<◌, ◌⊎◌, ℕ, List, length}
use Rattle.std.specs.List.{AllZip, Contains}
use Rattle.rdf_model.specs.declared.term.Term.{Term}
use Rattle.rdf_model.specs.Numbers.{term_at}
use Rattle.bgp_query.specs.declared.pattern.JoinPattern.{JoinPattern}
use Rattle.bgp_query.specs.declared.pattern.Part.{Part}
use Rattle.bgp_query.specs.declared.pattern.Part.TheVariants.{Variable, Constant}

-- the same part by number: the same variable, or a number of its term
abbrev pub IsPartAt : List Term → Part Term → Part ℕ → Type 0
IsPartAt terms (Variable v) (Variable w) = v ≡ w
IsPartAt terms (Variable v) (Constant n) = ⊥
IsPartAt terms (Constant x) (Variable w) = ⊥
IsPartAt terms (Constant x) (Constant n) = (n < length terms) × (term_at terms n ≡ x)

-- the same pattern, and the same patterns one by one
pub record IsPatternAt (terms : List Term) (p : JoinPattern Term) (q : JoinPattern ℕ) : Type 0 where
  pub subject : IsPartAt terms p.subject q.subject
  pub predicate : IsPartAt terms p.predicate q.predicate
  pub object : IsPartAt terms p.object q.object

abbrev pub ArePatternsAt : List Term → List (JoinPattern Term) → List (JoinPattern ℕ) → Type 0
ArePatternsAt terms ps qs = AllZip (IsPatternAt terms) ps qs

-- the part is a term without a number, and one of the pattern is
abbrev pub IsUnnamed : List Term → Part Term → Type 0
IsUnnamed terms (Variable v) = ⊥
IsUnnamed terms (Constant x) = Contains terms x → ⊥

abbrev pub HasUnnamed : List Term → JoinPattern Term → Type 0
HasUnnamed terms p = IsUnnamed terms p.subject ⊎ (IsUnnamed terms p.predicate ⊎ IsUnnamed terms p.object)

abbrev pub HaveUnnamed : List Term → List (JoinPattern Term) → Type 0
HaveUnnamed terms ps = (p : JoinPattern Term) × Contains ps p × HasUnnamed terms p

-- the numbers of a row, and of rows, have terms
abbrev pub AreBelow : List Term → List ℕ → Type 0
AreBelow terms xs = (n : ℕ) → Contains xs n → n < length terms

abbrev pub AreRowsBelow : List Term → List (List ℕ) → Type 0
AreRowsBelow terms rows = (xs : List ℕ) → Contains rows xs → AreBelow terms xs
