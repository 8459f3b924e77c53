-- References between shapes, which lead from no shape to itself (SHACL 3.4.3; rule 38), and how many may follow one another
-- (rule 41).
use Rattle.std.specs.Prelude.{◌≢◌, ◌⊎◌, ◌↔◌, List}
use Rattle.std.specs.declared.cmp.Ordering.TheVariants.{Greater}
use Rattle.rdf_model.specs.declared.term.Term.{Term}
use Rattle.rdf_model.specs.declared.triple.Triple.{Triple}
use Rattle.rdf_model.specs.Terms.{term_cmp}
use Rattle.shape_model.specs.Limits.{levels_limit}
use Rattle.shape_model.specs.Readings.{Sibling}
use Rattle.shape_references.specs.declared.bundle.Bundle.{Bundle}
use Rattle.shape_references.specs.Bundles.{IsBound}
use Rattle.shape_references.specs.Chains.{HasChain, IsOnLoop}
use Rattle.shape_properties.specs.Table.{role}
use Rattle.shape_properties.specs.Syntax.{SomeValue, Takes}

-- b is a value of a shape-expecting parameter of a, a member of a list that is a value of a list-taking one, or a
-- sibling of a (SHACL 4.7.3); whether a is deactivated doesn't matter
abbrev pub NamesShape : List Triple → Term → Term → Type 0
NamesShape s a b = SomeValue s a (λ p v. Takes s (role p) v b) ⊎ Sibling s a b

-- a chain of references leads from the shape to itself
abbrev pub IsRecursive : List Triple → Term → Type 0
IsRecursive s n = IsOnLoop (NamesShape s) n

-- no recursive shape comes before it
abbrev pub IsLeastRecursive : List Triple → Term → Type 0
IsLeastRecursive s n = IsRecursive s n × ((m : Term) → IsRecursive s m → term_cmp n m ≢ Greater)

-- a chain of more references than may follow one another leads from the shape
abbrev pub HasLongChain : List Triple → Term → Type 0
HasLongChain s n = HasChain (NamesShape s) levels_limit n

-- no such shape comes before it
abbrev pub IsLeastWithLongChain : List Triple → Term → Type 0
IsLeastWithLongChain s n = HasLongChain s n × ((m : Term) → HasLongChain s m → term_cmp n m ≢ Greater)

-- the bundles have just the references of the graph
abbrev pub AreReferences : List Triple → List Bundle → Type 0
AreReferences s references = (a b : Term) → IsBound references a b ↔ NamesShape s a b
