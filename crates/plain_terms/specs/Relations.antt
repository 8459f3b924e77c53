-- Relations between nodes, and those that paths are (SHACL 2.3.1; SPARQL 1.1, 18.4).
use Rattle.std.specs.Prelude.{◌≡◌, ◌≢◌, ◌⊎◌, ◌↔◌, List, [], ◌∷◌, IsTrue}
use Rattle.std.specs.List.{Contains}
use Rattle.rdf_model.specs.declared.term.Term.{Term}
use Rattle.shape_model.specs.Walks.{Chain}
use Rattle.plain_terms.specs.declared.relation.Relation.{Relation}
use Rattle.plain_terms.specs.declared.relation.Pair.{Pair}
use Rattle.plain_terms.specs.Pairs.{HasPair, Through}

-- the relation joins x to y
abbrev pub Joins : Relation → Term → Term → Type 0
Joins r x y = HasPair r.pairs x y ⊎ (IsTrue r.is_reflexive × (x ≡ y))

-- it joins just the nodes of which R holds
pub record Means (R : Term → Term → Type 0) (r : Relation) : Type 0 where
  pub joins : (x y : Term) → Joins r x y ↔ R x y

-- one relation after the other, in turn; where there are none, each node is joined to itself
abbrev pub JoinsInTurn : List Relation → Term → Term → Type 0
JoinsInTurn [] x y = x ≡ y
JoinsInTurn (r ∷ rs) x y = (z : Term) × Joins r x z × JoinsInTurn rs z y

-- any of them
abbrev pub JoinsSomehow : List Relation → Term → Term → Type 0
JoinsSomehow rs x y = (r : Relation) × Contains rs r × Joins r x y

-- a chain of one step or more
abbrev pub JoinsOnceOrMore : Relation → Term → Term → Type 0
JoinsOnceOrMore r x y = (zs : List Term) × (zs ≢ []) × Chain (Joins r) x zs y

-- a pair of one relation and then the other, of which not both have no step
abbrev pub Follows : Relation → Relation → Pair → Type 0
Follows r s c = Through r.pairs s.pairs c ⊎ (IsTrue s.is_reflexive × Contains r.pairs c) ⊎ (IsTrue r.is_reflexive × Contains s.pairs c)
