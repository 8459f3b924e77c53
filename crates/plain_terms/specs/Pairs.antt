-- Pairs of nodes, as they are made of triples and of other pairs.
use Rattle.std.specs.Prelude.{◌≡◌, List}
use Rattle.std.specs.List.{Contains}
use Rattle.rdf_model.specs.declared.term.Term.{Term}
use Rattle.rdf_model.specs.declared.triple.Triple.{Triple}
use Rattle.shape_model.specs.Walks.{Chain}
use Rattle.plain_terms.specs.Finds.{WithSome}
use Rattle.plain_terms.specs.declared.relation.Pair.{Pair}

-- the pair stands in the list
abbrev pub HasPair : List Pair → Term → Term → Type 0
HasPair pairs x y = Contains pairs (record { from = x; to = y })

-- the pair of a triple with the predicate p
abbrev pub FromTriple : Term → Triple → Pair → Type 0
FromTriple p t c = (t.predicate ≡ p) × (c ≡ record { from = t.subject; to = t.object })

-- the pair the other way round
abbrev pub Reversed : Pair → Pair → Type 0
Reversed a c = c ≡ record { from = a.to; to = a.from }

-- from the start of one pair to the end of another, where they meet; and of some pairs of two lists
abbrev pub Linked : Pair → Pair → Pair → Type 0
Linked a b c = (a.to ≡ b.from) × (c ≡ record { from = a.from; to = b.to })

abbrev pub Through : List Pair → List Pair → Pair → Type 0
Through pairs others = WithSome pairs (λ a. WithSome others (Linked a))

-- the end of a pair that begins at the node
abbrev pub EndOf : Term → Pair → Term → Type 0
EndOf x a y = (a.from ≡ x) × (y ≡ a.to)

-- a chain of pairs leads from x to y
abbrev pub IsReached : List Pair → Term → Term → Type 0
IsReached pairs x y = (zs : List Term) × Chain (HasPair pairs) x zs y

-- a pair leads on from one of the nodes, to one that isn't among them
abbrev pub LeadsFurther : List Term → Pair → Type 0
LeadsFurther nodes a = Contains nodes a.from × (Contains nodes a.to → ⊥)

-- from the start of the pair to a node that a chain of pairs reaches from its end
abbrev pub Reaching : List Pair → Pair → Pair → Type 0
Reaching pairs a c = (c.from ≡ a.from) × IsReached pairs a.to c.to
