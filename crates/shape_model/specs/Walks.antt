-- Walks along a path: the pairs of nodes that it joins (SHACL 2.3.1; SPARQL 1.1, 9.1 and 18.4).
use Rattle.std.specs.Prelude.{◌≡◌, ◌≢◌, ◌⊎◌, List, [], ◌∷◌}
use Rattle.rdf_model.specs.declared.term.Term.{Term}
use Rattle.rdf_model.specs.declared.triple.Triple.{Triple}
use Rattle.shape_model.specs.Triples.{Has}
use Rattle.shape_model.specs.Paths.{Path, Predicate, Inverse, Sequence, Alternative, ZeroOrMore, OneOrMore, ZeroOrOne, Paths, Last, Also}

-- from x through the nodes in turn, the last of which is y; where there are none, y is x
abbrev pub Chain : (Term → Term → Type 0) → Term → List Term → Term → Type 0
Chain R x [] y = x ≡ y
Chain R x (z ∷ zs) y = R x z × Chain R z zs y

-- the path joins x to y
abbrev mutual
  pub Walk : List Triple → Path → Term → Term → Type 0
  Walk g (Predicate p) x y = Has g x p y
  Walk g (Inverse p) x y = Walk g p y x
  Walk g (Sequence ps) x y = WalkThrough g ps x y
  Walk g (Alternative ps) x y = WalkSome g ps x y
  Walk g (ZeroOrMore p) x y = (zs : List Term) × Chain (Walk g p) x zs y
  Walk g (OneOrMore p) x y = (zs : List Term) × (zs ≢ []) × Chain (Walk g p) x zs y
  Walk g (ZeroOrOne p) x y = (x ≡ y) ⊎ Walk g p x y

  -- one member after another
  pub WalkThrough : List Triple → Paths → Term → Term → Type 0
  WalkThrough g (Last p) x y = Walk g p x y
  WalkThrough g (Also p ps) x y = (z : Term) × Walk g p x z × WalkThrough g ps z y

  -- any member
  pub WalkSome : List Triple → Paths → Term → Term → Type 0
  WalkSome g (Last p) x y = Walk g p x y
  WalkSome g (Also p ps) x y = Walk g p x y ⊎ WalkSome g ps x y

-- a way, which is one path after another, leads from x to y
abbrev pub Walks : List Triple → List Path → Term → Term → Type 0
Walks g [] x y = x ≡ y
Walks g (p ∷ ps) x y = (z : Term) × Walk g p x z × Walks g ps z y
