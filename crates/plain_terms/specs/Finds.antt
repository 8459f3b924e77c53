-- Lists that have just the items of which something holds.
use Rattle.std.specs.Prelude.{◌≡◌, ◌↔◌, ◌&&◌, if◌then◌else◌, List, Option, Some, None}
use Rattle.std.specs.List.{Contains}
use Rattle.rdf_model.specs.declared.term.Term.{Term}
use Rattle.rdf_model.specs.declared.triple.Triple.{Triple}
use Rattle.rdf_model.specs.Matching.{same_term}
use Rattle.shape_model.specs.ShapeSyntax.{ListOf}
use Rattle.shape_model.specs.Triples.{Has, IsMember}
use Rattle.shape_model.specs.Walks.{Chain}

-- the list has just the items of which P holds, in any order, maybe several times
pub record Finds {X : Type 0} (P : X → Type 0) (items : List X) : Type 0 where
  pub members : (x : X) → Contains items x ↔ P x

-- it holds of y with some item of the list
abbrev pub WithSome : {X Y : Type 0} → List X → (X → Y → Type 0) → Y → Type 0
WithSome {X} xs P y = (x : X) × Contains xs x × P x y

-- the node has some value of p
abbrev pub HasSome : List Triple → Term → Term → Type 0
HasSome g p x = (o : Term) × Has g x p o

-- the object of a triple with the subject and the predicate; the subject of one with the predicate, and with the predicate and
-- the object
abbrev pub object_in : Term → Term → Triple → Option Term
object_in x p t = if same_term t.subject x && same_term t.predicate p then Some t.object else None

abbrev pub subject_in : Term → Triple → Option Term
subject_in p t = if same_term t.predicate p then Some t.subject else None

abbrev pub subject_with : Term → Term → Triple → Option Term
subject_with p o t = if same_term t.predicate p && same_term t.object o then Some t.subject else None

-- a chain of values of p leads from x to the node y
abbrev pub IsBelow : List Triple → Term → Term → Term → Type 0
IsBelow g p y x = (zs : List Term) × Chain (λ a b. Has g a p b) x zs y

-- the triple has one of the nodes as value of p, at a node that isn't among them
abbrev pub LeadsBelow : Term → List Term → Triple → Type 0
LeadsBelow p nodes t = (t.predicate ≡ p) × Contains nodes t.object × (Contains nodes t.subject → ⊥)

-- both, if there are both
abbrev pub option_pair : {X Y : Type 0} → Option X → Option Y → Option (X × Y)
option_pair None y = None
option_pair (Some x) None = None
option_pair (Some x) (Some y) = Some (x, y)

-- a member of the list at the head
abbrev pub IsListed : List Triple → Term → Term → Type 0
IsListed g head m = (members : List Term) × ListOf g head members × IsMember members m
