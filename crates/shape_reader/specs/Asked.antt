-- Which patterns the maker is asked for: those of the shapes, one after another in the order of their nodes.
use Rattle.std.specs.Prelude.{◌≡◌, ◌⊎◌, List, [], ◌∷◌, ◌++◌, Some}
use Rattle.std.specs.List.{Contains}
use Rattle.std.specs.declared.cmp.Ordering.TheVariants.{Less}
use Rattle.collections.specs.Listings.{IsListing}
use Rattle.collections.specs.Ordered.{IsAscending}
use Rattle.literal_order.specs.Texts.{string_value}
use Rattle.outside.specs.Faults.{Request}
use Rattle.outside.specs.declared.maker.MakeFault.{MakeFault}
use Rattle.outside.specs.declared.maker.MakeFault.TheVariants as make
use Rattle.rdf_model.specs.declared.term.Term.{Term}
use Rattle.rdf_model.specs.declared.triple.Triple.{Triple}
use Rattle.rdf_model.specs.Terms.{term_cmp}
use Rattle.shape_properties.specs.declared.property.ShapeProperty.TheVariants as vocabulary
use Rattle.shape_properties.specs.Syntax.{HasProperty}
use Rattle.shape_reader.specs.declared.fault.CompileFault.{CompileFault}
use Rattle.shape_reader.specs.declared.fault.CompileFault.TheVariants as compile_faults
use Rattle.shape_reader.specs.declared.fault.ShapeFault.{ShapeFault}
use Rattle.shape_reader.specs.declared.fault.ShapeFault.TheVariants as faults
use Rattle.shape_reader.specs.Parts.{IsFlagsText}

-- the node has a sh:pattern, and so is a shape (SHACL 2.1, 4.4.3)
abbrev pub HasPattern : List Triple → Term → Type 0
HasPattern s n = (v : Term) × HasProperty s n vocabulary.Pattern v

-- its pattern with its flags, as bytes
abbrev pub IsRequest : List Triple → Term → Request → Type 0
IsRequest s n request = (v : Term) × HasProperty s n vocabulary.Pattern v × (string_value v ≡ Some request.0) × IsFlagsText s n request.1

-- the patterns of these nodes, in turn
abbrev pub AreRequests : List Triple → List Term → List Request → Type 0
AreRequests s [] [] = Unit {0}
AreRequests s [] (r ∷ rs) = ⊥
AreRequests s (n ∷ ns) [] = ⊥
AreRequests s (n ∷ ns) (r ∷ rs) = IsRequest s n r × AreRequests s ns rs

-- The first of the shapes that have a sh:pattern, in the order of their nodes: before one of them none is left out.
pub record AreFirst (s : List Triple) (nodes : List Term) : Type 0 where
  pub ascending : IsAscending term_cmp nodes
  pub members : (n : Term) → Contains nodes n → HasPattern s n
  pub before : (n m : Term) → HasPattern s n → Contains nodes m → term_cmp n m ≡ Less → Contains nodes n

-- The maker was asked for the patterns of these shapes in turn, which are the first, and for nothing else: what it had been
-- asked for is old before, and new after.
abbrev pub AsksFor : List Triple → List Term → List Request → List Request → Type 0
AsksFor s nodes old new = AreFirst s nodes × (requests : List Request) × AreRequests s nodes requests × (new ≡ old ++ requests)

-- for those of all shapes of the graph
abbrev pub AsksAll : List Triple → List Request → List Request → Type 0
AsksAll s old new = (nodes : List Term) × AsksFor s nodes old new × ((n : Term) → HasPattern s n → Contains nodes n)

-- for those of the shapes up to this one, of which it was asked last
abbrev pub AsksUpTo : List Triple → Term → List Request → List Request → Type 0
AsksUpTo s n old new = (nodes : List Term) × AsksFor s (nodes ++ n ∷ []) old new

-- for those of the first shapes, however many
abbrev pub AsksSome : List Triple → List Request → List Request → Type 0
AsksSome s old new = (nodes : List Term) × AsksFor s nodes old new

-- what was asked where the shapes of a well-formed graph were not compiled
abbrev pub AsksBefore : List Triple → CompileFault → List Request → List Request → Type 0
AsksBefore s (compile_faults.Pattern n) old new = AsksUpTo s n old new
AsksBefore s compile_faults.Memory old new = AsksSome s old new

-- what was asked where no shapes were read; of a graph that breaks a rule no pattern is asked for
abbrev pub AsksBeforeFault : List Triple → ShapeFault → List Request → List Request → Type 0
AsksBeforeFault s (faults.Rule r) old new = new ≡ old
AsksBeforeFault s (faults.Pattern n) old new = AsksUpTo s n old new
AsksBeforeFault s faults.Memory old new = AsksSome s old new

-- What is asked for one node.

-- its pattern joined
abbrev pub AsksThat : List Triple → Term → List Request → List Request → Type 0
AsksThat s n old new = (request : Request) × IsRequest s n request × (new ≡ old ++ request ∷ [])

-- .. if it has one
abbrev pub AsksIfAny : List Triple → Term → List Request → List Request → Type 0
AsksIfAny s n old new = ((HasPattern s n → ⊥) × (new ≡ old)) ⊎ AsksThat s n old new

-- .. or may have
abbrev pub AsksMaybe : List Triple → Term → List Request → List Request → Type 0
AsksMaybe s n old new = (new ≡ old) ⊎ AsksThat s n old new

-- where no pattern of the node was made
abbrev pub AsksInVain : List Triple → Term → MakeFault → List Request → List Request → Type 0
AsksInVain s n make.Refused old new = AsksThat s n old new
AsksInVain s n make.Memory old new = AsksMaybe s n old new

-- where the node's shape was not compiled
abbrev pub AsksAt : List Triple → Term → CompileFault → List Request → List Request → Type 0
AsksAt s n (compile_faults.Pattern m) old new = (m ≡ n) × AsksThat s n old new
AsksAt s n compile_faults.Memory old new = AsksMaybe s n old new

-- the patterns of those of the nodes that have one
abbrev pub AsksAmong : List Triple → List Term → List Request → List Request → Type 0
AsksAmong s passed old new = (nodes : List Term) × IsListing term_cmp (λ n. HasPattern s n × Contains passed n) nodes
    × (requests : List Request) × AreRequests s nodes requests × (new ≡ old ++ requests)
