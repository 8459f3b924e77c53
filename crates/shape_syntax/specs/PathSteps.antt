-- What shows that a node stands for a path or for a list of paths, once those below it are known.
use Rattle.std.specs.Prelude.{◌≡◌, ◌⊎◌, ◌↔◌, ◌≤◌, ◌++◌, ◌∷◌, [], ℕ, List, length, codes}
use Rattle.std.specs.List.{Contains}
use Rattle.rdf_model.specs.declared.term.Term.{Term}
use Rattle.rdf_model.specs.declared.triple.Triple.{Triple}
use Rattle.shape_model.specs.Vocabulary.{sh}
use Rattle.shape_model.specs.Triples.{Has, IsBlank, IsIri}
use Rattle.shape_model.specs.Paths.{Paths}
use Rattle.shape_model.specs.ShapeSyntax.{IsCell, IsListEnd, PathsOf}
use Rattle.shape_syntax.specs.declared.claim.Claim.{Claim}
use Rattle.shape_syntax.specs.declared.claim.Claim.TheVariants as claims
use Rattle.shape_syntax.specs.PathNodes.{IsPath}

-- an IRI is a path; a blank node is known to be one where it is among those that were gathered
abbrev pub IsKnown : List Term → Term → Type 0
IsKnown paths n = IsIri n ⊎ Contains paths n

-- a list of at least two paths: the first is known, and so is the list of the others
abbrev pub IsSeveral : List Triple → List Term → List Term → Term → Type 0
IsSeveral s paths lists n = (m : Term) × (k : Term) × IsCell s n m k × IsKnown paths m × Contains lists k

-- a list of paths
abbrev pub ShowsList : List Triple → List Term → List Term → Term → Type 0
ShowsList s paths lists n = (m : Term) × (k : Term) × IsCell s n m k × IsKnown paths m × (IsListEnd s k ⊎ Contains lists k)

-- the property makes another path of its value, a path (SHACL 2.3.1.4 to 2.3.1.7)
abbrev pub ModifiesPath : Term → Type 0
ModifiesPath p = (p ≡ sh (codes "inversePath")) ⊎ (p ≡ sh (codes "zeroOrMorePath")) ⊎ (p ≡ sh (codes "oneOrMorePath")) ⊎ (p ≡ sh (codes "zeroOrOnePath"))

-- a triple with this property and this value makes its subject a path, if it is the only one
abbrev pub LeadsOn : List Triple → List Term → List Term → Term → Term → Type 0
LeadsOn s paths lists p m = (ModifiesPath p × IsKnown paths m) ⊎ ((p ≡ sh (codes "alternativePath")) × IsSeveral s paths lists m)

-- the one triple of the node has this property and this value
abbrev pub IsAlone : List Triple → Term → Term → Term → Type 0
IsAlone s n p v = Has s n p v × ((q w : Term) → Has s n q w → (q ≡ p) × (w ≡ v))

abbrev pub ShowsPath : List Triple → List Term → List Term → Term → Type 0
ShowsPath s paths lists n = IsSeveral s paths lists n ⊎ ((p : Term) × (m : Term) × IsAlone s n p m × LeadsOn s paths lists p m)

-- what is asked of a node: whether it is a blank node that stands for a path, or the head of a list of paths
abbrev pub Stands : List Triple → Claim → Type 0
Stands s (claims.Path n) = IsBlank n × IsPath s n
Stands s (claims.List n) = (ps : Paths) × PathsOf s n ps

-- what is known shows it
abbrev pub Shows : List Triple → List Term → List Term → Claim → Type 0
Shows s paths lists (claims.Path n) = IsBlank n × ShowsPath s paths lists n
Shows s paths lists (claims.List n) = ShowsList s paths lists n

-- the node is a cell, or the subject of one triple alone
abbrev pub HasCell : List Triple → Term → Type 0
HasCell s n = (m : Term) × (k : Term) × IsCell s n m k

abbrev pub HasOneTriple : List Triple → Term → Type 0
HasOneTriple s n = (p : Term) × (v : Term) × IsAlone s n p v

-- something may show it
abbrev pub MayStand : List Triple → Claim → Type 0
MayStand s (claims.Path n) = IsBlank n × (HasCell s n ⊎ HasOneTriple s n)
MayStand s (claims.List n) = HasCell s n

-- it is known
abbrev pub Knows : List Term → List Term → Claim → Type 0
Knows paths lists (claims.Path n) = Contains paths n
Knows paths lists (claims.List n) = Contains lists n

abbrev pub node_of : Claim → Term
node_of (claims.Path n) = n
node_of (claims.List n) = n

-- all that is known is so
abbrev pub AreSound : List Triple → List Term → List Term → Type 0
AreSound s paths lists = (c : Claim) → Knows paths lists c → Stands s c

-- a node is in the list, with the nodes that were there
abbrev pub Adds : List Term → Term → List Term → Type 0
Adds old n new = (m : Term) → Contains new m ↔ (Contains old m ⊎ (n ≡ m))

-- A claim was asked: it was shown and is known now, or was not and is left.
abbrev pub WasAsked : List Triple → Claim → List Term → List Term → List Term → List Term → List Claim → List Claim → Type 0
WasAsked s c paths lists new_paths new_lists left new_left =
    (Shows s paths lists c × ((d : Claim) → Knows new_paths new_lists d ↔ (Knows paths lists d ⊎ (c ≡ d))) × (new_left ≡ left))
    ⊎ ((Shows s paths lists c → ⊥) × (new_paths ≡ paths) × (new_lists ≡ lists) × (new_left ≡ left ++ c ∷ []))

-- So many claims were asked, in turn.
pub record WereAsked (s : List Triple) (n : ℕ) (asked : List Claim) (paths lists new_paths new_lists : List Term) (left : List Claim) : Type 0 where
  pub sound : AreSound s paths lists → AreSound s new_paths new_lists
  pub kept : (c : Claim) → Knows paths lists c → Knows new_paths new_lists c
  pub each : (c : Claim) → Contains asked c → Knows new_paths new_lists c ⊎ Contains left c
  pub fewer : length left ≤ n
  -- where all are left, none was shown
  pub still : length left ≡ n → (new_paths ≡ paths) × (new_lists ≡ lists) × ((c : Claim) → Contains asked c → Shows s paths lists c → ⊥)
