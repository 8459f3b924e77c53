-- How the nodes of a shapes graph stand for paths, and the relations that these are (SHACL 2.3.1).
use Rattle.std.specs.Prelude.{◌≡◌, ◌⊎◌, ℕ, List, [], ◌∷◌, codes}
use Rattle.rdf_model.specs.declared.term.Term.{Term}
use Rattle.rdf_model.specs.declared.triple.Triple.{Triple}
use Rattle.shape_model.specs.Paths.{Path, Paths}
use Rattle.shape_model.specs.Paths as paths
use Rattle.shape_model.specs.ShapeSyntax.{PathOf}
use Rattle.shape_model.specs.Walks.{Walk}
use Rattle.shape_syntax.specs.PathDepth.{IsRead}
use Rattle.shape_syntax.specs.PathWays.{AreReadPaths}
use Rattle.plain_terms.specs.declared.relation.Relation.{Relation}
use Rattle.plain_terms.specs.declared.ways.Join.{Join}
use Rattle.plain_terms.specs.declared.ways.Join.TheVariants.{Sequence, Alternative}
use Rattle.plain_terms.specs.declared.ways.PathModifier.{PathModifier}
use Rattle.plain_terms.specs.declared.ways.PathModifier.TheVariants.{Inverse, ZeroOrMore, OneOrMore, ZeroOrOne}
use Rattle.plain_terms.specs.Relations.{Joins, JoinsInTurn, JoinsOnceOrMore, JoinsSomehow, Means}

-- the property of SHACL that modifies a path (SHACL 2.3.1.4 to 2.3.1.7), and the path that it makes
abbrev pub modifier_name : PathModifier → List ℕ
modifier_name Inverse = codes "inversePath"
modifier_name ZeroOrMore = codes "zeroOrMorePath"
modifier_name OneOrMore = codes "oneOrMorePath"
modifier_name ZeroOrOne = codes "zeroOrOnePath"

abbrev pub modified : PathModifier → Path → Path
modified Inverse p = paths.Inverse p
modified ZeroOrMore p = paths.ZeroOrMore p
modified OneOrMore p = paths.OneOrMore p
modified ZeroOrOne p = paths.ZeroOrOne p

-- the path of the paths of a list (SHACL 2.3.1.2, 2.3.1.3)
abbrev pub joined : Join → Paths → Path
joined Sequence ps = paths.Sequence ps
joined Alternative ps = paths.Alternative ps

-- what the property makes of the relation of a path
abbrev pub JoinsModified : PathModifier → Relation → Term → Term → Type 0
JoinsModified Inverse r x y = Joins r y x
JoinsModified ZeroOrMore r x y = (x ≡ y) ⊎ JoinsOnceOrMore r x y
JoinsModified OneOrMore r x y = JoinsOnceOrMore r x y
JoinsModified ZeroOrOne r x y = (x ≡ y) ⊎ Joins r x y

-- one of the relations after the other, or any of them
abbrev pub JoinsBy : Join → List Relation → Term → Term → Type 0
JoinsBy Sequence rs = JoinsInTurn rs
JoinsBy Alternative rs = JoinsSomehow rs

-- the relation is the path
abbrev pub IsOf : List Triple → Path → Relation → Type 0
IsOf g p r = Means (Walk g p) r

-- the node stands for no path that is no deeper than this; no list of such paths has it as its head
abbrev pub IsUnread : List Triple → Term → ℕ → Type 0
IsUnread s n levels = (p : Path) → IsRead s n levels p → ⊥

abbrev pub AreUnread : List Triple → Term → ℕ → Type 0
AreUnread s n levels = (ps : Paths) → AreReadPaths s n levels ps → ⊥

-- the relation is such a path
abbrev pub IsRelationAt : List Triple → List Triple → Term → ℕ → Relation → Type 0
IsRelationAt g s n levels r = (p : Path) × IsRead s n levels p × IsOf g p r

-- that of each node in its place
abbrev pub AreRelationsAt : List Triple → List Triple → List Term → ℕ → List Relation → Type 0
AreRelationsAt g s [] levels [] = Unit {0}
AreRelationsAt g s [] levels (r ∷ rs) = ⊥
AreRelationsAt g s (n ∷ ns) levels [] = ⊥
AreRelationsAt g s (n ∷ ns) levels (r ∷ rs) = IsRelationAt g s n levels r × AreRelationsAt g s ns levels rs

-- the path of the node leads from x to y
abbrev pub LeadsTo : List Triple → List Triple → Term → Term → Term → Type 0
LeadsTo g s n x y = (p : Path) × PathOf s n p × Walk g p x y
