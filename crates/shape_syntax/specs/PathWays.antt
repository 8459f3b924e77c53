-- How a blank node stands for a path.
use Rattle.std.specs.Prelude.{◌<◌, ◌≤◌, ℕ, List, [], ◌∷◌, codes}
use Rattle.rdf_model.specs.declared.term.Term.{Term}
use Rattle.rdf_model.specs.declared.triple.Triple.{Triple}
use Rattle.shape_model.specs.Paths.{Path, Inverse, Sequence, Alternative, ZeroOrMore, OneOrMore, ZeroOrOne, Paths, AreSeveral}
use Rattle.shape_model.specs.ShapeSyntax.{PathsOf}
use Rattle.shape_syntax.specs.declared.way.Join.{Join}
use Rattle.shape_syntax.specs.declared.way.Join.TheVariants as joins
use Rattle.shape_syntax.specs.declared.way.PathModifier.{PathModifier}
use Rattle.shape_syntax.specs.declared.way.PathModifier.TheVariants as modifiers
use Rattle.shape_syntax.specs.PathDepth.{IsRead, deepest_of}

-- the property of SHACL that modifies a path (SHACL 2.3.1.4 to 2.3.1.7), and the path that it makes
abbrev pub modifier_name : PathModifier → List ℕ
modifier_name modifiers.Inverse = codes "inversePath"
modifier_name modifiers.ZeroOrMore = codes "zeroOrMorePath"
modifier_name modifiers.OneOrMore = codes "oneOrMorePath"
modifier_name modifiers.ZeroOrOne = codes "zeroOrOnePath"

abbrev pub modified : PathModifier → Path → Path
modified modifiers.Inverse p = Inverse p
modified modifiers.ZeroOrMore p = ZeroOrMore p
modified modifiers.OneOrMore p = OneOrMore p
modified modifiers.ZeroOrOne p = ZeroOrOne p

abbrev pub joined : Join → Paths → Path
joined joins.Sequence ps = Sequence ps
joined joins.Alternative ps = Alternative ps

-- the node is the head of a list of at least two paths
abbrev pub IsPathList : List Triple → Term → Type 0
IsPathList s n = (ps : Paths) × AreSeveral ps × PathsOf s n ps

-- no member of the list is deeper than this, or one is
abbrev pub AreReadPaths : List Triple → Term → ℕ → Paths → Type 0
AreReadPaths s n levels ps = AreSeveral ps × PathsOf s n ps × (deepest_of ps ≤ levels)

abbrev pub AreDeep : List Triple → Term → ℕ → Type 0
AreDeep s n levels = (ps : Paths) × AreSeveral ps × PathsOf s n ps × (levels < deepest_of ps)

-- each node stands for the path in its place
abbrev pub AreRead : List Triple → List Term → ℕ → List Path → Type 0
AreRead s [] levels [] = Unit {0}
AreRead s [] levels (p ∷ ps) = ⊥
AreRead s (n ∷ ns) levels [] = ⊥
AreRead s (n ∷ ns) levels (p ∷ ps) = IsRead s n levels p × AreRead s ns levels ps
