-- What changes make of a graph, triple by triple.
use Rattle.std.specs.Prelude.{◌≡◌, Bool, true, false, not, ◌&&◌, ◌||◌, List, [], ◌∷◌, Option, Some, None, if◌then◌else◌}
use Rattle.std.specs.Ordering.{eq_by_cmp}
use Rattle.rdf_model.specs.declared.triple.Triple.{Triple}
use Rattle.rdf_model.specs.declared.change.Change.{Change}
use Rattle.rdf_model.specs.declared.change.Change.TheVariants.{Add, Remove}
use Rattle.rdf_model.specs.Terms.{triple_cmp}
use Rattle.rdf_model.specs.Graphs.{after, differing}
use Rattle.collections.specs.Ordered.{IsAscending, has_item}

abbrev pub has : List Triple → Triple → Bool
has graph t = has_item triple_cmp t graph

-- what one change makes of a triple: it is there, it isn't, or nothing
abbrev pub effect : Change → Triple → Option Bool
effect (Add u) t = if eq_by_cmp triple_cmp u t then Some true else None
effect (Remove u) t = if eq_by_cmp triple_cmp u t then Some false else None

abbrev pub later : Option Bool → Option Bool → Option Bool
later None earlier = earlier
later (Some b) earlier = Some b

-- what the last change to a triple makes of it
abbrev pub last_effect : List Change → Triple → Option Bool
last_effect [] t = None
last_effect (c ∷ cs) t = later (last_effect cs t) (effect c t)

abbrev pub holds_after : Option Bool → Bool → Bool
holds_after None before = before
holds_after (Some b) before = b

abbrev pub LastChangeWins : Type 0
LastChangeWins = (graph : List Triple) (net : List Change) (t : Triple) → IsAscending triple_cmp graph → has (after graph net) t ≡ holds_after (last_effect net t) (has graph t)

abbrev pub GraphsStayAscending : Type 0
GraphsStayAscending = (graph : List Triple) (net : List Change) → IsAscending triple_cmp graph → IsAscending triple_cmp (after graph net)

-- exactly one of the two
abbrev pub differs : Bool → Bool → Bool
differs a b = (a && not b) || (b && not a)

abbrev pub ChangedIsInOneGraph : Type 0
ChangedIsInOneGraph = (g h : List Triple) (t : Triple) → has (differing g h) t ≡ differs (has g t) (has h t)

abbrev pub ChangedAscends : Type 0
ChangedAscends = (g h : List Triple) → IsAscending triple_cmp g → IsAscending triple_cmp (differing g h)
