-- Graphs as ascending lists, and what changes make of them.
use Rattle.std.specs.Prelude.{not, List, [], ◌∷◌}
use Rattle.std.specs.List.{filter}
use Rattle.rdf_model.specs.declared.triple.Triple.{Triple}
use Rattle.rdf_model.specs.declared.change.Change.{Change}
use Rattle.rdf_model.specs.declared.change.Change.TheVariants.{Add, Remove}
use Rattle.rdf_model.specs.Terms.{triple_cmp}
use Rattle.collections.specs.Ordered.{with_item, without_item, has_item}

-- the graph after one change, and after each in turn
abbrev pub changed : List Triple → Change → List Triple
changed graph (Add t) = with_item triple_cmp t graph
changed graph (Remove t) = without_item triple_cmp t graph

abbrev pub after : List Triple → List Change → List Triple
after graph [] = graph
after graph (c ∷ cs) = after (changed graph c) cs

-- the triples of one graph that another lacks
abbrev pub lacking : List Triple → List Triple → List Triple
lacking g h = filter (λ t. not (has_item triple_cmp t h)) g

-- each of the triples put into its place
abbrev pub with_each : List Triple → List Triple → List Triple
with_each g [] = g
with_each g (t ∷ ts) = with_each (with_item triple_cmp t g) ts

-- the triples that are in exactly one of two graphs
abbrev pub differing : List Triple → List Triple → List Triple
differing g h = with_each (lacking g h) (lacking h g)
