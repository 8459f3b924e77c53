-- What is answered of the bindings in a graph of terms, and why nothing is.
use Rattle.std.specs.Prelude.{◌≡◌, ◌<◌, ◌≤◌, List, length}
use Rattle.rdf_model.specs.declared.term.Term.{Term}
use Rattle.rdf_model.specs.declared.triple.Triple.{Triple}
use Rattle.bgp_query.specs.declared.fault.JoinFault.{JoinFault}
use Rattle.bgp_query.specs.declared.fault.JoinFault.TheVariants.{TooMany, Memory}
use Rattle.bgp_query.specs.declared.pattern.JoinPattern.{JoinPattern}
use Rattle.bgp_query.specs.Bindings.{most_bindings}
use Rattle.bgp_query.specs.TermBindings.{bindings}

-- the rows are the bindings of the patterns in the graph, and they are no more than are answered
pub record AreSelected (graph : List Triple) (patterns : List (JoinPattern Term)) (rows : List (List Term)) : Type 0 where
  pub all : rows ≡ bindings graph patterns
  pub few : length rows ≤ most_bindings

-- there are more than are answered
abbrev pub AreTooMany : List Triple → List (JoinPattern Term) → Type 0
AreTooMany graph patterns = most_bindings < length (bindings graph patterns)

abbrev pub IsJoinFault : JoinFault → List Triple → List (JoinPattern Term) → Type 0
IsJoinFault TooMany graph patterns = AreTooMany graph patterns
IsJoinFault Memory graph patterns = Unit {0}
