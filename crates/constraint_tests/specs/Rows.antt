-- A row of a table by the numbers of its terms.
use Rattle.std.specs.Prelude.{◌<◌, ℕ, List, length}
use Rattle.std.specs.List.{Contains}
use Rattle.rdf_model.specs.declared.ids.Ids.{Ids}
use Rattle.rdf_model.specs.declared.term.Term.{Term}
use Rattle.rdf_model.specs.Numbers.{AreNumbered, IsNumbering}
use Rattle.component_rows.specs.Nodes.{AreNodes}

-- the terms by their numbers, the triples of the graph, the source shape, the focus node, the parameter's value, the value
-- nodes, the other terms, and those each once
pub record Row : Type 0 where
  pub names : List Term
  pub graph : List Ids
  pub source : Term
  pub focus : ℕ
  pub parameter : ℕ
  pub values : List ℕ
  pub others : List ℕ
  pub members : List ℕ

-- no two numbers have one term, each number has one, and the value nodes and the members are ascending
pub record IsRow (names : List Term) (graph : List Ids) (focus parameter : ℕ) (values others members : List ℕ) : Type 0 where
  pub numbering : IsNumbering names
  pub graph_numbered : AreNumbered names graph
  pub focus_named : focus < length names
  pub parameter_named : parameter < length names
  pub nodes : AreNodes names values
  pub others_named : (n : ℕ) → Contains others n → n < length names
  pub member_nodes : AreNodes names members
