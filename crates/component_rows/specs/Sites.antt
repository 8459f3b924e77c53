-- Where a component is asked: a value of its parameter at a shape, a focus node and the value nodes there.
use Rattle.std.specs.Prelude.{◌<◌, ℕ, List, length}
use Rattle.rdf_model.specs.declared.term.Term.{Term}
use Rattle.rdf_model.specs.Numbers.{IsNumbering, term_at}
use Rattle.shape_model.specs.declared.component.Component.{Component}
use Rattle.shape_model.specs.declared.result_row.ResultRow.{ResultRow}
use Rattle.shape_model.specs.Components.{Finding, Surroundings, row_of}
use Rattle.shape_model.specs.Readings.{Reading}
use Rattle.component_rows.specs.Listed.{ListsRows, at_nodes}
use Rattle.component_rows.specs.Nodes.{AreNodes, HasNode}

-- the terms by their numbers, the source shape, the numbers of the parameter's value and of the focus node, and those
-- of the value nodes
pub record Spot : Type 0 where
  pub terms : List Term
  pub source : Term
  pub parameter : ℕ
  pub focus : ℕ
  pub values : List ℕ

abbrev pub spot : List Term → Term → ℕ → ℕ → List ℕ → Spot
spot terms source parameter focus values = record { terms = terms; source = source; parameter = parameter; focus = focus; values = values }

-- no two numbers have one term, each number here has one, and the value nodes are ascending
pub record IsSpot (s : Spot) : Type 0 where
  pub numbering : IsNumbering s.terms
  pub parameter_named : s.parameter < length s.terms
  pub focus_named : s.focus < length s.terms
  pub nodes : AreNodes s.terms s.values

-- a result of the component there
abbrev pub site_row : Component → Spot → Finding → ResultRow
site_row c s = row_of c s.source (term_at s.terms s.focus) (term_at s.terms s.parameter)

-- surroundings in which the value nodes there alone are told
abbrev pub at_values : Spot → Surroundings
at_values s = at_nodes (HasNode s.terms s.values)

-- just the results of the component there, each once, in order
abbrev pub ListsAt : Component → Surroundings → Reading → Spot → List ResultRow → Type 0
ListsAt c t y s rows = ListsRows c t y s.source (term_at s.terms s.focus) (term_at s.terms s.parameter) rows
