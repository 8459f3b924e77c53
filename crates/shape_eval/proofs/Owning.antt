-- The results of the constraints of a shape, one after another.
use Rattle.std.proofs.Common.{ℕ, List}
use Rattle.rdf_model.specs.declared.term.Term.{Term}
use Rattle.rdf_model.specs.declared.triple.Triple.{Triple}
use Rattle.rdf_model.specs.declared.ids.Ids.{Ids}
use Rattle.shape_model.specs.declared.result_row.ResultRow.{ResultRow}
use Rattle.shape_model.specs.Components.{Finding, RowsOf}
use Rattle.component_rows.specs.Listed.{Lists, at_nodes, with_list}
use Rattle.component_rows.specs.Nodes.{HasNode}
use Rattle.shape_ast.specs.declared.component.ListComponent.{ListComponent}
use Rattle.shape_ast.specs.declared.component.ListComponent.TheVariants as by_list
use Rattle.shape_ast.specs.declared.constraint.Constraint.{Constraint}
use Rattle.shape_ast.specs.declared.constraint.Constraint.TheVariants.{ByTerm, ByList, ByShape, ByShapes}
use Rattle.shape_ast.specs.Components.{list_component}
use Rattle.shape_ast.specs.Readings.{HoldsOfConstraint, parameter}
use Rattle.shape_eval.specs.Around.{around}

-- a component of a list asks for no more than the value nodes
pub list_around : (terms : List Term) (ids : List Ids) (s : List Triple) (n : ℕ) (values : List ℕ) (f : ℕ) (k : ListComponent) (ms : List Term) (q : Term) (row : Finding → ResultRow) (rows : List ResultRow)
    → Lists (RowsOf (list_component k) (at_nodes (HasNode terms values)) (with_list ms) q row) rows → Lists (RowsOf (list_component k) (around terms ids s n values f) (with_list ms) q row) rows
list_around terms ids s n values f by_list.LanguageIn ms q row rows h = h
list_around terms ids s n values f by_list.In ms q row rows h = h

-- what holds of each number of a constraint holds of its parameter
pub parameter_holds : (Q : ℕ → Type 0) (count : ℕ) (k : Constraint ℕ) → HoldsOfConstraint Q count k → Q (parameter k)
parameter_holds Q count (ByTerm component q) h = h
parameter_holds Q count (ByList component q members) h = h.0
parameter_holds Q count (ByShape component q shape) h = h.0
parameter_holds Q count (ByShapes component q shapes) h = h.0
