-- A shapes graph with what was asked of it, and what is said in it by a property of SHACL.
use Rattle.std.specs.Prelude.{List}
use Rattle.collections.specs.Ordered.{IsAscending}
use Rattle.rdf_model.specs.declared.term.Term.{Term}
use Rattle.rdf_model.specs.declared.triple.Triple.{Triple}
use Rattle.rdf_model.specs.Terms.{triple_cmp}
use Rattle.shape_properties.specs.declared.property.ShapeProperty.{ShapeProperty}
use Rattle.shape_rules.specs.declared.rule_row.RuleRow.{RuleRow}
use Rattle.shape_sizes.specs.declared.survey.Survey.{Survey}
use Rattle.shape_sizes.specs.Surveys.{IsSurvey}

-- the graph ascends, and this was asked of it
pub record IsSurveyed (s : List Triple) (asked : Survey) : Type 0 where
  pub graph : IsAscending triple_cmp s
  pub survey : IsSurvey s asked

-- in the graph the node has this value of the property
pub record Stated : Type 0 where
  pub graph : List Triple
  pub node : Term
  pub property : ShapeProperty
  pub value : Term

abbrev pub stated : List Triple → ShapeProperty → Triple → Stated
stated s p t = record { graph = s; node = t.subject; property = p; value = t.object }

-- the rows of what is said, by rules of a value
abbrev pub RowOf : (List Triple → Term → ShapeProperty → Term → RuleRow → Type 0) → Stated → RuleRow → Type 0
RowOf Row said r = Row said.graph said.node said.property said.value r
