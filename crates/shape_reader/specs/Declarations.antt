-- What the parts of a shape are read from.
use Rattle.std.specs.Prelude.{◌≡◌, ◌↔◌, List}
use Rattle.std.specs.List.{Contains}
use Rattle.collections.specs.Ordered.{IsAscending}
use Rattle.rdf_model.specs.declared.term.Term.{Term}
use Rattle.rdf_model.specs.declared.triple.Triple.{Triple}
use Rattle.rdf_model.specs.Terms.{term_cmp, triple_cmp}
use Rattle.shape_properties.specs.Syntax.{IsShape}
use Rattle.shape_rules.specs.Broken.{IsWellFormed}
use Rattle.shape_sizes.specs.declared.survey.Survey.{Survey}
use Rattle.shape_sizes.specs.Surveys.{IsSurvey}

-- a shapes graph, its nodes that are shapes, by whose places shapes are named, and one of them
pub record Declaration : Type 0 where
  pub graph : List Triple
  pub nodes : List Term
  pub node : Term

abbrev pub declaration : List Triple → List Term → Term → Declaration
declaration graph nodes node = record { graph = graph; nodes = nodes; node = node }

-- the graph is well-formed, the nodes ascend, and the node is a shape
pub record IsDeclaration (d : Declaration) : Type 0 where
  pub well_formed : IsWellFormed d.graph
  pub nodes : IsAscending term_cmp d.nodes
  pub shape : IsShape d.graph d.node

-- the node is a shape of the well-formed graph, of which this was asked, and these are the node's own triples
pub record IsSurveyed (s : List Triple) (asked : Survey) (triples : List Triple) (n : Term) : Type 0 where
  pub graph : IsAscending triple_cmp s
  pub well_formed : IsWellFormed s
  pub survey : IsSurvey s asked
  pub shape : IsShape s n
  pub own : IsAscending triple_cmp triples
  pub members : (t : Triple) → Contains triples t ↔ (Contains s t × (t.subject ≡ n))
