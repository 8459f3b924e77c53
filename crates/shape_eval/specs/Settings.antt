-- What an evaluation of shapes reads.
use Rattle.std.specs.Prelude.{ℕ, List}
use Rattle.rdf_model.specs.declared.ids.Ids.{Ids}
use Rattle.rdf_model.specs.declared.term.Term.{Term}
use Rattle.rdf_model.specs.Numbers.{AreNumbered, IsNumbering, term_at}
use Rattle.path_eval.specs.declared.instances.ClassWords.{ClassWords}
use Rattle.path_eval.specs.Instances.{AreClassWords}
use Rattle.shape_ast.specs.declared.shape.Shape.{Shape}
use Rattle.shape_ast.specs.Readings.{AreBound}
use Rattle.shape_ast.specs.Standing.{AreBuilt}

-- the terms by their numbers, the triples and the shapes by the numbers of their terms, and the words of classes
pub record Setting : Type 0 where
  pub terms : List Term
  pub ids : List Ids
  pub words : ClassWords
  pub shapes : List (Shape ℕ)

abbrev pub setting : List Term → List Ids → ClassWords → List (Shape ℕ) → Setting
setting terms ids words shapes = record { terms = terms; ids = ids; words = words; shapes = shapes }

-- no two numbers have one term, each number here has one, and the patterns of the shapes are built from their terms
pub record IsSetting (s : Setting) : Type 0 where
  pub numbering : IsNumbering s.terms
  pub numbered : AreNumbered s.terms s.ids
  pub class_words : AreClassWords s.terms s.words
  pub bound : AreBound s.terms s.shapes
  pub built : AreBuilt (term_at s.terms) s.shapes
