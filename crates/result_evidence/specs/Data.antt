-- A data graph by the numbers of its terms.
use Rattle.std.specs.Prelude.{List}
use Rattle.rdf_model.specs.declared.ids.Ids.{Ids}
use Rattle.rdf_model.specs.declared.term.Term.{Term}
use Rattle.rdf_model.specs.Numbers.{AreNumbered, IsNumbering}
use Rattle.path_eval.specs.declared.instances.ClassWords.{ClassWords}
use Rattle.path_eval.specs.Instances.{AreClassWords}

-- the terms by their numbers, the triples by the numbers of their terms, and the words of classes
pub record DataByNumbers : Type 0 where
  pub terms : List Term
  pub ids : List Ids
  pub words : ClassWords

abbrev pub data_by_numbers : List Term → List Ids → ClassWords → DataByNumbers
data_by_numbers terms ids words = record { terms = terms; ids = ids; words = words }

-- no two numbers have one term, and each number here has one
pub record IsDataByNumbers (d : DataByNumbers) : Type 0 where
  pub numbering : IsNumbering d.terms
  pub numbered : AreNumbered d.terms d.ids
  pub class_words : AreClassWords d.terms d.words
