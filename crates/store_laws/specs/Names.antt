-- Numbers of terms never change.
use Rattle.std.specs.Prelude.{◌≡◌, List, true}
use Rattle.rdf_model.specs.declared.term.Term.{Term}
use Rattle.rdf_model.specs.Terms.{term_cmp}
use Rattle.collections.specs.Ordered.{has_item}
use Rattle.store_model.specs.Store.{named_with, number_of}

abbrev pub NumbersStay : Type 0
NumbersStay = (named terms : List Term) (t : Term) → has_item term_cmp t named ≡ true → number_of (named_with named terms) t ≡ number_of named t
