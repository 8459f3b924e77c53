-- The order of looks in evidence.
use Rattle.std.specs.declared.cmp.Ordering.{Ordering}
use Rattle.std.specs.declared.cmp.Ordering.TheVariants.{Less, Greater}
use Rattle.std.specs.Ordering.{ordering_then}
use Rattle.rdf_model.specs.declared.term.Term.{Term}
use Rattle.rdf_model.specs.declared.look.Look.{Look}
use Rattle.rdf_model.specs.declared.look.Look.TheVariants.{Out, In, OutAny}
use Rattle.rdf_model.specs.Terms.{term_cmp}

-- those of a subject and a predicate, then those of a predicate and an object, then those of a subject alone; each by its
-- terms from left to right
abbrev pub look_cmp : Look Term → Look Term → Ordering
look_cmp (Out x p) (Out y q) = ordering_then (term_cmp x y) (term_cmp p q)
look_cmp (Out x p) (In q y) = Less
look_cmp (Out x p) (OutAny y) = Less
look_cmp (In p x) (Out y q) = Greater
look_cmp (In p x) (In q y) = ordering_then (term_cmp p q) (term_cmp x y)
look_cmp (In p x) (OutAny y) = Less
look_cmp (OutAny x) (Out y q) = Greater
look_cmp (OutAny x) (In q y) = Greater
look_cmp (OutAny x) (OutAny y) = term_cmp x y
