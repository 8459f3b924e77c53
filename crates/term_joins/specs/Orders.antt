-- The order of rows of terms: from the first term on.
use Rattle.std.specs.Prelude.{◌≡◌, List}
use Rattle.std.specs.Cmp.{IsTotalOrder}
use Rattle.std.specs.Cmp.Lexicographic.{slice_cmp}
use Rattle.std.specs.declared.cmp.Ordering.{Ordering}
use Rattle.std.specs.declared.cmp.Ordering.TheVariants.{Equal}
use Rattle.std.specs.FinMap.{slice_cmp-IsAntisymmetric}
use Rattle.std.proofs.lemmas.Cmp.{lists_total}
use Rattle.rdf_model.specs.declared.term.Term.{Term}
use Rattle.rdf_model.specs.Orders.{term_exact, term_total}
use Rattle.rdf_model.specs.Terms.{term_cmp}

abbrev pub row_cmp : List Term → List Term → Ordering
row_cmp xs ys = slice_cmp term_cmp xs ys

pub row_total : IsTotalOrder row_cmp
row_total = lists_total term_total

-- rows that compare alike are one
pub row_exact : (xs ys : List Term) → row_cmp xs ys ≡ Equal → xs ≡ ys
row_exact = slice_cmp-IsAntisymmetric term_exact
