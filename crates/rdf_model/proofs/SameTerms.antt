-- Terms that tie by their order are one.
use Rattle.std.proofs.Common.{◌≡◌, true, refl, ap, subst}
use Rattle.std.specs.declared.cmp.Ordering.{Ordering}
use Rattle.std.specs.declared.cmp.Ordering.TheVariants.{Less, Equal, Greater}
use Rattle.std.specs.Ordering.{is_eq}
use Rattle.std.specs.Cmp.{tied_itself}
use Rattle.rdf_model.specs.declared.term.Term.{Term}
use Rattle.rdf_model.specs.Terms.{term_cmp}
use Rattle.rdf_model.specs.Orders.{term_total, term_exact}
use Rattle.rdf_model.specs.Matching.{same_term}

is_equal : (o : Ordering) → is_eq o ≡ true → o ≡ Equal
is_equal Less e = cc
is_equal Equal e = refl
is_equal Greater e = cc

pub same_equal : (a b : Term) → same_term a b ≡ true → a ≡ b
same_equal a b h = term_exact a b (is_equal (term_cmp a b) h)

pub equal_same : (a b : Term) → a ≡ b → same_term a b ≡ true
equal_same a b e = subst (λ (x : Term). same_term a x ≡ true) e (ap is_eq (tied_itself term_total a))
