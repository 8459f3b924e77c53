-- A triple matches a look where the look reads it, and the class path is rdf:type and then any chain of rdfs:subClassOf.
use Rattle.std.proofs.Common.{◌≡◌, Bool, true, false, refl, sym, ap, subst}
use Rattle.std.specs.Prelude.{◌↔◌, ◌&&◌}
use Rattle.std.specs.declared.cmp.Ordering.{Ordering}
use Rattle.std.specs.declared.cmp.Ordering.TheVariants.{Less, Equal, Greater}
use Rattle.std.specs.Ordering.{is_eq}
use Rattle.std.specs.Cmp.{tied_itself}
use Rattle.rdf_model.specs.declared.term.Term.{Term}
use Rattle.rdf_model.specs.declared.look.Look.TheVariants.{Out, In, OutAny}
use Rattle.rdf_model.specs.Terms.{term_cmp}
use Rattle.rdf_model.specs.Orders.{term_total, term_exact}
use Rattle.rdf_model.specs.Matching.{same_term}
use Rattle.shape_model.specs.Laws.{LookLaw, ClassPathLaw}

is_equal : (o : Ordering) → is_eq o ≡ true → o ≡ Equal
is_equal Less e = cc
is_equal Equal e = refl
is_equal Greater e = cc

same : (a b : Term) → (b ≡ a) ↔ (same_term a b ≡ true)
same a b = (
  λ e. subst (λ (x : Term). same_term a x ≡ true) (sym e) (ap is_eq (tied_itself term_total a)),
  λ h. sym (term_exact a b (is_equal (term_cmp a b) h)),
)

and_true : (a b : Bool) → (a ≡ true) × (b ≡ true) ↔ ((a && b) ≡ true)
and_true true b = (λ h. h.1, λ h. (refl, h))
and_true false b = (λ h. h.0, λ h. cc)

pub look_law : LookLaw
look_law (Out x p) t =
    let both = and_true (same_term x t.subject) (same_term p t.predicate) in
    (λ h. both.0 ((same x t.subject).0 h.0, (same p t.predicate).0 h.1), λ h. ((same x t.subject).1 (both.1 h).0, (same p t.predicate).1 (both.1 h).1))
look_law (In p x) t =
    let both = and_true (same_term p t.predicate) (same_term x t.object) in
    (λ h. both.0 ((same p t.predicate).0 h.0, (same x t.object).0 h.1), λ h. ((same p t.predicate).1 (both.1 h).0, (same x t.object).1 (both.1 h).1))
look_law (OutAny x) t = same x t.subject

pub class_path_law : ClassPathLaw
class_path_law g n c = (λ i. i, λ w. w)
