-- The order of looks is total, and finds no difference only between equals.
use Rattle.std.specs.Prelude.{◌≡◌, ℕ, List, [], ◌∷◌, refl}
use Rattle.std.proofs.Common.{ap, subst}
use Rattle.std.specs.declared.cmp.Ordering.{Ordering}
use Rattle.std.specs.declared.cmp.Ordering.TheVariants.{Less, Equal, Greater}
use Rattle.std.specs.Ordering.{nat_cmp, ordering_then}
use Rattle.std.specs.Cmp.{IsTotalOrder}
use Rattle.std.specs.Cmp.Lexicographic.{slice_cmp}
use Rattle.std.proofs.lemmas.Cmp.{nat_cmp_total, lists_total, on_total, then_total}
use Rattle.rdf_model.specs.declared.term.Term.{Term}
use Rattle.rdf_model.specs.declared.look.Look.{Look}
use Rattle.rdf_model.specs.declared.look.Look.TheVariants.{Out, In, OutAny}
use Rattle.rdf_model.specs.Terms.{term_cmp}
use Rattle.rdf_model.specs.Orders.{term_total, term_exact}
use Rattle.evidence_blocks.specs.LookOrder.{look_cmp}

then_equal : (o : Ordering) → ordering_then o Equal ≡ o
then_equal Less = refl
then_equal Equal = refl
then_equal Greater = refl

-- its kind and its terms
abbrev look_kind : Look Term → ℕ
look_kind (Out x p) = 0
look_kind (In p x) = 1
look_kind (OutAny x) = 2

abbrev look_terms : Look Term → List Term
look_terms (Out x p) = x ∷ p ∷ []
look_terms (In p x) = p ∷ x ∷ []
look_terms (OutAny x) = x ∷ []

abbrev parts_cmp : Look Term → Look Term → Ordering
parts_cmp a b = ordering_then (nat_cmp (look_kind a) (look_kind b)) (slice_cmp term_cmp (look_terms a) (look_terms b))

look_by_parts : (a b : Look Term) → parts_cmp a b ≡ look_cmp a b
look_by_parts (Out x p) (Out y q) = ap (ordering_then (term_cmp x y)) (then_equal (term_cmp p q))
look_by_parts (Out x p) (In q y) = refl
look_by_parts (Out x p) (OutAny y) = refl
look_by_parts (In p x) (Out y q) = refl
look_by_parts (In p x) (In q y) = ap (ordering_then (term_cmp p q)) (then_equal (term_cmp x y))
look_by_parts (In p x) (OutAny y) = refl
look_by_parts (OutAny x) (Out y q) = refl
look_by_parts (OutAny x) (In q y) = refl
look_by_parts (OutAny x) (OutAny y) = then_equal (term_cmp x y)

pub look_total : IsTotalOrder look_cmp
look_total = subst (λ (R : Look Term → Look Term → Ordering). IsTotalOrder R) (λ i a b. look_by_parts a b i) (then_total (on_total look_kind nat_cmp_total) (on_total look_terms (lists_total term_total)))

-- when two orders in turn find no difference, neither does
both_equal : (o p : Ordering) → ordering_then o p ≡ Equal → (o ≡ Equal) × (p ≡ Equal)
both_equal Less p h = cc
both_equal Equal p h = (refl, h)
both_equal Greater p h = cc

pub look_exact : (a b : Look Term) → look_cmp a b ≡ Equal → a ≡ b
look_exact (Out x p) (Out y q) h = let k = both_equal (term_cmp x y) (term_cmp p q) h in let e = term_exact x y k.0 in let f = term_exact p q k.1 in cc (e, f)
look_exact (Out x p) (In q y) h = cc
look_exact (Out x p) (OutAny y) h = cc
look_exact (In p x) (Out y q) h = cc
look_exact (In p x) (In q y) h = let k = both_equal (term_cmp p q) (term_cmp x y) h in let e = term_exact p q k.0 in let f = term_exact x y k.1 in cc (e, f)
look_exact (In p x) (OutAny y) h = cc
look_exact (OutAny x) (Out y q) h = cc
look_exact (OutAny x) (In q y) h = cc
look_exact (OutAny x) (OutAny y) h = ap OutAny (term_exact x y h)
