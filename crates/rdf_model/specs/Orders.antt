-- The laws of the orders of terms and triples.
use Rattle.std.specs.Prelude.{◌≡◌, ℕ, List, [], ◌∷◌, Option, Some, None, refl}
use Rattle.std.proofs.Common.{ap, subst}
use Rattle.std.specs.declared.cmp.Ordering.{Ordering}
use Rattle.std.specs.declared.cmp.Ordering.TheVariants.{Less, Equal, Greater}
use Rattle.std.specs.Ordering.{nat_cmp, ordering_then}
use Rattle.std.specs.Cmp.{IsTotalOrder}
use Rattle.std.proofs.lemmas.Cmp.{nat_list_cmp_total, lists_total, on_total, then_total}
use Rattle.std.specs.FinMap.{nat_cmp-IsAntisymmetric, slice_cmp-IsAntisymmetric}
use Rattle.std.specs.Cmp.Lexicographic.{slice_cmp}
use Rattle.rdf_model.specs.declared.term.Term.{Term}
use Rattle.rdf_model.specs.declared.term.Term.TheVariants.{Blank, Iri, Literal}
use Rattle.rdf_model.specs.declared.triple.Triple.{Triple}
use Rattle.rdf_model.specs.Terms.{text_cmp, tag_cmp, term_cmp, triple_cmp}

then_equal : (o : Ordering) → ordering_then o Equal ≡ o
then_equal Less = refl
then_equal Equal = refl
then_equal Greater = refl

abbrev tag_key : Option (List ℕ) → List (List ℕ)
tag_key None = []
tag_key (Some t) = t ∷ []

-- the parts of a term, in the order in which they are compared
abbrev term_key : Term → List (List ℕ)
term_key (Blank s n) = (0 ∷ []) ∷ (s ∷ []) ∷ (n ∷ []) ∷ []
term_key (Iri a) = (1 ∷ []) ∷ a ∷ []
term_key (Literal c d e) = (2 ∷ []) ∷ c ∷ d ∷ tag_key e

abbrev parts_cmp : List (List ℕ) → List (List ℕ) → Ordering
parts_cmp a b = slice_cmp (slice_cmp nat_cmp) a b

tag_by_key : (d e : Option (List ℕ)) → parts_cmp (tag_key d) (tag_key e) ≡ tag_cmp d e
tag_by_key None None = refl
tag_by_key None (Some t) = refl
tag_by_key (Some t) None = refl
tag_by_key (Some t) (Some u) = then_equal (text_cmp t u)

term_by_key : (a b : Term) → parts_cmp (term_key a) (term_key b) ≡ term_cmp a b
term_by_key (Blank s n) (Blank t m) = simp then_equal
term_by_key (Blank s n) (Iri b) = refl
term_by_key (Blank s n) (Literal c d e) = refl
term_by_key (Iri a) (Blank t m) = refl
term_by_key (Iri a) (Iri b) = then_equal (text_cmp a b)
term_by_key (Iri a) (Literal c d e) = refl
term_by_key (Literal c d e) (Blank t m) = refl
term_by_key (Literal c d e) (Iri b) = refl
term_by_key (Literal c d e) (Literal f g h) = ap (λ o. ordering_then (text_cmp c f) (ordering_then (text_cmp d g) o)) (tag_by_key e h)

pub term_total : IsTotalOrder term_cmp
term_total = subst (λ (R : Term → Term → Ordering). IsTotalOrder R) (λ i a b. term_by_key a b i) (on_total term_key (lists_total nat_list_cmp_total))

pub triple_total : IsTotalOrder triple_cmp
triple_total = then_total (on_total (λ (t : Triple). t.subject) term_total) (then_total (on_total (λ (t : Triple). t.predicate) term_total) (on_total (λ (t : Triple). t.object) term_total))

text_exact : (a b : List ℕ) → text_cmp a b ≡ Equal → a ≡ b
text_exact = slice_cmp-IsAntisymmetric nat_cmp-IsAntisymmetric

-- when two orders in turn find no difference, neither does
both_equal : (o p : Ordering) → ordering_then o p ≡ Equal → (o ≡ Equal) × (p ≡ Equal)
both_equal Less p h = cc
both_equal Equal p h = (refl, h)
both_equal Greater p h = cc

tag_exact : (a b : Option (List ℕ)) → tag_cmp a b ≡ Equal → a ≡ b
tag_exact None None h = refl
tag_exact None (Some t) h = cc
tag_exact (Some t) None h = cc
tag_exact (Some t) (Some u) h = ap Some (text_exact t u h)

-- terms that compare alike are one
pub term_exact : (a b : Term) → term_cmp a b ≡ Equal → a ≡ b
term_exact (Blank s n) (Blank t m) h = let p = both_equal (nat_cmp s t) (nat_cmp n m) h in let e = nat_cmp-IsAntisymmetric s t p.0 in let f = nat_cmp-IsAntisymmetric n m p.1 in cc (e, f)
term_exact (Blank s n) (Iri b) h = cc
term_exact (Blank s n) (Literal c d e) h = cc
term_exact (Iri a) (Blank t m) h = cc
term_exact (Iri a) (Iri b) h = ap Iri (text_exact a b h)
term_exact (Iri a) (Literal c d e) h = cc
term_exact (Literal c d e) (Blank t m) h = cc
term_exact (Literal c d e) (Iri b) h = cc
term_exact (Literal c d e) (Literal f g i) h =
    let p = both_equal (text_cmp c f) (ordering_then (text_cmp d g) (tag_cmp e i)) h in
    let q = both_equal (text_cmp d g) (tag_cmp e i) p.1 in
    let x = text_exact c f p.0 in
    let y = text_exact d g q.0 in
    let z = tag_exact e i q.1 in
    cc (x, y, z)

pub triple_exact : (a b : Triple) → triple_cmp a b ≡ Equal → a ≡ b
triple_exact a b h =
    let p = both_equal (term_cmp a.subject b.subject) (ordering_then (term_cmp a.predicate b.predicate) (term_cmp a.object b.object)) h in
    let q = both_equal (term_cmp a.predicate b.predicate) (term_cmp a.object b.object) p.1 in
    let x = term_exact a.subject b.subject p.0 in
    let y = term_exact a.predicate b.predicate q.0 in
    let z = term_exact a.object b.object q.1 in
    λ i. record { subject = x i; predicate = y i; object = z i }
