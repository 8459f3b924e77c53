-- As many references as the shapes graph has triples are deep enough, where no shape refers to itself.
use Rattle.std.proofs.Common.{◌≡◌, ℕ, zero, suc, ◌+◌, ◌≤◌, List, [], ◌∷◌, ◌++◌, length, refl, subst, ap, arith, inl, inr}
use Rattle.std.specs.Prelude.{◌↔◌}
use Rattle.std.specs.List.{Contains}
use Rattle.std.proofs.lemmas.List.Elements.{Contains-append_cases, Contains-push_cases}
use Rattle.rdf_model.specs.declared.term.Term.{Term}
use Rattle.rdf_model.specs.declared.triple.Triple.{Triple}
use Rattle.shape_model.specs.Laws.{DepthLaw, FuelLaw, UnfoldLaw}
use Rattle.shape_model.specs.Readings.{HasQualifiedCount, IsAcyclic, Reading, References, Refers, reading}
use Rattle.shape_model.specs.ShapeSyntax.{HasProperty}
use Rattle.shape_model.specs.Triples.{IsMember}
use Rattle.shape_model.specs.Validation.{AtDepth, surroundings}
use Rattle.shape_model.specs.Vocabulary.{ShAnd, ShNode, ShNot, ShOr, ShProperty, ShQualifiedMaxCount, ShQualifiedMinCount, ShXone, ShapeProperty, property_iri}
use Rattle.shape_model.specs.declared.result_row.ResultRow.{ResultRow}
use Rattle.shape_model.proofs.Surroundings.{reading_itself, at_same}

-- fuel past the longest chain of references changes nothing
module _ (g : List Triple) (readings : Term → Reading) where
  enough : (n m : ℕ) (shape : Term) → n ≤ m → ((ms : List Term) → length ms ≡ n → References readings shape ms → ⊥) → (f : Term) (r : ResultRow) → AtDepth n g readings shape f r ↔ AtDepth m g readings shape f r
  enough zero m shape le none f r = absurd (none [] refl tt)
  enough (suc n) zero shape le none f r = absurd (omega arith)
  enough (suc n) (suc m) shape le none f r =
      at_same shape f (readings shape) (readings shape) (reading_itself (readings shape)) (surroundings (AtDepth n g readings) g (readings shape) f) (surroundings (AtDepth m g readings) g (readings shape) f) (record {
        value_node = λ v. (λ i. i, λ i. i);
        instance = λ q v i w. (λ j. j, λ j. j);
        focus_value = λ q w i. (λ j. j, λ j. j);
        triple = λ i v p o w. (λ j. j, λ j. j);
        row = λ t v i w r. enough n m t (omega arith) (λ ms e c. none (t ∷ ms) (ap suc e) (i, c)) v r;
      }) r

-- the shapes of a chain that refer to another
front : Term → List Term → List Term
front a [] = []
front a (m ∷ ms) = a ∷ front m ms

length_front : (a : Term) (ms : List Term) → length (front a ms) ≡ length ms
unfolding front
length_front a [] = refl
length_front a (m ∷ ms) = ap suc (length_front m ms)

front_in : (a : Term) (ms : List Term) (w : Term) → IsMember (front a ms) w → IsMember (a ∷ ms) w
unfolding front
front_in a [] w i = inr i
front_in a (m ∷ ms) w i = elim i [ inl e ↦ inl e | inr j ↦ inr (front_in m ms w j) ]

AreDistinct : List Term → Type 0
AreDistinct [] = Unit {0}
AreDistinct (x ∷ xs) = ((w : Term) → IsMember xs w → w ≡ x → ⊥) × AreDistinct xs

module _ (readings : Term → Reading) (acyclic : (a : Term) (ms : List Term) → References readings a (ms ++ a ∷ []) → ⊥) where
  reach : (a : Term) (ms : List Term) (w : Term) → References readings a ms → IsMember ms w → (pre : List Term) × References readings a (pre ++ w ∷ [])
  reach a [] w c i = absurd i
  reach a (m ∷ ms) w c i = elim i [
    | inl e ↦ ([], (subst (λ (k : Term). Refers (readings a) k) e c.0, tt))
    | inr j ↦ let k : (pre : List Term) × References readings m (pre ++ w ∷ []) = reach m ms w c.1 j in (m ∷ k.0, (c.0, k.1))
  ]

  distinct : (a : Term) (ms : List Term) → References readings a ms → AreDistinct (front a ms)
  unfolding AreDistinct front
  distinct a [] c = tt
  distinct a (m ∷ ms) c = (
    λ w i e. let k = reach a (m ∷ ms) w c (front_in m ms w i) in acyclic a k.0 (subst (λ (b : Term). References readings a (k.0 ++ b ∷ [])) e k.1),
    distinct m ms c.1,
  )

-- a list of distinct members of another is no longer
taken_out : (ys : List Term) (x : Term) → IsMember ys x → (zs : List Term) × (length ys ≡ suc (length zs)) × ((w : Term) → (w ≡ x → ⊥) → IsMember ys w → IsMember zs w)
taken_out [] x i = absurd i
taken_out (y ∷ ys) x i = elim i [
  | inl e ↦ (ys, refl, λ w not_x j. elim j [ inl d ↦ absurd (not_x (cc (d, e))) | inr k ↦ k ])
  | inr j ↦ let t = taken_out ys x j in (y ∷ t.0, ap suc t.1, λ w not_x k. elim k [ inl d ↦ inl d | inr l ↦ inr (t.2 w not_x l) ])
]

no_longer : (xs ys : List Term) → AreDistinct xs → ((w : Term) → IsMember xs w → IsMember ys w) → length xs ≤ length ys
unfolding AreDistinct
no_longer [] ys d all = omega arith
no_longer (x ∷ xs) ys d all =
    let t = taken_out ys x (all x (inl refl)) in
    let less : length xs ≤ length t.0 = no_longer xs t.0 d.1 (λ w i. t.2 w (d.0 w i) (all w (inr i))) in
    let e : length ys ≡ suc (length t.0) = t.1 in omega arith

subjects : List Triple → List Term
subjects [] = []
subjects (t ∷ ts) = t.subject ∷ subjects ts

length_subjects : (s : List Triple) → length (subjects s) ≡ length s
unfolding subjects
length_subjects [] = refl
length_subjects (t ∷ ts) = ap suc (length_subjects ts)

subject_in : (s : List Triple) (t : Triple) → Contains s t → IsMember (subjects s) t.subject
unfolding subjects
subject_in [] t c = absurd (omega arith)
subject_in (u ∷ us) t c = elim (Contains-append_cases (u ∷ []) us t c) [
  | inl d ↦ elim (Contains-push_cases [] u t d) [ inl e ↦ absurd (omega arith) | inr e ↦ inl (ap (λ (x : Triple). x.subject) e) ]
  | inr d ↦ inr (subject_in us t d)
]

refers_in : (s : List Triple) (a t : Term) → Refers (reading s a) t → IsMember (subjects s) a
refers_in s a t = elim [
  | inl i ↦ at ShNot t i
  | inr (inl i) ↦ at ShNode t i
  | inr (inr (inl i)) ↦ at ShProperty t i
  | inr (inr (inr (inl i))) ↦ at ShAnd i.0 i.2.0
  | inr (inr (inr (inr (inl i)))) ↦ at ShOr i.0 i.2.0
  | inr (inr (inr (inr (inr (inl i))))) ↦ at ShXone i.0 i.2.0
  | inr (inr (inr (inr (inr (inr (inl i)))))) ↦ count i.0
  | inr (inr (inr (inr (inr (inr (inr i)))))) ↦ count i.0
]
  where
    at : (p : ShapeProperty) (v : Term) → HasProperty s a p v → IsMember (subjects s) a
    at p v c = subject_in s (record { subject = a; predicate = property_iri p; object = v }) c

    count : HasQualifiedCount (reading s a) → IsMember (subjects s) a
    count h = elim h.1 [ inl i ↦ at ShQualifiedMinCount h.0 i | inr i ↦ at ShQualifiedMaxCount h.0 i ]

front_subjects : (s : List Triple) (a : Term) (ms : List Term) → References (reading s) a ms → (w : Term) → IsMember (front a ms) w → IsMember (subjects s) w
unfolding front
front_subjects s a [] c w i = absurd i
front_subjects s a (m ∷ ms) c w i = elim i [ inl e ↦ subst (λ (k : Term). IsMember (subjects s) k) e (refers_in s a m c.0) | inr j ↦ front_subjects s m ms c.1 w j ]

no_chain : (s : List Triple) → IsAcyclic s → (a : Term) (ms : List Term) → length ms ≡ suc (length s) → References (reading s) a ms → ⊥
no_chain s acyclic a ms e c =
    let le : length (front a ms) ≤ length (subjects s) = no_longer (front a ms) (subjects s) (distinct (reading s) acyclic a ms c) (front_subjects s a ms c) in
    let x : length (front a ms) ≡ length ms = length_front a ms in
    let y : length (subjects s) ≡ length s = length_subjects s in omega arith

pub fuel_law : FuelLaw
fuel_law g s acyclic n le shape f r = enough g (reading s) (suc (length s)) n shape le (no_chain s acyclic shape) f r

pub depth_law : DepthLaw
depth_law g s acyclic n shallow shape f r =
    let far = fuel_law g s acyclic (n + suc (length s)) (omega arith) shape f r in
    let near = enough g (reading s) n (n + suc (length s)) shape (omega arith) (shallow shape) f r in
    (λ i. near.1 (far.0 i), λ i. far.1 (near.0 i))

pub unfold_law : UnfoldLaw
unfold_law g s acyclic shape f r = fuel_law g s acyclic (suc (suc (length s))) (omega arith) shape f r
