-- As many references as the shapes graph has triples are deep enough for the looks of a shape, and so are as many as no chain
-- has, where no shape refers to itself.
use Rattle.std.proofs.Common.{◌≡◌, ℕ, zero, suc, ◌+◌, ◌≤◌, List, [], ◌∷◌, ◌++◌, length, map, refl, subst, ap, arith, inl, inr}
use Rattle.std.specs.Prelude.{◌⊎◌, ◌↔◌}
use Rattle.std.specs.List.{Contains}
use Rattle.std.proofs.lemmas.List.{length-map}
use Rattle.collections.proofs.Members.{has_cases, has_equal, has_tail}
use Rattle.rdf_model.specs.declared.term.Term.{Term}
use Rattle.rdf_model.specs.declared.triple.Triple.{Triple}
use Rattle.shape_model.specs.Looks.{LookRow}
use Rattle.shape_model.specs.Paths.{Path}
use Rattle.shape_model.specs.Readings.{HasQualifiedCount, IsAcyclic, IsShallow, Reading, References, Refers, reading}
use Rattle.shape_model.specs.ShapeLooks.{ShapeLookDepth}
use Rattle.shape_model.specs.ShapeSyntax.{HasProperty}
use Rattle.read_plans.proofs.Lists.{mapped_to}
use Rattle.shape_model.specs.Vocabulary.{ShAnd, ShNode, ShNot, ShOr, ShProperty, ShQualifiedMaxCount, ShQualifiedMinCount, ShXone, ShapeProperty, property_iri}

-- where no chain of n references leads from the shape, n are deep enough
module _ (readings : Term → Reading) where
  deep_to : (n m : ℕ) (shape : Term) → n ≤ m → ((ms : List Term) → length ms ≡ n → References readings shape ms → ⊥) → (q : List Path) (row : LookRow) → ShapeLookDepth n readings shape q row ↔ ShapeLookDepth m readings shape q row
  deep_to zero m shape le none q row = absurd (none [] refl tt)
  deep_to (suc n) zero shape le none q row = absurd (omega arith)
  deep_to (suc n) (suc m) shape le none q row =
      let deeper = λ (t : Term) (w : List Path) (i : Refers (readings shape) t). deep_to n m t (omega arith) (λ ms e c. none (t ∷ ms) (ap suc e) (i, c)) w row in (
        λ h. (
          h.0,
          elim h.1 [
            | inl i ↦ inl i
            | inr (inl i) ↦ inr (inl i)
            | inr (inr (inl i)) ↦ inr (inr (inl i))
            | inr (inr (inr (inl i))) ↦ inr (inr (inr (inl i)))
            | inr (inr (inr (inr i))) ↦ inr (inr (inr (inr (i.0, i.1, i.2, i.3, (deeper i.0 i.1 i.2).0 i.4))))
          ],
        ),
        λ h. (
          h.0,
          elim h.1 [
            | inl i ↦ inl i
            | inr (inl i) ↦ inr (inl i)
            | inr (inr (inl i)) ↦ inr (inr (inl i))
            | inr (inr (inr (inl i))) ↦ inr (inr (inr (inl i)))
            | inr (inr (inr (inr i))) ↦ inr (inr (inr (inr (i.0, i.1, i.2, i.3, (deeper i.0 i.1 i.2).1 i.4))))
          ],
        ),
      )

-- a list without one of its items
taken_out : (ys : List Term) (x : Term) → Contains ys x → (zs : List Term) × (length ys ≡ suc (length zs)) × ((w : Term) → (w ≡ x → ⊥) → Contains ys w → Contains zs w)
taken_out [] x c = absurd (omega arith)
taken_out (y ∷ ys) x c = elim (has_cases y ys x c) [
  | inl e ↦ (ys, refl, λ w apart d. elim (has_cases y ys w d) [ inl k ↦ absurd (apart (cc (e, k))) | inr k ↦ k ])
  | inr d ↦ let t = taken_out ys x d in (y ∷ t.0, ap suc t.1, λ w apart k. elim (has_cases y ys w k) [ inl e ↦ has_equal y t.0 w e | inr l ↦ has_tail y t.0 w (t.2 w apart l) ])
]

-- the shapes of a chain that refer to another
abbrev IsReferring : Term → List Term → Term → Type 0
IsReferring a [] w = ⊥
IsReferring a (m ∷ ms) w = (a ≡ w) ⊎ IsReferring m ms w

-- where no shape refers to itself, a chain is no longer than a list with all of them
module _ (readings : Term → Reading) (acyclic : (a : Term) (ms : List Term) → References readings a (ms ++ a ∷ []) → ⊥) where
  reached : (a m : Term) (ms : List Term) (w : Term) → Refers (readings a) m → References readings m ms → IsReferring m ms w → (pre : List Term) × References readings a (pre ++ w ∷ [])
  reached a m [] w first c i = absurd i
  reached a m (k ∷ ms) w first c i = elim i [
    | inl e ↦ ([], (subst (λ (x : Term). Refers (readings a) x) e first, tt))
    | inr j ↦ let rest = reached m k ms w c.0 c.1 j in (m ∷ rest.0, (first, rest.1))
  ]

  no_longer : (a : Term) (ms ys : List Term) → References readings a ms → ((w : Term) → IsReferring a ms w → Contains ys w) → length ms ≤ length ys
  no_longer a [] ys c all = omega arith
  no_longer a (m ∷ ms) ys c all =
      let t = taken_out ys a (all a (inl refl)) in
      let rest : length ms ≤ length t.0 = no_longer m ms t.0 c.1 (λ w i. t.2 w (λ e. let k = reached a m ms w c.0 c.1 i in acyclic a k.0 (subst (λ (x : Term). References readings a (k.0 ++ x ∷ [])) e k.1)) (all w (inr i))) in
      let many : length ys ≡ suc (length t.0) = t.1 in
      omega (arith, rest, many)

-- a shape that refers to another is the subject of a triple
refers_in : (s : List Triple) (a t : Term) → Refers (reading s a) t → Contains (map (λ (t : Triple). t.subject) s) a
refers_in s a t = elim [
  | inl i ↦ at ShNot t i
  | inr (inl i) ↦ at ShNode t i
  | inr (inr (inl i)) ↦ at ShProperty t i
  | inr (inr (inr (inl i))) ↦ at ShAnd i.0 i.2.0
  | inr (inr (inr (inr (inl i)))) ↦ at ShOr i.0 i.2.0
  | inr (inr (inr (inr (inr (inl i))))) ↦ at ShXone i.0 i.2.0
  | inr (inr (inr (inr (inr (inr (inl i)))))) ↦ count i.0
  | inr (inr (inr (inr (inr (inr (inr i)))))) ↦ count i.0
]
  where
    at : (p : ShapeProperty) (v : Term) → HasProperty s a p v → Contains (map (λ (t : Triple). t.subject) s) a
    at p v c = mapped_to (λ (t : Triple). t.subject) s (record { subject = a; predicate = property_iri p; object = v }) c

    count : HasQualifiedCount (reading s a) → Contains (map (λ (t : Triple). t.subject) s) a
    count h = elim h.1 [ inl i ↦ at ShQualifiedMinCount h.0 i | inr i ↦ at ShQualifiedMaxCount h.0 i ]

all_in : (s : List Triple) (a : Term) (ms : List Term) → References (reading s) a ms → (w : Term) → IsReferring a ms w → Contains (map (λ (t : Triple). t.subject) s) w
all_in s a [] c w i = absurd i
all_in s a (m ∷ ms) c w i = elim i [ inl e ↦ subst (λ (x : Term). Contains (map (λ (t : Triple). t.subject) s) x) e (refers_in s a m c.0) | inr j ↦ all_in s m ms c.1 w j ]

no_chain : (s : List Triple) → IsAcyclic s → (a : Term) (ms : List Term) → length ms ≡ suc (length s) → References (reading s) a ms → ⊥
no_chain s acyclic a ms e c =
    let subjects = map (λ (t : Triple). t.subject) s in
    let le : length ms ≤ length subjects = no_longer (reading s) acyclic a ms subjects c (all_in s a ms c) in
    let many : length subjects ≡ length s = length-map s (λ (t : Triple). t.subject) in
    omega (arith, le, many, e)

-- the looks of a shape
pub look_depth : (s : List Triple) → IsAcyclic s → (n : ℕ) → IsShallow n s → (shape : Term) (q : List Path) (row : LookRow) → ShapeLookDepth n (reading s) shape q row ↔ ShapeLookDepth (suc (length s)) (reading s) shape q row
look_depth s acyclic n shallow shape q row =
    let far = deep_to (reading s) (suc (length s)) (n + suc (length s)) shape (omega arith) (no_chain s acyclic shape) q row in
    let near = deep_to (reading s) n (n + suc (length s)) shape (omega arith) (shallow shape) q row in
    (λ i. far.1 (near.0 i), λ i. near.1 (far.0 i))
