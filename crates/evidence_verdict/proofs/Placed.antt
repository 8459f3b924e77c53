-- The places of shapes by the numbers of their nodes.
use Rattle.std.proofs.Common.{◌≡◌, ◌≢◌, ◌∙◌, ℕ, zero, suc, ◌+◌, ◌<◌, ◌≤◌, List, [], ◌∷◌, length, get_or, refl, sym, ap, subst, arith, inl, inr}
use Rattle.std.specs.Prelude.{◌⊎◌, Some, slice_get}
use Rattle.std.specs.List.{Contains}
use Rattle.std.proofs.lemmas.List.{length-map}
use Rattle.std.proofs.lemmas.List.Elements.{All-contains, Contains-get_or}
use Rattle.rdf_model.specs.declared.term.Term.{Term}
use Rattle.rdf_model.specs.Numbers.{IsNumbering, term_at}
use Rattle.path_eval.proofs.Mirrors.{mapped_from}
use Rattle.shape_ast.specs.declared.shape.Shape.{Shape}
use Rattle.shape_ast.specs.Readings.{AreBound, HoldsOfShape, ReadShape, named_shapes, read_shape}
use Rattle.shape_eval.proofs.Lookups.{of_place, read_here, taken_at}

below_or : (j i : ℕ) → j < i + 1 → (j < i) ⊎ (j ≡ i)
below_or zero zero lt = inr refl
below_or zero (suc i) lt = inl (omega arith)
below_or (suc j) zero lt = absurd (omega (arith, lt))
below_or (suc j) (suc i) lt = elim (below_or j i (omega (arith, lt))) [ inl h ↦ inl (omega (arith, h)) | inr e ↦ inr (ap suc e) ]

within : {X : Type 0} → (xs : List X) (j : ℕ) (x : X) → slice_get xs j ≡ Some x → j < length xs
within [] j x e = cc
within (y ∷ ys) zero x e = omega arith
within (y ∷ ys) (suc j) x e = let lt = within ys j x e in omega (arith, lt)

module _ (terms : List Term) (shapes : List (Shape ℕ)) (bound : AreBound terms shapes) where
  -- the node of a shape has a number
  pub place_named : (j : ℕ) (c : ReadShape) → slice_get (named_shapes terms shapes) j ≡ Some c → Contains terms c.node
  place_named j c e =
      let m = mapped_from (read_shape (term_at terms)) shapes c (of_place (named_shapes terms shapes) j c e) in
      let holds = All-contains (HoldsOfShape (λ n. n < length terms) (length shapes)) shapes m.0 bound m.1 in
      subst (λ (r : ReadShape). Contains terms r.node) m.2 (Contains-get_or terms m.0.node _ holds.node)

  -- none of the first places has the node
  abbrev pub NonePassed : ℕ → ℕ → Type 0
  NonePassed node i = (j : ℕ) (c : ReadShape) → j < i → slice_get (named_shapes terms shapes) j ≡ Some c → c.node ≡ term_at terms node → ⊥

  module _ (numbering : IsNumbering terms) (node : ℕ) (known : node < length terms) where
    pub more_passed : (items : List (Shape ℕ)) → items ≡ shapes → (i : ℕ) (shape : Shape ℕ) → i < length items → shape ≡ get_or items i shape → shape.node ≢ node → NonePassed node i → NonePassed node (i + 1)
    more_passed items same i shape lt at other before j c below e is = elim (below_or j i below) [
      | inl l ↦ before j c l e is
      | inr k ↦ (
          let here : i < length shapes = subst (λ (xs : List (Shape ℕ)). i < length xs) same lt in
          let own : shape ≡ get_or shapes i shape = subst (λ (xs : List (Shape ℕ)). shape ≡ get_or xs i shape) same at in
          let read = read_here terms shapes i shape (taken_at shapes i shape here own) c (subst (λ n. slice_get (named_shapes terms shapes) n ≡ Some c) k e) in
          let holds : HoldsOfShape (λ n. n < length terms) (length shapes) shape = subst (λ (x : Shape ℕ). HoldsOfShape (λ n. n < length terms) (length shapes) x) (sym own) (bound i shape here) in
          other (numbering shape.node node holds.node known (ap (λ (r : ReadShape). r.node) read ∙ is)))
    ]

  -- all places are
  pub all_passed : (items : List (Shape ℕ)) → items ≡ shapes → (node i : ℕ) → length items ≤ i → NonePassed node i → (j : ℕ) (c : ReadShape) → slice_get (named_shapes terms shapes) j ≡ Some c → c.node ≡ term_at terms node → ⊥
  all_passed items same node i le passed j c e is =
      let lt = within (named_shapes terms shapes) j c e in
      let size = length-map shapes (read_shape (term_at terms)) in
      let count = ap length same in
      passed j c (omega (arith, lt, size, count, le)) e is
