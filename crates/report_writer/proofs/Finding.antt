-- The shape of a node is found among the shapes, where it is one of them.
use Rattle.std.proofs.Common.{Bor, ◌≡◌, ◌∙◌, Bool, true, false, List, [], ◌∷◌, cond, refl, sym, ap, subst, arith, inl, inr}
use Rattle.std.specs.Prelude.{Option, Some, None}
use Rattle.std.specs.List.{Contains, find}
use Rattle.std.specs.Option.{IsSome, option_copied, option_map}
use Rattle.collections.proofs.Members.{has_cases, has_equal, has_head, has_tail}
use Rattle.rdf_model.specs.declared.term.Term.{Term}
use Rattle.rdf_model.specs.Matching.{same_term}
use Rattle.rdf_model.proofs.SameTerms.{equal_same, same_equal}
use Rattle.shape_ast.specs.declared.shape.Shape.{Shape}
use Rattle.shape_ast.specs.Readings.{ReadShape, read_shape, read_shapes}

abbrev pub as_read : Shape Term → ReadShape
as_read c = read_shape (λ t. t) c

abbrev pub has_node : Term → Shape Term → Bool
has_node n c = same_term c.node n

first_found : {X : Type 0} → (test : X → Bool) (xs : List X) (x : X) → Contains xs x → test x ≡ true → IsSome (find test xs)
first_found test [] x i e = absurd (omega arith)
first_found test (y ∷ ys) x i e =
    elim (test y) as (λ b. test y ≡ b → IsSome (cond b (Some y) (find test ys))) [
      | true ↦ λ k. refl
      | false ↦ λ k. elim (has_cases y ys x i) [
        | inl same ↦ let m : test y ≡ true = subst (λ w. test w ≡ true) (sym same) e in cc (k, m)
        | inr j ↦ first_found test ys x j e
      ]
    ] refl

found_first : {X : Type 0} → (test : X → Bool) (xs : List X) (x : X) → find test xs ≡ Some x → Contains xs x × (test x ≡ true)
found_first test [] x e = cc
found_first test (y ∷ ys) x e =
    elim (test y) as (λ b. test y ≡ b → cond b (Some y) (find test ys) ≡ Some x → Contains (y ∷ ys) x × (test x ≡ true)) [
      | true ↦ λ k m. let same : y ≡ x = cc in (has_equal y ys x same, subst (λ w. test w ≡ true) same k)
      | false ↦ λ k m. let rest = found_first test ys x m in (has_tail y ys x rest.0, rest.1)
    ] refl e

-- a shape as it is read, and the shape
pub read_from : (shapes : List (Shape Term)) (r : ReadShape) → Contains (read_shapes shapes) r → (c : Shape Term) × Contains shapes c × (as_read c ≡ r)
read_from [] r i = absurd (omega arith)
read_from (c ∷ shapes) r i = elim (has_cases (as_read c) (read_shapes shapes) r i) [
  | inl e ↦ (c, has_head c shapes, e)
  | inr j ↦ let k = read_from shapes r j in (k.0, has_tail c shapes k.0 k.1, k.2)
]

pub finds : (shapes : List (Shape Term)) (n : Term) (r : ReadShape) → Contains (read_shapes shapes) r → r.node ≡ n → IsSome (find (has_node n) shapes)
finds shapes n r i e =
    let c = read_from shapes r i in
    first_found (has_node n) shapes c.0 c.1 (equal_same c.0.node n (ap (λ (s : ReadShape). s.node) c.2 ∙ e))

-- the shape that is found is the one that is found as it is read
pub found_read : (shapes : List (Shape Term)) (n : Term) → option_map as_read (find (has_node n) shapes) ≡ find (λ r. same_term r.node n) (read_shapes shapes)
found_read [] n = refl
found_read (d ∷ shapes) n = elim (same_term d.node n) as (λ b. option_map as_read (cond b (Some d) (find (has_node n) shapes)) ≡ cond b (Some (as_read d)) (find (λ r. same_term r.node n) (read_shapes shapes))) [
  | true ↦ refl
  | false ↦ found_read shapes n
]

-- one of the shapes with the node is found
pub is_there : (shapes : List ReadShape) (n : Term) (c : ReadShape) → Contains shapes c → c.node ≡ n → (d : ReadShape) × (find (λ r. same_term r.node n) shapes ≡ Some d) × Contains shapes d × (d.node ≡ n)
is_there shapes n c i e =
    let test : ReadShape → Bool = λ r. same_term r.node n in
    let some = first_found test shapes c i (equal_same c.node n e) in
    elim (find test shapes) as (λ o. find test shapes ≡ o → IsSome o → (d : ReadShape) × (find test shapes ≡ Some d) × Contains shapes d × (d.node ≡ n)) [
      | None ↦ λ k s. cc
      | Some d ↦ λ k s. let f = found_first test shapes d k in (d, k, f.0, same_equal d.node n f.1)
    ] refl some

pub is_found : (o : Option (Bor (Shape Term))) → IsSome (option_copied o) → IsSome o
is_found None h = cc
is_found (Some c) h = refl
