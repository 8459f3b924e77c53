-- The places that constraints name, by the property that the constraints are for.
use Rattle.std.proofs.Common.{◌≡◌, ◌∙◌, ℕ, ◌+◌, ◌≤◌, Bool, true, false, List, [], ◌∷◌, ◌++◌, refl, sym, ap, subst, append_assoc, arith, inl, inr}
use borrow.Author.Tests.{eqb-true}
use Rattle.std.specs.Prelude.{if◌then◌else◌}
use Rattle.std.specs.List.{Contains, flat_map}
use Rattle.std.proofs.lemmas.List.Elements.{Contains-append_cases}
use Rattle.collections.proofs.Members.{has_head, has_tail}
use Rattle.rdf_model.specs.declared.term.Term.{Term}
use Rattle.rdf_model.specs.declared.triple.Triple.{Triple}
use Rattle.shape_model.specs.Components.{parameter_of}
use Rattle.shape_model.specs.ShapeSyntax.{ListOf}
use Rattle.shape_model.specs.Vocabulary.{ShAnd, ShNode, ShNot, ShOr, ShXone, ShapeProperty}
use Rattle.shape_sizes.specs.Sizes.{AreMembersOf}
use Rattle.shape_ast.specs.declared.component.TermComponent.{TermComponent}
use Rattle.shape_ast.specs.declared.component.TermComponent.TheVariants as by_term
use Rattle.shape_ast.specs.declared.component.ListComponent.{ListComponent}
use Rattle.shape_ast.specs.declared.component.ListComponent.TheVariants as by_list
use Rattle.shape_ast.specs.declared.component.ShapeComponent.{ShapeComponent}
use Rattle.shape_ast.specs.declared.component.ShapeComponent.TheVariants as by_shape
use Rattle.shape_ast.specs.declared.component.ShapesComponent.{ShapesComponent}
use Rattle.shape_ast.specs.declared.component.ShapesComponent.TheVariants as by_shapes
use Rattle.shape_ast.specs.Components.{list_component, shape_component, shapes_component, term_component}
use Rattle.shape_ast.specs.declared.constraint.Constraint.{Constraint}
use Rattle.shape_ast.specs.declared.constraint.Constraint.TheVariants.{ByList, ByShape, ByShapes, ByTerm}
use Rattle.shape_ast.specs.Readings.{ReadShape, component_of, parameter}
use Rattle.shape_ast.specs.Standing.{AreAt, IsLinked}
use Rattle.read_plans.specs.ShapeRows.{constraint_places}
use Rattle.read_plans.proofs.Lists.{flat_to}
use Rattle.plan_laws.proofs.Params.{is_for, number, params}
use Rattle.plan_laws.proofs.Places.{at_append}
use Rattle.plan_laws.proofs.Sums.{total, total_append}

abbrev pub places_for : ShapeProperty → List (Constraint Term) → List ℕ
places_for p [] = []
places_for p (k ∷ ks) = (if is_for p k then constraint_places k else []) ++ places_for p ks

-- they are among those that are named
pub places_named : (p : ShapeProperty) (ks : List (Constraint Term)) (n : ℕ) → Contains (places_for p ks) n → Contains (flat_map constraint_places ks) n
places_named p ks n c = let h = from ks c in flat_to constraint_places ks h.0 n h.1 h.2
  where
    here : (b : Bool) (ms : List ℕ) → Contains (if b then ms else []) n → Contains ms n
    here true ms c = c
    here false ms c = absurd (let l = c.1 in omega arith)

    from : (js : List (Constraint Term)) → Contains (places_for p js) n → (k : Constraint Term) × Contains js k × Contains (constraint_places k) n
    from [] c = absurd (let l = c.1 in omega arith)
    from (k ∷ js) c = elim (Contains-append_cases (if is_for p k then constraint_places k else []) (places_for p js) n c) [
      | inl d ↦ (k, has_head k js, here (is_for p k) (constraint_places k) d)
      | inr d ↦ (let h = from js d in (h.0, has_tail k js h.0 h.1, h.2))
    ]

-- what all of them have, by the properties that name shapes
module _ (f : ℕ → ℕ) where
  abbrev at : ShapeProperty → Constraint Term → ℕ
  at p k = total f (if is_for p k then constraint_places k else [])

  abbrev AllParts : Constraint Term → Type 0
  AllParts k = total f (constraint_places k) ≡ at ShNot k + at ShNode k + at ShAnd k + at ShOr k + at ShXone k

  term_parts : (component : TermComponent) (p : Term) → AllParts (ByTerm component p)
  term_parts by_term.Class p = refl
  term_parts _ p = refl

  parts : (k : Constraint Term) → AllParts k
  parts (ByTerm component p) = term_parts component p
  parts (ByList by_list.LanguageIn p members) = refl
  parts (ByList by_list.In p members) = refl
  parts (ByShape by_shape.Not p shape) = omega arith
  parts (ByShape by_shape.Node p shape) = omega arith
  parts (ByShapes by_shapes.And p shapes) = omega arith
  parts (ByShapes by_shapes.Or p shapes) = omega arith
  parts (ByShapes by_shapes.Xone p shapes) = omega arith

  pub named_total : (ks : List (Constraint Term)) → total f (flat_map constraint_places ks)
      ≡ total f (places_for ShNot ks) + total f (places_for ShNode ks) + total f (places_for ShAnd ks) + total f (places_for ShOr ks) + total f (places_for ShXone ks)
  named_total [] = refl
  named_total (k ∷ ks) =
      let here = parts k in
      let rest = named_total ks in
      let split = total_append f (constraint_places k) (flat_map constraint_places ks) in
      let a = next ShNot in
      let b = next ShNode in
      let c = next ShAnd in
      let d = next ShOr in
      let e = next ShXone in
      omega (arith, here, rest, split, a, b, c, d, e)
    where
      next : (p : ShapeProperty) → total f (places_for p (k ∷ ks)) ≡ at p k + total f (places_for p ks)
      next p = total_append f (if is_for p k then constraint_places k else []) (places_for p ks)

-- the sorts of constraints by their numbers
pub term_number : (component : TermComponent) → number (parameter_of (term_component component)) ≤ 6
term_number by_term.Class = omega arith
term_number _ = omega arith

pub list_number : (component : ListComponent) → number (parameter_of (list_component component)) ≤ 6
list_number by_list.LanguageIn = omega arith
list_number by_list.In = omega arith

pub shape_number : (component : ShapeComponent) → (7 ≤ number (parameter_of (shape_component component))) × (number (parameter_of (shape_component component)) ≤ 8)
shape_number by_shape.Not = (omega arith, omega arith)
shape_number by_shape.Node = (omega arith, omega arith)

shapes_number : (component : ShapesComponent) → 9 ≤ number (parameter_of (shapes_component component))
shapes_number by_shapes.And = omega arith
shapes_number by_shapes.Or = omega arith
shapes_number by_shapes.Xone = omega arith

pub same_number : (p : ShapeProperty) (k : Constraint Term) → is_for p k ≡ true → number (parameter_of (component_of k)) ≡ number p
same_number p k e = eqb-true (number (parameter_of (component_of k))) (number p) e

module _ (shapes : List ReadShape) where
  -- a constraint for sh:not or sh:node names the shape of its value
  pub one_linked : (p : ShapeProperty) → 7 ≤ number p → number p ≤ 8 → (k : Constraint Term) → IsLinked shapes k → is_for p k ≡ true → AreAt shapes (constraint_places k) (parameter k ∷ [])
  one_linked p low high (ByTerm component q) link e = absurd (let a = term_number component in let b = same_number p (ByTerm component q) e in omega (arith, a, b, low))
  one_linked p low high (ByList component q members) link e = absurd (let a = list_number component in let b = same_number p (ByList component q members) e in omega (arith, a, b, low))
  one_linked p low high (ByShape component q place) link e = (link, tt)
  one_linked p low high (ByShapes component q places) link e = absurd (let a = shapes_number component in let b = same_number p (ByShapes component q places) e in omega (arith, a, b, high))

  pub ones_at : (p : ShapeProperty) (ks : List (Constraint Term)) → ((k : Constraint Term) → Contains ks k → is_for p k ≡ true → AreAt shapes (constraint_places k) (parameter k ∷ [])) → AreAt shapes (places_for p ks) (params p ks)
  ones_at p [] each = tt
  ones_at p (k ∷ ks) each =
      let rest = ones_at p ks (λ j c e. each j (has_tail k ks j c) e) in
      elim (is_for p k) as (λ (b : Bool). is_for p k ≡ b → AreAt shapes ((if b then constraint_places k else []) ++ places_for p ks) (if b then parameter k ∷ params p ks else params p ks)) [
        | true ↦ λ e. at_append shapes (constraint_places k) (places_for p ks) (parameter k ∷ []) (params p ks) (each k (has_head k ks) e) rest
        | false ↦ λ e. rest
      ] refl

  module _ (s : List Triple) where
    pub lists_at : (p : ShapeProperty) (ks : List (Constraint Term)) → ((k : Constraint Term) → Contains ks k → is_for p k ≡ true → (ms : List Term) × ListOf s (parameter k) ms × AreAt shapes (constraint_places k) ms)
        → (ms : List Term) × AreMembersOf s (params p ks) ms × AreAt shapes (places_for p ks) ms
    lists_at p [] each = ([], refl, tt)
    lists_at p (k ∷ ks) each =
        let rest = lists_at p ks (λ j c e. each j (has_tail k ks j c) e) in
        elim (is_for p k) as (λ (b : Bool). is_for p k ≡ b → (ms : List Term) × AreMembersOf s (if b then parameter k ∷ params p ks else params p ks) ms × AreAt shapes ((if b then constraint_places k else []) ++ places_for p ks) ms) [
          | true ↦ λ e. (let here = each k (has_head k ks) e in (
            here.0 ++ rest.0,
            (here.0, rest.0, inl here.1, rest.1, refl),
            at_append shapes (constraint_places k) (places_for p ks) here.0 rest.0 here.2 rest.2,
          ))
          | false ↦ λ e. rest
        ] refl

-- the members of the lists at more heads
pub members_append : (s : List Triple) (hs is : List Term) (ms ns : List Term) → AreMembersOf s hs ms → AreMembersOf s is ns → AreMembersOf s (hs ++ is) (ms ++ ns)
members_append s [] is ms ns a b = subst (λ (xs : List Term). AreMembersOf s is (xs ++ ns)) (sym a) b
members_append s (h ∷ hs) is ms ns a b =
    (a.0, a.1 ++ ns, a.2, members_append s hs is a.1 ns a.3 b, ap (λ (xs : List Term). xs ++ ns) a.4 ∙ append_assoc a.0 a.1 ns)
