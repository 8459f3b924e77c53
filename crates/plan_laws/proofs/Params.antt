-- The values of a property that constraints are for.
use Rattle.std.proofs.Common.{◌≡◌, ◌∙◌, ℕ, zero, suc, ◌+◌, ◌<◌, Bool, true, false, List, [], ◌∷◌, length, map, refl, sym, ap, subst, arith, inl, inr}
use borrow.Author.Tests.{eqb-true, eq-eqb}
use Rattle.std.specs.Prelude.{◌↔◌, ◌==◌, if◌then◌else◌}
use Rattle.std.specs.List.{Contains}
use Rattle.std.specs.declared.cmp.Ordering.{Ordering}
use Rattle.std.specs.declared.cmp.Ordering.TheVariants.{Less, Equal, Greater}
use Rattle.std.specs.Ordering.{ordering_then}
use Rattle.std.specs.Cmp.{tied_itself}
use Rattle.collections.specs.Ordered.{AllAbove, IsAscending}
use Rattle.collections.proofs.Members.{has_cases, has_equal, has_tail, same_lists}
use Rattle.rdf_model.specs.declared.term.Term.{Term}
use Rattle.rdf_model.specs.declared.triple.Triple.{Triple}
use Rattle.rdf_model.specs.Orders.{term_total}
use Rattle.rdf_model.specs.Terms.{term_cmp, triple_cmp}
use Rattle.shape_model.specs.Components.{parameter_of}
use Rattle.shape_model.specs.Declarations.{values_of}
use Rattle.shape_model.specs.ShapeSyntax.{HasProperty}
use Rattle.shape_model.specs.Vocabulary.{ShAnd, ShClass, ShClosed, ShDisjoint, ShEquals, ShLessThan, ShLessThanOrEquals, ShNode, ShNot, ShOr, ShXone, ShapeProperty, property_iri}
use Rattle.shape_model.proofs.Declarations.{values_law}
use Rattle.shape_ast.specs.declared.constraint.Constraint.{Constraint}
use Rattle.shape_ast.specs.Readings.{component_of, parameter}
use Rattle.shape_ast.specs.Standing.{IsFor}
use Rattle.shape_ast.specs.Once.{constraint_triple}

-- the properties whose constraints have looks, or name shapes, by numbers
abbrev pub number : ShapeProperty → ℕ
number ShClass = 1
number ShEquals = 2
number ShDisjoint = 3
number ShLessThan = 4
number ShLessThanOrEquals = 5
number ShClosed = 6
number ShNot = 7
number ShNode = 8
number ShAnd = 9
number ShOr = 10
number ShXone = 11
number _ = 0

abbrev named : ℕ → ShapeProperty
named zero = ShXone
named (suc zero) = ShClass
named (suc (suc zero)) = ShEquals
named (suc (suc (suc zero))) = ShDisjoint
named (suc (suc (suc (suc zero)))) = ShLessThan
named (suc (suc (suc (suc (suc zero))))) = ShLessThanOrEquals
named (suc (suc (suc (suc (suc (suc zero)))))) = ShClosed
named (suc (suc (suc (suc (suc (suc (suc zero))))))) = ShNot
named (suc (suc (suc (suc (suc (suc (suc (suc zero)))))))) = ShNode
named (suc (suc (suc (suc (suc (suc (suc (suc (suc zero))))))))) = ShAnd
named (suc (suc (suc (suc (suc (suc (suc (suc (suc (suc zero)))))))))) = ShOr
named n = ShXone

back : (p : ShapeProperty) → 0 < number p → named (number p) ≡ p
back ShClass l = refl
back ShEquals l = refl
back ShDisjoint l = refl
back ShLessThan l = refl
back ShLessThanOrEquals l = refl
back ShClosed l = refl
back ShNot l = refl
back ShNode l = refl
back ShAnd l = refl
back ShOr l = refl
back ShXone l = refl
back _ l = absurd (omega arith)

-- the constraint is for a value of the property
abbrev pub is_for : ShapeProperty → Constraint Term → Bool
is_for p k = number (parameter_of (component_of k)) == number p

pub for_from : (p : ShapeProperty) (k : Constraint Term) → 0 < number p → is_for p k ≡ true → parameter_of (component_of k) ≡ p
for_from p k l e =
    let same : number (parameter_of (component_of k)) ≡ number p = eqb-true (number (parameter_of (component_of k))) (number p) e in
    sym (back (parameter_of (component_of k)) (omega (arith, same, l))) ∙ ap named same ∙ back p l

pub for_to : (p : ShapeProperty) (k : Constraint Term) → parameter_of (component_of k) ≡ p → is_for p k ≡ true
for_to p k e = eq-eqb (number (parameter_of (component_of k))) (number p) (ap number e)

abbrev pub one : Bool → ℕ
one true = 1
one false = 0

abbrev pub params : ShapeProperty → List (Constraint Term) → List Term
params p [] = []
params p (k ∷ ks) = if is_for p k then parameter k ∷ params p ks else params p ks

pub params_length : (p : ShapeProperty) (k : Constraint Term) (ks : List (Constraint Term)) → length (params p (k ∷ ks)) ≡ one (is_for p k) + length (params p ks)
params_length p k ks = elim (is_for p k) as (λ (b : Bool). length (if b then parameter k ∷ params p ks else params p ks) ≡ one b + length (params p ks)) [
  | true ↦ omega arith
  | false ↦ omega arith
]

-- the values of those constraints
pub params_from : (p : ShapeProperty) → 0 < number p → (ks : List (Constraint Term)) (v : Term) → Contains (params p ks) v → (k : Constraint Term) × Contains ks k × IsFor p v k
params_from p l [] v c = absurd (omega arith)
params_from p l (k ∷ ks) v c = elim (is_for p k) as (λ (b : Bool). is_for p k ≡ b → Contains (if b then parameter k ∷ params p ks else params p ks) v → (j : Constraint Term) × Contains (k ∷ ks) j × IsFor p v j) [
  | true ↦ λ e d. elim (has_cases (parameter k) (params p ks) v d) [
    | inl f ↦ (k, has_equal k ks k refl, (for_from p k l e, f))
    | inr r ↦ (let h = params_from p l ks v r in (h.0, has_tail k ks h.0 h.1, h.2))
  ]
  | false ↦ λ e d. (let h = params_from p l ks v d in (h.0, has_tail k ks h.0 h.1, h.2))
] refl c

pub params_to : (p : ShapeProperty) (ks : List (Constraint Term)) (v : Term) (j : Constraint Term) → Contains ks j → IsFor p v j → Contains (params p ks) v
params_to p [] v j c f = absurd (omega arith)
params_to p (k ∷ ks) v j c f = elim (is_for p k) as (λ (b : Bool). is_for p k ≡ b → Contains (if b then parameter k ∷ params p ks else params p ks) v) [
  | true ↦ λ e. elim (has_cases k ks j c) [
    | inl d ↦ has_equal (parameter k) (params p ks) v (ap (λ (i : Constraint Term). parameter i) d ∙ f.1)
    | inr d ↦ has_tail (parameter k) (params p ks) v (params_to p ks v j d f)
  ]
  | false ↦ λ e. elim (has_cases k ks j c) [
    | inl d ↦ (let t = for_to p k (ap (λ (i : Constraint Term). parameter_of (component_of i)) d ∙ f.0) in cc)
    | inr d ↦ params_to p ks v j d f
  ]
] refl

-- they ascend with the triples that say the constraints
last_part : (a b o : Ordering) → a ≡ Equal → b ≡ Equal → ordering_then a (ordering_then b o) ≡ Less → o ≡ Less
last_part Equal Equal o e f h = h
last_part Less b o e f h = cc
last_part Greater b o e f h = cc
last_part Equal Less o e f h = cc
last_part Equal Greater o e f h = cc

tied : (a b : Term) → a ≡ b → term_cmp a b ≡ Equal
tied a b e = subst (λ (c : Term). term_cmp a c ≡ Equal) e (tied_itself term_total a)

module _ (n : Term) (p : ShapeProperty) (l : 0 < number p) where
  rises : (j k : Constraint Term) → is_for p j ≡ true → is_for p k ≡ true → triple_cmp (constraint_triple n j) (constraint_triple n k) ≡ Less → term_cmp (parameter j) (parameter k) ≡ Less
  rises j k d e h =
      let same : property_iri (parameter_of (component_of j)) ≡ property_iri (parameter_of (component_of k)) = ap property_iri (for_from p j l d ∙ sym (for_from p k l e)) in
      last_part (term_cmp n n) (term_cmp (property_iri (parameter_of (component_of j))) (property_iri (parameter_of (component_of k)))) (term_cmp (parameter j) (parameter k)) (tied_itself term_total n) (tied (property_iri (parameter_of (component_of j))) (property_iri (parameter_of (component_of k))) same) h

  above : (j : Constraint Term) → is_for p j ≡ true → (ks : List (Constraint Term)) → AllAbove triple_cmp (constraint_triple n j) (map (constraint_triple n) ks) → AllAbove term_cmp (parameter j) (params p ks)
  above j d [] a = tt
  above j d (k ∷ ks) a = elim (is_for p k) as (λ (b : Bool). is_for p k ≡ b → AllAbove term_cmp (parameter j) (if b then parameter k ∷ params p ks else params p ks)) [
    | true ↦ λ e. (rises j k d e a.0, above j d ks a.1)
    | false ↦ λ e. above j d ks a.1
  ] refl

  params_ascend : (ks : List (Constraint Term)) → IsAscending triple_cmp (map (constraint_triple n) ks) → IsAscending term_cmp (params p ks)
  params_ascend [] a = tt
  params_ascend (k ∷ ks) a = elim (is_for p k) as (λ (b : Bool). is_for p k ≡ b → IsAscending term_cmp (if b then parameter k ∷ params p ks else params p ks)) [
    | true ↦ λ e. (above k e ks a.0, params_ascend ks a.1)
    | false ↦ λ e. params_ascend ks a.1
  ] refl

  pub params_are : (s : List Triple) (ks : List (Constraint Term)) → IsAscending triple_cmp (map (constraint_triple n) ks)
      → ((v : Term) → HasProperty s n p v ↔ ((k : Constraint Term) × Contains ks k × IsFor p v k))
      → params p ks ≡ values_of s n (property_iri p)
  params_are s ks a told =
      let values = values_law s n (property_iri p) in
      same_lists term_cmp term_total (params p ks) (values_of s n (property_iri p)) (params_ascend ks a) values.ascending (λ v. (
        λ c. (values.members v).1 ((told v).1 (params_from p l ks v c)),
        λ c. let h = (told v).0 ((values.members v).0 c) in params_to p ks v h.0 h.1 h.2,
      ))
