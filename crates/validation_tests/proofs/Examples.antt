-- The worked rows hold.
use Rattle.std.specs.List.{Contains}
use Rattle.std.specs.Prelude.{pos}
use Rattle.literal_order.specs.Datatypes.{datatype_of, integer_type, is_in_range, local_datatype}
use Rattle.literal_order.specs.Digits.{whole_number}
use Rattle.literal_order.specs.Numerals.{integer_reading}
use Rattle.literal_order.specs.Values.{reading as literal_reading}
use Rattle.std.proofs.Common.{subst, sym, ◌≡◌, ℕ, List, [], ◌∷◌, length, refl, ap, arith, inl, inr, codes}
use Rattle.rdf_model.specs.declared.term.Term.{Term}
use Rattle.rdf_model.specs.declared.term.Term.TheVariants.{Blank, Iri, Literal}
use Rattle.rdf_model.specs.declared.triple.Triple.{Triple}
use Rattle.shape_model.specs.declared.component.Component.TheVariants as components
use Rattle.validation_tests.specs.Examples.{CountExample, ForbiddenExample, MinCountExample, NodeKindExample, count_shapes, example, example_shapes, integer, asks_for_iri, asks_for_one, letter, along_p, from_subjects, from_a}
use Rattle.shape_model.specs.Paths.{Alternative, Inverse, OneOrMore, Path, Predicate, Sequence, ZeroOrMore, ZeroOrOne}
use Rattle.shape_model.specs.Readings.{IsDeactivated, ValueNode, reading}
use Rattle.shape_model.specs.ShapeSyntax.{PathOf}
use Rattle.shape_model.specs.TermTests.{IsOfKind, count_of}
use Rattle.shape_model.specs.Triples.{IsBlank}
use Rattle.shape_model.specs.Vocabulary.{ShDeactivated, ShMinCount, ShPath, ShTargetNode, property_iri, sh, true_literal, xsd_integer}
use Rattle.shape_model.specs.Walks.{Walk}
use Rattle.shape_properties.specs.declared.property.ShapeProperty.TheVariants as properties
use Rattle.collections.proofs.Members.{has_cases}

not_kind : sh (codes "IRI") ≡ true_literal → ⊥
unfolding sh true_literal
not_kind e = cc

not_path : example (codes "p") ≡ true_literal → ⊥
unfolding true_literal
not_path e = cc

deactivated : Triple
deactivated = record { subject = example (codes "P"); predicate = property_iri ShDeactivated; object = true_literal }

live : IsDeactivated (reading example_shapes (example (codes "P"))) → ⊥
unfolding deactivated
live c = elim (has_cases asks_for_iri (along_p ∷ from_subjects ∷ []) deactivated c) [
  | inl e ↦ not_kind (ap (λ (x : Triple). x.object) e)
  | inr d ↦ elim (has_cases along_p (from_subjects ∷ []) deactivated d) [
    | inl e ↦ not_path (ap (λ (x : Triple). x.object) e)
    | inr k ↦ elim (has_cases from_subjects [] deactivated k) [ inl e ↦ not_path (ap (λ (x : Triple). x.object) e) | inr l ↦ absurd (omega arith) ]
  ]
]

abbrev size : Term → ℕ
size (Blank session number) = 0
size (Iri iri) = length iri
size (Literal lexical datatype language) = 0

no_iri : IsOfKind (sh (codes "IRI")) letter → ⊥
unfolding sh
no_iri = elim [
  | inl e ↦ let k : size (sh (codes "IRI")) ≡ size (sh (codes "Literal")) = ap size e in absurd (omega (arith, k))
  | inr (inl e) ↦ let k : size (sh (codes "IRI")) ≡ size (sh (codes "BlankNodeOrLiteral")) = ap size e in absurd (omega (arith, k))
  | inr (inr e) ↦ let k : size (sh (codes "IRI")) ≡ size (sh (codes "IRIOrLiteral")) = ap size e in absurd (omega (arith, k))
]

pub node_kind_example : NodeKindExample
node_kind_example = (
  example (codes "P"),
  example (codes "a"),
  inr (inr (inr (inl (example (codes "p"), (2, omega arith, refl), (letter, (0, omega arith, refl)))))),
  (
    live,
    inl (
      components.NodeKind,
      (
        sh (codes "IRI"),
        (0, omega arith, refl),
        (letter, inr (Predicate (example (codes "p")), (example (codes "p"), (1, omega arith, refl), (refl, tt)), (0, omega arith, refl)), no_iri, refl),
      ),
    ),
  ),
)

abbrev lexical_size : Term → ℕ
lexical_size (Blank session number) = 0
lexical_size (Iri iri) = 0
lexical_size (Literal lexical datatype language) = length lexical

-- the one sh:path of the example is e:p
not_least : (v : Term) → asks_for_one ≡ record { subject = example (codes "P"); predicate = property_iri ShPath; object = v } → ⊥
unfolding sh
not_least v e = let k : size (property_iri ShMinCount) ≡ size (property_iri ShPath) = ap (λ (x : Triple). size x.predicate) e in absurd (omega (arith, k))

not_target : (v : Term) → from_a ≡ record { subject = example (codes "P"); predicate = property_iri ShPath; object = v } → ⊥
unfolding sh
not_target v e = let k : size (property_iri ShTargetNode) ≡ size (property_iri ShPath) = ap (λ (x : Triple). size x.predicate) e in absurd (omega (arith, k))

one_path : (v : Term) → Contains count_shapes (record { subject = example (codes "P"); predicate = property_iri ShPath; object = v }) → example (codes "p") ≡ v
one_path v c =
    let t : Triple = record { subject = example (codes "P"); predicate = property_iri ShPath; object = v } in
    elim (has_cases asks_for_one (along_p ∷ from_a ∷ []) t c) [
      | inl e ↦ absurd (not_least v e)
      | inr d ↦ elim (has_cases along_p (from_a ∷ []) t d) [
        | inl e ↦ ap (λ (x : Triple). x.object) e
        | inr k ↦ elim (has_cases from_a [] t k) [ inl e ↦ absurd (not_target v e) | inr l ↦ absurd (omega arith) ]
      ]
    ]

-- in a graph without a triple a predicate path leads nowhere, and a path of another kind starts at a blank node
no_walk : (s : List Triple) (n : Term) (p : Path) (x y : Term) → PathOf s n p → (IsBlank n → ⊥) → Walk [] p x y → ⊥
no_walk s n (Predicate q) x y i never w = absurd (omega arith)
no_walk s n (Inverse p) x y i never w = never i.1.0
no_walk s n (Sequence ps) x y i never w = never i.0
no_walk s n (Alternative ps) x y i never w = never i.1.0
no_walk s n (ZeroOrMore p) x y i never w = never i.1.0
no_walk s n (OneOrMore p) x y i never w = never i.1.0
no_walk s n (ZeroOrOne p) x y i never w = never i.1.0

no_value : (v : Term) → ValueNode [] (reading count_shapes (example (codes "P"))) (example (codes "a")) v → ⊥
no_value v = elim [
  | inl i ↦ i.0 (example (codes "p")) (1, omega arith, refl)
  | inr i ↦ no_walk count_shapes i.1.0 i.0 (example (codes "a")) v i.1.2 (λ b. subst (λ (x : Term). IsBlank x) (sym (one_path i.1.0 i.1.1)) b) i.2
]

not_count : integer (codes "1") ≡ true_literal → ⊥
unfolding true_literal xsd_integer
not_count e = let k : lexical_size (integer (codes "1")) ≡ lexical_size true_literal = ap lexical_size e in absurd (omega (arith, k))

not_node : example (codes "a") ≡ true_literal → ⊥
unfolding true_literal
not_node e = cc

count_live : IsDeactivated (reading count_shapes (example (codes "P"))) → ⊥
unfolding deactivated
count_live c = elim (has_cases asks_for_one (along_p ∷ from_a ∷ []) deactivated c) [
  | inl e ↦ not_count (ap (λ (x : Triple). x.object) e)
  | inr d ↦ elim (has_cases along_p (from_a ∷ []) deactivated d) [
    | inl e ↦ not_path (ap (λ (x : Triple). x.object) e)
    | inr k ↦ elim (has_cases from_a [] deactivated k) [ inl e ↦ not_node (ap (λ (x : Triple). x.object) e) | inr l ↦ absurd (omega arith) ]
  ]
]

pub count_example : CountExample
unfolding count_of literal_reading datatype_of local_datatype integer_type integer_reading is_in_range whole_number xsd_integer
count_example = (refl, refl, refl, refl, refl, refl, refl, refl, refl)

pub min_count_example : MinCountExample
min_count_example = (
  example (codes "P"),
  example (codes "a"),
  inl (2, omega arith, refl),
  (
    count_live,
    inl (
      components.MinCount,
      (
        integer (codes "1"),
        (0, omega arith, refl),
        (
          0,
          record { items = []; listing = record { ascending = tt; members = λ v. (λ c. absurd (omega arith), λ i. absurd (no_value v i)) }; count = refl },
          (pos 1, count_example.0, refl),
          refl,
        ),
      ),
    ),
  ),
)

pub forbidden_example : ForbiddenExample
forbidden_example = inl (inl (inr (inl (properties.Sparql, letter, (0, omega arith, refl), (refl, refl)))))
