-- The predicates that a closed shape allows, by number and by term.
use Rattle.std.proofs.Common.{◌≡◌, ◌∙◌, Bool, false, ℕ, suc, ◌<◌, List, [], ◌∷◌, length, get_or, refl, sym, ap, arith, subst, inl, inr}
use Rattle.std.specs.Prelude.{◌⊎◌, ◌↔◌, IsTrue, MatchOption, Option, Some, None, slice_get}
use Rattle.std.specs.List.{Contains}
use Rattle.std.proofs.lemmas.List.Elements.{All-contains}
use Rattle.path_ast.specs.PathReadings.{HasEach}
use Rattle.std.specs.Ordering.{nat_cmp}
use Rattle.std.proofs.lemmas.Option.{slice_get_within}
use Rattle.collections.specs.Listings.{IsListing}
use Rattle.rdf_model.specs.declared.term.Term.{Term}
use Rattle.rdf_model.specs.Numbers.{term_at}
use Rattle.shape_model.specs.declared.component.Component.TheVariants as components
use Rattle.shape_model.specs.declared.result_row.ResultRow.{ResultRow}
use Rattle.shape_model.specs.Components.{Finding, RowsOf, Surroundings}
use Rattle.shape_model.specs.Paths as defined
use Rattle.shape_model.specs.Readings.{Reading}
use Rattle.path_ast.specs.declared.path.Path.{Path, Predicate, Inverse', Sequence', Alternative', ZeroOrMore', OneOrMore', ZeroOrOne'}
use Rattle.component_rows.specs.Listed.{with_allowed}
use Rattle.component_rows.specs.Nodes.{AreNodes, HasNode}
use Rattle.component_rows.proofs.Collecting.{mapped_from, mapped_to}
use Rattle.shape_ast.specs.declared.shape.Shape.{Shape}
use Rattle.shape_ast.specs.Readings.{AreBound, HoldsOfShape, ReadShape, named_shapes, read_optional_path, read_shape}
use Rattle.shape_ast.specs.Standing.{ShapeAllows}
use Rattle.shape_eval.specs.Predicates.{IsPathAt, IsPathAtSome}
use Rattle.shape_eval.proofs.Lookups.{at_place, got_at, named_place, of_place, only_some, some_same}

-- the term of a predicate, if the path is one
abbrev predicate_in : Option defined.Path → Option Term
predicate_in None = None
predicate_in (Some (defined.Predicate p)) = Some p
predicate_in (Some p) = None

path_back : (terms : List Term) (o : Option (Path ℕ)) (v : Term) → read_optional_path (term_at terms) o ≡ Some (defined.Predicate v) → (p : ℕ) × (o ≡ Some (Predicate p)) × (term_at terms p ≡ v)
path_back terms None v e = let k = ap predicate_in e in cc
path_back terms (Some (Predicate p)) v e = (p, refl, some_same (term_at terms p) v (ap predicate_in e))
path_back terms (Some (Inverse' a p)) v e = let k = ap predicate_in e in cc
path_back terms (Some (Sequence' a p b ps)) v e = let k = ap predicate_in e in cc
path_back terms (Some (Alternative' a p b ps)) v e = let k = ap predicate_in e in cc
path_back terms (Some (ZeroOrMore' a p)) v e = let k = ap predicate_in e in cc
path_back terms (Some (OneOrMore' a p)) v e = let k = ap predicate_in e in cc
path_back terms (Some (ZeroOrOne' a p)) v e = let k = ap predicate_in e in cc

-- the path of the shape that was looked up
pub path_got : (shapes : List (Shape ℕ)) (n : ℕ) (d : Shape ℕ) → n < length shapes → (p : ℕ) → ((get_or shapes n d).path ≡ Some (Predicate p)) ↔ IsPathAt shapes n p
path_got shapes n d lt p =
    let at = got_at shapes n d lt in (
      λ is. (get_or shapes n d, at, is),
      λ h. ap (λ (m : Shape ℕ). m.path) (only_some (slice_get shapes n) (get_or shapes n d) h.0 at h.1) ∙ h.2,
    )

-- such a predicate has a term
pub path_bound : (terms : List Term) (shapes : List (Shape ℕ)) → AreBound terms shapes → (places : List ℕ) (p : ℕ) → IsPathAtSome shapes places p → p < length terms
path_bound terms shapes bound places p h =
    let holds : HoldsOfShape (λ n. n < length terms) (length shapes) h.2.0 = All-contains (HoldsOfShape (λ n. n < length terms) (length shapes)) shapes h.2.0 bound (of_place shapes h.0 h.2.0 h.2.1) in
    subst (λ (o : Option (Path ℕ)). MatchOption o (Unit {0}) (HasEach (λ n. n < length terms))) h.2.2 holds.path

named_length : (terms : List Term) (shapes : List (Shape ℕ)) → length (named_shapes terms shapes) ≡ length shapes
named_length terms [] = refl
named_length terms (s ∷ ss) = ap suc (named_length terms ss)

module _ (terms : List Term) (shapes : List (Shape ℕ)) (s : Shape ℕ) (allowed : List ℕ) (listed : IsListing nat_cmp (λ p. IsPathAtSome shapes s.properties p ⊎ Contains s.ignored p) allowed) where
  abbrev Allows : Term → Type 0
  Allows = ShapeAllows (named_shapes terms shapes) (read_shape (term_at terms) s)

  allows_from : (v : Term) → HasNode terms allowed v → Allows v
  allows_from v h =
      let k = mapped_from (term_at terms) allowed v h in
      subst Allows k.2 (elim ((listed.members k.0).0 k.1) [
        | inl i ↦ inl (i.0, read_shape (term_at terms) i.2.0, i.1, named_place terms shapes i.0 i.2.0 i.2.1, ap (read_optional_path (term_at terms)) i.2.2)
        | inr i ↦ inr (mapped_to (term_at terms) s.ignored k.0 i)
      ])

  allows_to : (v : Term) → Allows v → HasNode terms allowed v
  allows_to v = elim [
    | inl h ↦ (
        let within = slice_get_within (named_shapes terms shapes) h.0 h.1 h.3 in
        let many = named_length terms shapes in
        let k = at_place shapes h.0 (omega (arith, within, many)) in
        let m_is : h.1 ≡ read_shape (term_at terms) k.0 = some_same h.1 (read_shape (term_at terms) k.0) (sym h.3 ∙ named_place terms shapes h.0 k.0 k.1) in
        let p = path_back terms k.0.path v (sym (ap (λ (m : ReadShape). m.path) m_is) ∙ h.4) in
        subst (λ (w : Term). HasNode terms allowed w) p.2 (mapped_to (term_at terms) allowed p.0 ((listed.members p.0).1 (inl (h.0, h.2, (k.0, k.1, p.1)))))
        )
    | inr h ↦ (
        let k = mapped_from (term_at terms) s.ignored v h in
        subst (λ (w : Term). HasNode terms allowed w) k.2 (mapped_to (term_at terms) allowed k.0 ((listed.members k.0).1 (inr k.1)))
        )
  ]

  pub closed_same : (t : Surroundings) (y : Reading) → ((p : Term) → y.allowed p ↔ Allows p) → (q : Term) (row : Finding → ResultRow) (r : ResultRow)
      → RowsOf components.Closed t (with_allowed (HasNode terms allowed)) q row r ↔ RowsOf components.Closed t y q row r
  closed_same t y e q row r = (
    λ h. (h.0, (h.1.0, h.1.1, h.1.2, h.1.3, h.1.4, (λ a. h.1.5 (allows_to h.1.1 ((e h.1.1).0 a))), h.1.6)),
    λ h. (h.0, (h.1.0, h.1.1, h.1.2, h.1.3, h.1.4, (λ a. h.1.5 ((e h.1.1).1 (allows_from h.1.1 a))), h.1.6)),
  )

-- what a test says
pub not_so : (b : Bool) → b ≡ false → IsTrue b → ⊥
not_so b e h = cc

-- numbers that are allowed have terms
pub are_nodes : (terms : List Term) (shapes : List (Shape ℕ)) (s : Shape ℕ) (allowed : List ℕ) → IsListing nat_cmp (λ p. IsPathAtSome shapes s.properties p ⊎ Contains s.ignored p) allowed
    → ((p : ℕ) → IsPathAtSome shapes s.properties p → p < length terms) → ((p : ℕ) → Contains s.ignored p → p < length terms) → AreNodes terms allowed
are_nodes terms shapes s allowed listed paths ignored = record {
  ascending = listed.ascending;
  named = λ p c. elim ((listed.members p).0 c) [ inl i ↦ paths p i | inr i ↦ ignored p i ];
}
