-- What the answers tell of the components that ask whether value nodes conform to other shapes.
use Rattle.std.proofs.Common.{◌≡◌, ℕ, ◌<◌, Bool, List, [], ◌∷◌, length, map, get_or, refl, sym, arith, subst, inl, inr}
use Rattle.std.specs.Prelude.{◌↔◌, Some}
use Rattle.std.specs.List.{Contains}
use Rattle.collections.proofs.Members.{has_cases}
use Rattle.rdf_model.specs.declared.term.Term.{Term}
use Rattle.rdf_model.specs.declared.triple.Triple.{Triple}
use Rattle.rdf_model.specs.declared.ids.Ids.{Ids}
use Rattle.rdf_model.specs.Numbers.{term_at, graph_of, IsNumbering}
use Rattle.shape_model.specs.declared.component.Component.TheVariants as components
use Rattle.shape_model.specs.declared.result_row.ResultRow.{ResultRow}
use Rattle.shape_model.specs.Components.{ConformsTo, Finding, ForCount, ForEach, ForQualifiedCount, IsQualified, NoneOf, OneOf, RowsOf, Surroundings, found_alone}
use Rattle.shape_model.specs.Readings.{Reading}
use Rattle.shape_model.specs.Triples.{IsMember}
use Rattle.component_rows.specs.Answers.{AreAnswersTo}
use Rattle.component_rows.specs.Conformance.{AreTold, told_shapes}
use Rattle.component_rows.specs.Listed.{untold, with_list}
use Rattle.component_rows.specs.Nodes.{AreNodes, HasNode}
use Rattle.component_rows.proofs.Conforming.{conforms_at, placed}
use Rattle.component_rows.proofs.Numbers.{counts_same}
use Rattle.shape_ast.specs.Readings.{ReadShape}
use Rattle.shape_ast.specs.Standing.{AreAt, IsAt, shape_reading}
use Rattle.qualified_shapes.specs.Qualified.{with_qualified}
use Rattle.shape_eval.specs.Around.{around}
use Rattle.shape_eval.specs.Told.{ConformsAt}
use Rattle.shape_eval.proofs.Lookups.{member_place, of_places, one_at, only_some, place_of}

one_same : (P Q : Term → Type 0) (ms : List Term) → ((m : Term) → IsMember ms m → P m ↔ Q m) → OneOf P ms → OneOf Q ms
one_same P Q [] e h = h
one_same P Q (m ∷ ms) e h = elim h [
  | inl x ↦ inl ((e m (inl refl)).0 x.0, λ k i p. x.1 k i ((e k (inr i)).1 p))
  | inr x ↦ inr (λ p. x.0 ((e m (inl refl)).1 p), one_same P Q ms (λ k i. e k (inr i)) x.1)
]

pub only_named : (terms : List Term) (n : ℕ) → n < length terms → (m : ℕ) → Contains (n ∷ []) m → m < length terms
only_named terms n bound m c = elim (has_cases n [] m c) [ inl e ↦ subst (λ (k : ℕ). k < length terms) e bound | inr never ↦ absurd (omega arith) ]

module _ (terms : List Term) (numbering : IsNumbering terms) (values : List ℕ) (nodes : AreNodes terms values) (ids : List Ids) (s : List Triple) (n f : ℕ)
    (shapes : List ℕ) (named : (m : ℕ) → Contains shapes m → m < length terms) (lists : List (List Bool)) (told : AreTold shapes values lists)
    (right : (k : ℕ) → k < length shapes → AreAnswersTo (ConformsAt (graph_of terms ids) s n (term_at terms (get_or shapes k 0))) terms values (get_or lists k [])) where
  abbrev Given : Surroundings
  Given = told_shapes terms shapes values lists

  abbrev Around : Surroundings
  Around = around terms ids s n values f

  -- a value node conforms by the answers where it does
  conforms : (r : ResultRow) (v : Term) → HasNode terms values v → (k : ℕ) → k < length shapes → (m : Term) → term_at terms (get_or shapes k 0) ≡ m → ConformsTo Given m v ↔ ConformsTo Around m v
  conforms r v has k lt m is =
      let p = placed terms numbering values nodes v has in
      let answer = conforms_at terms numbering values nodes lists shapes named told r v p.0 p.1 p.2 k lt in
      let truth = (right k lt).each p.0 p.1 in
      let at : ConformsTo Given (term_at terms (get_or shapes k 0)) v ↔ ConformsTo Around (term_at terms (get_or shapes k 0)) v = (
        λ c. subst (λ (w : Term). ConformsAt (graph_of terms ids) s n (term_at terms (get_or shapes k 0)) w) p.2 (truth.0 (answer.1 c)),
        λ c. answer.0 (truth.1 (subst (λ (w : Term). ConformsAt (graph_of terms ids) s n (term_at terms (get_or shapes k 0)) w) (sym p.2) c)),
      ) in
      subst (λ (t : Term). ConformsTo Given t v ↔ ConformsTo Around t v) is at

  abbrev Members : List Term
  Members = map (term_at terms) shapes

  member : (r : ResultRow) (v : Term) → HasNode terms values v → (m : Term) → IsMember Members m → ConformsTo Given m v ↔ ConformsTo Around m v
  member r v has m i = let k = member_place terms shapes m i in conforms r v has k.0 k.1 m k.2

  module _ (q : Term) (row : Finding → ResultRow) where
    -- the same results, where what is asked of the value nodes is the same
    each_same : (P Q : Term → Type 0) (r : ResultRow) → ((v : Term) → HasNode terms values v → P v ↔ Q v) → ForEach Given row P r ↔ ForEach Around row Q r
    each_same P Q r e = (λ h. (h.0, h.1, (e h.0 h.1).0 h.2, h.3), λ h. (h.0, h.1, (e h.0 h.1).1 h.2, h.3))

    of_list : (P Q : List Term → Term → Type 0) (r : ResultRow) → ((v : Term) → HasNode terms values v → P Members v ↔ Q Members v)
        → ((ms : List Term) × (ms ≡ Members) × ForEach Given row (P ms) r) ↔ ((ms : List Term) × (ms ≡ Members) × ForEach Around row (Q ms) r)
    of_list P Q r e = (
      λ h. (Members, refl, (each_same (P Members) (Q Members) r e).0 (subst (λ (ms : List Term). ForEach Given row (P ms) r) h.1 h.2)),
      λ h. (Members, refl, (each_same (P Members) (Q Members) r e).1 (subst (λ (ms : List Term). ForEach Around row (Q ms) r) h.1 h.2)),
    )

    pub and_same : (r : ResultRow) → RowsOf components.And Given (with_list Members) q row r ↔ RowsOf components.And Around (with_list Members) q row r
    and_same r = of_list (λ ms v. ((m : Term) → IsMember ms m → ConformsTo Given m v) → ⊥) (λ ms v. ((m : Term) → IsMember ms m → ConformsTo Around m v) → ⊥) r
        (λ v has. (λ x all. x (λ m i. (member r v has m i).1 (all m i)), λ x all. x (λ m i. (member r v has m i).0 (all m i))))

    pub or_same : (r : ResultRow) → RowsOf components.Or Given (with_list Members) q row r ↔ RowsOf components.Or Around (with_list Members) q row r
    or_same r = of_list (λ ms v. NoneOf (λ m. ConformsTo Given m v) ms) (λ ms v. NoneOf (λ m. ConformsTo Around m v) ms) r
        (λ v has. (λ x m i c. x m i ((member r v has m i).1 c), λ x m i c. x m i ((member r v has m i).0 c)))

    pub xone_same : (r : ResultRow) → RowsOf components.Xone Given (with_list Members) q row r ↔ RowsOf components.Xone Around (with_list Members) q row r
    xone_same r = of_list (λ ms v. OneOf (λ m. ConformsTo Given m v) ms → ⊥) (λ ms v. OneOf (λ m. ConformsTo Around m v) ms → ⊥) r
        (λ v has. (
          λ x one. x (one_same (λ m. ConformsTo Around m v) (λ m. ConformsTo Given m v) Members (λ m i. let k = member r v has m i in (k.1, k.0)) one),
          λ x one. x (one_same (λ m. ConformsTo Given m v) (λ m. ConformsTo Around m v) Members (member r v has) one),
        ))

    -- of one shape, the first
    pub not_same : 0 < length shapes → term_at terms (get_or shapes 0 0) ≡ q → (r : ResultRow) → RowsOf components.Not Given untold q row r ↔ RowsOf components.Not Around untold q row r
    not_same lt is r = each_same (λ v. ConformsTo Given q v) (λ v. ConformsTo Around q v) r (λ v has. conforms r v has 0 lt q is)

    pub node_same : 0 < length shapes → term_at terms (get_or shapes 0 0) ≡ q → (r : ResultRow) → RowsOf components.Node Given untold q row r ↔ RowsOf components.Node Around untold q row r
    node_same lt is r = each_same (λ v. ConformsTo Given q v → ⊥) (λ v. ConformsTo Around q v → ⊥) r
        (λ v has. let k = conforms r v has 0 lt q is in (λ x c. x (k.1 c), λ x c. x (k.0 c)))

-- of the qualified value shape and its siblings
module _ (terms : List Term) (numbering : IsNumbering terms) (values : List ℕ) (nodes : AreNodes terms values) (ids : List Ids) (s : List Triple) (n f : ℕ)
    (shape : ℕ) (siblings : List ℕ) (named : (m : ℕ) → Contains (shape ∷ siblings) m → m < length terms) (lists : List (List Bool)) (told : AreTold (shape ∷ siblings) values lists)
    (right : (k : ℕ) → k < length (shape ∷ siblings) → AreAnswersTo (ConformsAt (graph_of terms ids) s n (term_at terms (get_or (shape ∷ siblings) k 0))) terms values (get_or lists k []))
    (all : List ReadShape) (c : ReadShape) (place : ℕ) (is : c.qualified ≡ Some place) (at : IsAt all place (term_at terms shape)) (are : AreAt all c.siblings (map (term_at terms) siblings))
    (row : Finding → ResultRow) where
  abbrev Told : Surroundings
  Told = told_shapes terms (shape ∷ siblings) values lists

  abbrev Site : Surroundings
  Site = around terms ids s n values f

  abbrev Said : Reading
  Said = with_qualified (term_at terms shape) (map (term_at terms) siblings)

  both : (r : ResultRow) (v : Term) → HasNode terms values v → (m : Term) → IsMember (map (term_at terms) (shape ∷ siblings)) m → ConformsTo Told m v ↔ ConformsTo Site m v
  both = member terms numbering values nodes ids s n f (shape ∷ siblings) named lists told right

  sibling_same : (k : Term) → Said.sibling k ↔ (shape_reading all c).sibling k
  sibling_same k = (λ i. place_of all c.siblings (map (term_at terms) siblings) are k i, λ i. of_places all c.siblings (map (term_at terms) siblings) are i.0 i.1 k i.2)

  qualified_same : (v : Term) → IsQualified Told Said (term_at terms shape) v ↔ IsQualified Site (shape_reading all c) (term_at terms shape) v
  qualified_same v = (
    λ h. (
      h.0,
      (both (row found_alone) v h.0 (term_at terms shape) (inl refl)).0 h.1,
      λ k i d. (let j = (sibling_same k).1 i in h.2 k j ((both (row found_alone) v h.0 k (inr j)).1 d)),
    ),
    λ h. (
      h.0,
      (both (row found_alone) v h.0 (term_at terms shape) (inl refl)).1 h.1,
      λ k j d. h.2 k ((sibling_same k).0 j) ((both (row found_alone) v h.0 k (inr j)).0 d),
    ),
  )

  pub counts_alike : (IsWrong : ℕ → Type 0) (r : ResultRow) → ForQualifiedCount Told Said row IsWrong r ↔ ForQualifiedCount Site (shape_reading all c) row IsWrong r
  counts_alike IsWrong r = (
    λ h.
        let here = subst (λ (m : Term). ForCount row (IsQualified Told Said m) IsWrong r) h.1 h.2 in
        (term_at terms shape, (place, is, at), (here.0, counts_same (IsQualified Told Said (term_at terms shape)) (IsQualified Site (shape_reading all c) (term_at terms shape)) qualified_same here.0 here.1, here.2, here.3)),
    λ h.
        let there : IsAt all place h.0 = subst (λ (p : ℕ). IsAt all p h.0) (only_some c.qualified h.1.0 place h.1.1 is) h.1.2 in
        let here = subst (λ (m : Term). ForCount row (IsQualified Site (shape_reading all c) m) IsWrong r) (one_at all place h.0 (term_at terms shape) there at) h.2 in
        (term_at terms shape, refl, (here.0, counts_same (IsQualified Site (shape_reading all c) (term_at terms shape)) (IsQualified Told Said (term_at terms shape)) (λ v. let k = qualified_same v in (k.1, k.0)) here.0 here.1, here.2, here.3)),
  )
