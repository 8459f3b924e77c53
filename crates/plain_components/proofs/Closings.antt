-- Closed shapes and qualified value shapes.
use Rattle.std.proofs.Common.{◌≡◌, ℕ, Bool, not, List, [], ◌∷◌, ◌++◌, refl, subst, arith, inl, inr, IsTrue}
use Rattle.std.specs.Prelude.{◌↔◌, ◌⊎◌}
use Rattle.std.specs.List.{Contains}
use Rattle.collections.specs.Listings.{IsListing}
use Rattle.rdf_model.specs.Terms.{term_cmp}
use Rattle.rdf_model.specs.declared.term.Term.{Term}
use Rattle.rdf_model.specs.declared.triple.Triple.{Triple}
use Rattle.shape_model.specs.Components.{IsQualified}
use Rattle.shape_model.specs.Readings.{IsAllowed, Sibling, reading}
use Rattle.shape_model.specs.ShapeSyntax.{HasProperty}
use Rattle.shape_model.specs.Triples.{IsIri}
use Rattle.shape_model.specs.Vocabulary.{true_literal, ShIgnoredProperties, ShPath, ShProperty, ShQualifiedValueShape}
use Rattle.shape_model.specs.declared.component.Component.{Component}
use Rattle.shape_model.specs.declared.component.Component.TheVariants as components
use Rattle.shape_model.specs.declared.result_row.ResultRow.{ResultRow}
use Rattle.shape_syntax.proofs.Equals.{negated, negation}
use Rattle.shape_syntax.proofs.Scans.{contains_member, member_contains}
use Rattle.plain_terms.specs.Finds.{Finds, IsListed, WithSome}
use Rattle.plain_terms.proofs.FoundItems.{finds_at, finds_both, finds_none, finds_same}
use Rattle.plain_values.specs.declared.site.PlainSite.{PlainSite}
use Rattle.plain_values.specs.Around.{RowsAt, around}
use Rattle.plain_components.specs.Rows.{ForbiddenRow, QualifiedAt, QualifiedRow}
use Rattle.plain_components.specs.Siblings.{HasSiblings, IsCousin}
use Rattle.plain_components.specs.Siblings.{MeetsQualified}

first_of : {X : Type 0} → (P : X → Type 0) (xs : List X) → Finds P xs → (xs ≡ [] → ⊥) → (x : X) × P x
first_of P [] h some = absurd (some refl)
first_of P (x ∷ xs) h some = (x, (h.members x).0 (0, omega arith, refl))

pub some_found : {X : Type 0} → (P : X → Type 0) (xs : List X) (b : Bool) → Finds P xs → IsTrue b ↔ (xs ≡ []) → IsTrue (not b) ↔ ((x : X) × P x)
some_found {X = X} P xs b h e = (
  λ t. first_of P xs h (λ is. negated b t (e.1 is)),
  λ w. negation b (λ t. let c = subst (λ (ys : List X). Contains ys w.0) (e.0 t) ((h.members w.0).1 w.1) in absurd (omega (arith, c.1))),
)

-- the predicates that a closed shape allows
pub allowed_found : (s : List Triple) (shape : Term) (properties nodes paths terms iris heads lists ignored allowed new : List Term)
    → Finds (HasProperty s shape ShProperty) properties → nodes ≡ properties → Finds (WithSome nodes (λ n v. HasProperty s n ShPath v)) paths → terms ≡ paths → Finds (λ v. Contains terms v × IsIri v) iris → allowed ≡ iris
    → Finds (HasProperty s shape ShIgnoredProperties) heads → lists ≡ heads → Finds (WithSome lists (IsListed s)) ignored → new ≡ allowed ++ ignored → Finds (IsAllowed s shape) new
allowed_found s shape properties nodes paths terms iris heads lists ignored allowed new h e_nodes k e_terms l e_allowed m e_lists n e =
    let nodes_are = finds_at (HasProperty s shape ShProperty) properties nodes e_nodes h in
    let lists_are = finds_at (HasProperty s shape ShIgnoredProperties) heads lists e_lists m in
    let terms_are = finds_at (WithSome nodes (λ n v. HasProperty s n ShPath v)) paths terms e_terms k in
    let iris_are = finds_at (λ v. Contains terms v × IsIri v) iris allowed e_allowed l in
    finds_at (IsAllowed s shape) (allowed ++ ignored) new e (finds_same (λ v. (Contains terms v × IsIri v) ⊎ WithSome lists (IsListed s) v) (IsAllowed s shape) (allowed ++ ignored) (λ p. (
      elim [
        | inl w ↦ let x = (terms_are.members p).0 w.0 in inl (x.0, (nodes_are.members x.0).0 x.1, (p, x.2, (refl, w.1)))
        | inr w ↦ inr (w.0, w.2.0, (lists_are.members w.0).0 w.1, w.2.1, w.2.2)
      ],
      elim [
        | inl w ↦
            let here : HasProperty s w.0 ShPath p = subst (λ (v : Term). HasProperty s w.0 ShPath v) w.2.2.0 w.2.1 in
            let iri : IsIri p = subst (λ (v : Term). IsIri v) w.2.2.0 w.2.2.1 in
            inl ((terms_are.members p).1 (w.0, (nodes_are.members w.0).1 w.1, here), iri)
        | inr w ↦ inr (w.0, (lists_are.members w.0).1 w.2, (w.1, w.3, w.4))
      ],
    )) (finds_both (λ v. Contains terms v × IsIri v) (WithSome lists (IsListed s)) allowed ignored iris_are n))

pub closed_made : (at : PlainSite) (q : Term) (found allowed : List Term) (rows : List ResultRow) → q ≡ true_literal → Finds (IsAllowed at.shapes.now at.shape.now) found → allowed ≡ found → Finds (WithSome at.graph.now (ForbiddenRow at q allowed)) rows
    → Finds (RowsAt at components.Closed q) rows
closed_made at q found allowed rows is h e k =
    let are = finds_at (IsAllowed at.shapes.now at.shape.now) found allowed e h in
    finds_same (WithSome at.graph.now (ForbiddenRow at q allowed)) (RowsAt at components.Closed q) rows (λ r. (
      λ w. (is, (w.0.subject, w.0.predicate, w.0.object, w.2.0.0, w.1, (λ i. w.2.0.1 ((are.members w.0.predicate).1 i)), w.2.1)),
      λ w. let x = w.1 in (record { subject = x.0; predicate = x.1; object = x.2 }, x.4, ((x.3, (λ i. x.5 ((are.members x.1).0 i))), x.6)),
    )) k

-- where it isn't true there are none
pub not_closed : (at : PlainSite) (q : Term) (rows : List ResultRow) → (q ≡ true_literal → ⊥) → rows ≡ [] → Finds (RowsAt at components.Closed q) rows
not_closed at q rows apart e = finds_at (RowsAt at components.Closed q) [] rows e (finds_none (RowsAt at components.Closed q) (λ r w. apart w.0))

pub not_unique : (at : PlainSite) (q : Term) (rows : List ResultRow) → (q ≡ true_literal → ⊥) → rows ≡ [] → Finds (RowsAt at components.UniqueLang q) rows
not_unique at q rows apart e = finds_at (RowsAt at components.UniqueLang q) [] rows e (finds_none (RowsAt at components.UniqueLang q) (λ r w. apart w.0))

-- sibling shapes
pub cousins_found : (s : List Triple) (shape : Term) (parents nodes others middle all terms own found : List Term)
    → Finds (λ n. HasProperty s n ShProperty shape) parents → nodes ≡ parents → Finds (WithSome nodes (λ n v. HasProperty s n ShProperty v)) others → middle ≡ others
    → Finds (WithSome middle (λ n v. HasProperty s n ShQualifiedValueShape v)) all → terms ≡ all → Finds (HasProperty s shape ShQualifiedValueShape) own → Finds (λ v. Contains terms v × (Contains own v → ⊥)) found
    → Finds (IsCousin s shape) found
cousins_found s shape parents nodes others middle all terms own found h e_nodes k e_middle l e_terms m n =
    let nodes_are = finds_at (λ n. HasProperty s n ShProperty shape) parents nodes e_nodes h in
    let middle_are = finds_at (WithSome nodes (λ n v. HasProperty s n ShProperty v)) others middle e_middle k in
    let terms_are = finds_at (WithSome middle (λ n v. HasProperty s n ShQualifiedValueShape v)) all terms e_terms l in
    finds_same (λ v. Contains terms v × (Contains own v → ⊥)) (IsCousin s shape) found (λ t. (
      λ w.
          let x = (terms_are.members t).0 w.0 in
          let y = (middle_are.members x.0).0 x.1 in
          ((y.0, x.0, (nodes_are.members y.0).0 y.1, y.2, x.2), (λ i. w.1 ((m.members t).1 i))),
      λ w.
          let x = w.0 in
          let there : Contains middle x.1 = (middle_are.members x.1).1 (x.0, (nodes_are.members x.0).1 x.2, x.3) in
          ((terms_are.members t).1 (x.1, there, x.4), (λ i. w.1 ((m.members t).0 i))),
    )) n

pub siblings_found : (s : List Triple) (shape : Term) (found : List Term) → HasSiblings s shape → Finds (IsCousin s shape) found → Finds (Sibling s shape) found
siblings_found s shape found h k = finds_same (IsCousin s shape) (Sibling s shape) found (λ t. (λ w. (h.0, h.1, w.1, w.0), λ w. (w.3, w.2))) k

pub no_siblings : (s : List Triple) (shape : Term) (found : List Term) → (HasSiblings s shape → ⊥) → found ≡ [] → Finds (Sibling s shape) found
no_siblings s shape found never e = finds_at (Sibling s shape) [] found e (finds_none (Sibling s shape) (λ t w. never (w.0, w.1)))

-- qualified value nodes
pub qualified_nodes : (at : PlainSite) (m : Term) (siblings chosen sorted : List Term) → Finds (Sibling at.shapes.now at.shape.now) siblings → Finds (λ v. Contains at.values.now v × MeetsQualified at.told.now m siblings v) chosen
    → IsListing term_cmp (Contains chosen) sorted → IsListing term_cmp (IsQualified (around at) (reading at.shapes.now at.shape.now) m) sorted
qualified_nodes at m siblings chosen sorted h k l = record {
  ascending = l.ascending;
  members = λ v. (
    λ c. let w = (k.members v).0 ((l.members v).0 c) in (w.0, w.1.0, (λ n i conforms. w.1.1 n (contains_member siblings n ((h.members n).1 i)) conforms)),
    λ w. (l.members v).1 ((k.members v).1 (w.0, (w.1, (λ n i conforms. w.2 n ((h.members n).0 (member_contains siblings n i)) conforms)))),
  );
}

pub qualified_made : (at : PlainSite) (c : Component) (q : Term) (W : ℕ → Type 0) (found shapes : List Term) (rows : List ResultRow) → Finds (HasProperty at.shapes.now at.shape.now ShQualifiedValueShape) found → shapes ≡ found
    → Finds (WithSome shapes (QualifiedRow at c q W)) rows → Finds (QualifiedAt at c q W) rows
qualified_made at c q W found shapes rows h e k =
    let are = finds_at (HasProperty at.shapes.now at.shape.now ShQualifiedValueShape) found shapes e h in
    finds_same (WithSome shapes (QualifiedRow at c q W)) (QualifiedAt at c q W) rows (λ r. (
      λ w. (w.0, (are.members w.0).0 w.1, w.2),
      λ w. (w.0, (are.members w.0).1 w.1, w.2),
    )) k

-- a term is among those that were found
pub among_is : (P : Term → Type 0) (found terms : List Term) (b : Bool) (x y : Term) → Finds P found → terms ≡ found → x ≡ y → IsTrue b ↔ Contains terms x → IsTrue b ↔ P y
among_is P found terms b x y h e is k =
    let are = finds_at P found terms e h in
    let there : IsTrue b ↔ Contains terms y = subst (λ (z : Term). IsTrue b ↔ Contains terms z) is k in
    (λ t. (are.members y).0 (there.0 t), λ p. there.1 ((are.members y).1 p))
