-- Results that are made of chosen value nodes.
use Rattle.std.proofs.Common.{◌≡◌, ◌∙◌, ℕ, Bool, not, List, [], ◌∷◌, ◌++◌, length, Option, Some, None, refl, sym, ap, subst, inl, inr, IsTrue}
use Rattle.std.specs.Prelude.{◌↔◌, ◌⊎◌, MatchOption}
use Rattle.collections.specs.Listings.{IsListing}
use Rattle.collections.specs.Ordered.{IsAscending}
use Rattle.rdf_model.specs.Orders.{term_total}
use Rattle.rdf_model.specs.Terms.{term_cmp}
use Rattle.shape_model.proofs.Listings.{one_listing}
use Rattle.shape_model.specs.ShapeSyntax.{ListOf}
use Rattle.shape_model.specs.Triples.{Has, IsMember}
use Rattle.shape_model.specs.declared.component.Component.TheVariants as components
use Rattle.shape_syntax.proofs.Equals.{negated, negation}
use Rattle.shape_syntax.proofs.Lists.{one_list}
use Rattle.shape_syntax.proofs.Scans.{contains_member, member_contains}
use Rattle.std.specs.List.{Contains}
use Rattle.rdf_model.specs.declared.term.Term.{Term}
use Rattle.shape_model.specs.declared.component.Component.{Component}
use Rattle.shape_model.specs.declared.result_row.ResultRow.{ResultRow}
use Rattle.shape_model.specs.Components.{ForCount, found_alone, found_at}
use Rattle.plain_values.specs.declared.site.PlainSite.{PlainSite}
use Rattle.plain_values.specs.Around.{EachAt, ListRow, MissingAt, RowsAt, row_at}
use Rattle.plain_terms.specs.Finds.{Finds, WithSome}
use Rattle.plain_terms.proofs.FoundItems.{finds_at, finds_both, finds_none, finds_one, finds_same}

pub each_made : (at : PlainSite) (c : Component) (q : Term) (P : Term → Type 0) (chosen nodes : List Term) (rows : List ResultRow) → Finds (λ v. Contains at.values.now v × P v) chosen → nodes ≡ chosen
    → Finds (WithSome nodes (λ v r. r ≡ row_at at c q (found_at v))) rows → Finds (EachAt at c q P) rows
each_made at c q P chosen nodes rows h e k =
    let there = finds_at (λ v. Contains at.values.now v × P v) chosen nodes e h in
    finds_same (WithSome nodes (λ v r. r ≡ row_at at c q (found_at v))) (EachAt at c q P) rows (λ r. (
      λ w. let x = (there.members w.0).0 w.1 in (w.0, x.0, x.1, w.2),
      λ w. (w.0, (there.members w.0).1 (w.1, w.2), w.3),
    )) k

-- a list of one result
pub is_one : (row r : ResultRow) → row ≡ r → Finds (λ x. x ≡ r) (row ∷ [])
is_one row r e = finds_one (λ x. x ≡ r) row (λ x. (λ k. e ∙ sym k, λ k. sym k ∙ e))

-- the same of a property that says the same
pub each_as : (at : PlainSite) (c : Component) (q : Term) (P Q : Term → Type 0) (rows : List ResultRow) → ((v : Term) → P v ↔ Q v) → Finds (EachAt at c q P) rows → Finds (EachAt at c q Q) rows
each_as at c q P Q rows e h = finds_same (EachAt at c q P) (EachAt at c q Q) rows (λ r. (λ w. (w.0, w.1, (e w.0).0 w.2, w.3), λ w. (w.0, w.1, (e w.0).1 w.2, w.3))) h

-- results about the value nodes that are not in a list, that are in it
pub each_outside : (at : PlainSite) (c : Component) (q : Term) (In : Term → Type 0) (terms : List Term) (rows : List ResultRow) → Finds In terms → Finds (EachAt at c q (λ v. Contains terms v → ⊥)) rows → Finds (EachAt at c q (λ v. In v → ⊥)) rows
each_outside at c q In terms rows h k = each_as at c q (λ v. Contains terms v → ⊥) (λ v. In v → ⊥) rows (λ v. (λ apart i. apart ((h.members v).1 i), λ apart i. apart ((h.members v).0 i))) k

pub each_inside : (at : PlainSite) (c : Component) (q : Term) (In : Term → Type 0) (terms : List Term) (rows : List ResultRow) → Finds In terms → Finds (EachAt at c q (Contains terms)) rows → Finds (EachAt at c q In) rows
each_inside at c q In terms rows h k = each_as at c q (Contains terms) In rows h.members k

-- results for a list: where there is none, and where there is one
pub list_none : (at : PlainSite) (c : Component) (q : Term) (P : List Term → Term → Type 0) (found : Option (List Term)) (rows : List ResultRow) → found ≡ None → MatchOption found ((ms : List Term) → ListOf at.shapes.now q ms → ⊥) (ListOf at.shapes.now q) → rows ≡ []
    → Finds (ListRow at c q P) rows
list_none at c q P found rows e h is =
    let none = subst (λ (o : Option (List Term)). MatchOption o ((ms : List Term) → ListOf at.shapes.now q ms → ⊥) (ListOf at.shapes.now q)) e h in
    finds_at (ListRow at c q P) [] rows is (finds_none (ListRow at c q P) (λ r w. none w.0 w.1))

pub list_some : (at : PlainSite) (c : Component) (q : Term) (P : List Term → Term → Type 0) (found : Option (List Term)) (members terms : List Term) (rows : List ResultRow) → found ≡ Some members
    → MatchOption found ((ms : List Term) → ListOf at.shapes.now q ms → ⊥) (ListOf at.shapes.now q) → terms ≡ members → Finds (EachAt at c q (P terms)) rows → Finds (ListRow at c q P) rows
list_some at c q P found members terms rows e h is k =
    let there = subst (λ (o : Option (List Term)). MatchOption o ((ms : List Term) → ListOf at.shapes.now q ms → ⊥) (ListOf at.shapes.now q)) e h in
    let each = subst (λ (ms : List Term). Finds (EachAt at c q (P ms)) rows) is k in
    finds_same (EachAt at c q (P members)) (ListRow at c q P) rows (λ r. (
      λ w. (members, there, w),
      λ w. subst (λ (ms : List Term). EachAt at c q (P ms) r) (one_list at.shapes.now q w.0 members w.1 there) w.2,
    )) each

-- the results of sh:equals: about value nodes and about missing ones
pub missing_made : (at : PlainSite) (q : Term) (others values listed missing nodes : List Term) (rows : List ResultRow) → values ≡ at.values.now → listed ≡ others → nodes ≡ missing
    → Finds (λ w. Contains listed w × (Contains values w → ⊥)) missing → Finds (WithSome nodes (λ v r. r ≡ row_at at components.Equals q (found_at v))) rows → Finds (MissingAt at q others) rows
missing_made at q others values listed missing nodes rows e_values e_listed e_nodes h k =
    let chosen : Finds (λ w. Contains others w × (Contains at.values.now w → ⊥)) nodes =
    finds_at (λ w. Contains others w × (Contains at.values.now w → ⊥)) missing nodes e_nodes (subst (λ (xs : List Term). Finds (λ w. Contains xs w × (Contains at.values.now w → ⊥)) missing) e_listed (subst (λ (vs : List Term). Finds (λ w. Contains listed w × (Contains vs w → ⊥)) missing) e_values h)) in
    finds_same (WithSome nodes (λ v r. r ≡ row_at at components.Equals q (found_at v))) (MissingAt at q others) rows (λ r. (
      λ w. let x = (chosen.members w.0).0 w.1 in (w.0, x.0, x.1, w.2),
      λ w. (w.0, (chosen.members w.0).1 (w.1, w.2), w.3),
    )) k

pub equals_made : (at : PlainSite) (q : Term) (others : List Term) (rows more new : List ResultRow) → Finds (Has at.graph.now at.focus.now q) others → new ≡ rows ++ more
    → Finds (EachAt at components.Equals q (λ v. Contains others v → ⊥)) rows → Finds (MissingAt at q others) more → Finds (RowsAt at components.Equals q) new
equals_made at q others rows more new h e k l =
    finds_at (RowsAt at components.Equals q) (rows ++ more) new e (finds_same (λ r. EachAt at components.Equals q (λ v. Contains others v → ⊥) r ⊎ MissingAt at q others r) (RowsAt at components.Equals q) (rows ++ more) (λ r. (
      λ w. elim w [ inl x ↦ inl (x.0, x.1, (λ i. x.2 ((h.members x.0).1 i)), x.3) | inr x ↦ inr (x.0, (h.members x.0).0 x.1, x.2, x.3) ],
      λ w. elim w [ inl x ↦ inl (x.0, x.1, (λ i. x.2 ((h.members x.0).0 i)), x.3) | inr x ↦ inr (x.0, (h.members x.0).1 x.1, x.2, x.3) ],
    )) (finds_both (EachAt at components.Equals q (λ v. Contains others v → ⊥)) (MissingAt at q others) rows more k l))

-- one result where a test holds
pub tested : (b : Bool) (P : Type 0) (row : ResultRow) (rows : List ResultRow) → IsTrue b ↔ P → Finds (λ r. IsTrue b × (r ≡ row)) rows → Finds (λ r. P × (r ≡ row)) rows
tested b P row rows e h = finds_same (λ r. IsTrue b × (r ≡ row)) (λ r. P × (r ≡ row)) rows (λ r. (λ w. (e.0 w.0, w.1), λ w. (e.1 w.0, w.1))) h

pub counted : (at : PlainSite) (c : Component) (q : Term) (P : Term → Type 0) (W : ℕ → Type 0) (items : List Term) (b : Bool) (rows : List ResultRow) → IsListing term_cmp P items → IsTrue b ↔ W (length items)
    → Finds (λ r. IsTrue b × (r ≡ row_at at c q found_alone)) rows → Finds (ForCount (row_at at c q) P W) rows
counted at c q P W items b rows l e h = finds_same (λ r. IsTrue b × (r ≡ row_at at c q found_alone)) (ForCount (row_at at c q) P W) rows (λ r. (
  λ w. (length items, record { items = items; listing = l; count = refl }, e.0 w.0, w.1),
  λ w. (e.1 (subst (λ (n : ℕ). W n) (sym w.1.count ∙ ap length (one_listing term_cmp term_total P w.1.items items w.1.listing l)) w.2), w.3),
)) h

pub own_listing : (values : List Term) → IsAscending term_cmp values → IsListing term_cmp (Contains values) values
own_listing values a = record { ascending = a; members = λ v. (λ c. c, λ c. c) }

pub not_member : (b : Bool) (ms : List Term) (v : Term) → IsTrue b ↔ Contains ms v → IsTrue (not b) ↔ (IsMember ms v → ⊥)
not_member b ms v e = (λ t i. negated b t (e.1 (member_contains ms v i)), λ apart. negation b (λ t. apart (contains_member ms v (e.0 t))))

pub counted_by : (at : PlainSite) (c : Component) (q : Term) (P : Term → Type 0) (W : ℕ → Type 0) (items : List Term) (n : ℕ) (b : Bool) (rows : List ResultRow) → IsListing term_cmp P items → n ≡ length items → IsTrue b ↔ W n
    → Finds (λ r. IsTrue b × (r ≡ row_at at c q found_alone)) rows → Finds (ForCount (row_at at c q) P W) rows
counted_by at c q P W items n b rows l e h k = counted at c q P W items b rows l (subst (λ (k : ℕ). IsTrue b ↔ W k) e h) k
