-- The results of a shape by those that are told of the shapes that it refers to.
use Rattle.std.proofs.Common.{◌≡◌, ◌∙◌, ℕ, suc, List, [], ◌∷◌, refl, sym, subst}
use Rattle.std.specs.Prelude.{◌↔◌}
use Rattle.std.specs.List.{Contains}
use Rattle.collections.specs.Listings.{IsListing}
use Rattle.rdf_model.specs.Terms.{term_cmp}
use Rattle.rdf_model.specs.declared.term.Term.{Term}
use Rattle.rdf_model.specs.declared.triple.Triple.{Triple}
use Rattle.shape_model.specs.Components.{AtIn, Surroundings}
use Rattle.shape_model.specs.Instances.{Instance}
use Rattle.shape_model.specs.Triples.{Has}
use Rattle.shape_model.specs.Readings.{Refers, ValueNode, reading}
use Rattle.shape_model.specs.Validation.{AtDepth, surroundings}
use Rattle.shape_model.specs.declared.result_row.ResultRow.{ResultRow}
use Rattle.shape_model.proofs.Surroundings.{at_same, reading_itself}
use Rattle.plain_values.specs.declared.site.ToldRow.{ToldRow}
use Rattle.plain_values.specs.Around.{IsTold}
use Rattle.plain_terms.specs.Finds.{Finds, WithSome}
use Rattle.plain_terms.proofs.FoundItems.{finds_at, finds_none, finds_one, finds_same}
use Rattle.plain_validation.specs.References.{IsEntry, ToldAt}

pub none_at : (g s : List Triple) (levels : ℕ) (shape f : Term) (rows : List ResultRow) → levels ≡ 0 → rows ≡ [] → Finds (AtDepth levels g (reading s) shape f) rows
none_at g s levels shape f rows z e =
    subst (λ (n : ℕ). Finds (AtDepth n g (reading s) shape f) rows) (sym z) (finds_at (AtDepth 0 g (reading s) shape f) [] rows e (finds_none (AtDepth 0 g (reading s) shape f) (λ r h. h)))

module _ (g s : List Triple) (below : ℕ) (shape f : Term) (values referred : List Term) (told : List ToldRow) (listed : IsListing term_cmp (ValueNode g (reading s shape) f) values)
    (all : (m : Term) → Refers (reading s shape) m → Contains referred m) (tells : Finds (WithSome referred (λ m. WithSome values (ToldAt below g s m))) told) where
  told_is : (m v : Term) → Refers (reading s shape) m → Contains values v → (r : ResultRow) → Contains told (record { shape = m; node = v; row = r }) ↔ AtDepth below g (reading s) m v r
  told_is m v i c r = (
    λ h.
        let w = (tells.members (record { shape = m; node = v; row = r })).0 h in
        let row = w.2.2.0 in
        let e = w.2.2.2 in
        subst (λ (x : Term). AtDepth below g (reading s) x v r) (λ j. (sym e j).shape) (subst (λ (x : Term). AtDepth below g (reading s) w.0 x r) (λ j. (sym e j).node) (subst (λ (x : ResultRow). AtDepth below g (reading s) w.0 w.2.0 x) (λ j. (sym e j).row) w.2.2.1)),
    λ h. (tells.members (record { shape = m; node = v; row = r })).1 (m, all m i, (v, c, (r, h, refl))),
  )

  abbrev told_around : Surroundings
  told_around = record { value_node = Contains values; instance = Instance g; focus_value = Has g f; triple = Has g; row = IsTold told }

  pub level_found : (rows : List ResultRow) → Finds (AtIn told_around (reading s shape) shape f) rows → (levels : ℕ) → suc below ≡ levels → Finds (AtDepth levels g (reading s) shape f) rows
  level_found rows h levels e =
      subst (λ (n : ℕ). Finds (AtDepth n g (reading s) shape f) rows) e
      (finds_same (AtIn told_around (reading s shape) shape f) (AtDepth (suc below) g (reading s) shape f) rows (λ r.
      at_same shape f (reading s shape) (reading s shape) (reading_itself (reading s shape)) told_around (surroundings (AtDepth below g (reading s)) g (reading s shape) f) (record {
        value_node = listed.members;
        instance = λ q v i w. (λ j. j, λ j. j);
        focus_value = λ q w i. (λ j. j, λ j. j);
        triple = λ i v p o w. (λ j. j, λ j. j);
        row = told_is;
      }) r) h)

pub listing_at : (P : Term → Type 0) (xs ys : List Term) → ys ≡ xs → IsListing term_cmp P xs → IsListing term_cmp P ys
listing_at P xs ys e l = subst (λ (zs : List Term). IsListing term_cmp P zs) (sym e) l

-- what is told of the results of a shape at a node
pub told_found : (g s : List Triple) (n : ℕ) (m v : Term) (rows slice : List ResultRow) (told : List ToldRow) → Finds (AtDepth n g (reading s) m v) rows → slice ≡ rows → Finds (WithSome slice (IsEntry m v)) told → Finds (ToldAt n g s m v) told
told_found g s n m v rows slice told h e k =
    let are = finds_at (AtDepth n g (reading s) m v) rows slice e h in
    finds_same (WithSome slice (IsEntry m v)) (ToldAt n g s m v) told (λ x. (λ w. (w.0, (are.members w.0).0 w.1, w.2), λ w. (w.0, (are.members w.0).1 w.1, w.2))) k

pub one_entry : (entry e : ToldRow) → entry ≡ e → Finds (λ x. x ≡ e) (entry ∷ [])
one_entry entry e is = finds_one (λ x. x ≡ e) entry (λ x. (λ k. is ∙ sym k, λ k. sym k ∙ is))
