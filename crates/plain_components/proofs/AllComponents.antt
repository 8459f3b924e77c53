-- All components, in turn.
use Rattle.std.proofs.Common.{◌≡◌, List, [], ◌∷◌, ◌++◌, refl, sym, subst, arith, inl, inr}
use Rattle.std.specs.Prelude.{◌⊎◌}
use Rattle.std.specs.List.{Contains}
use Rattle.rdf_model.specs.declared.term.Term.{Term}
use Rattle.shape_model.specs.Components.{parameter_of}
use Rattle.shape_model.specs.ShapeSyntax.{HasProperty}
use Rattle.shape_model.specs.Vocabulary.{true_literal, ShDeactivated, ShProperty}
use Rattle.shape_model.specs.declared.component.Component.{Component}
use Rattle.shape_model.specs.declared.component.Component.TheVariants as components
use Rattle.shape_model.specs.declared.result_row.ResultRow.{ResultRow}
use Rattle.plain_terms.specs.Finds.{Finds, WithSome}
use Rattle.plain_terms.proofs.FoundItems.{finds_at, finds_both, finds_none, finds_same}
use Rattle.plain_values.specs.declared.site.PlainSite.{PlainSite}
use Rattle.plain_values.specs.Around.{RowsAt}
use Rattle.plain_components.specs.Rows.{AtPlace, ComponentAt, EntryRow, PropertyAt}

abbrev pub read_components : List Component
read_components = components.Class ∷ components.Datatype ∷ components.NodeKind ∷ components.MinCount ∷ components.MaxCount ∷ components.MinExclusive ∷ components.MinInclusive ∷ components.MaxExclusive ∷ components.MaxInclusive ∷ components.MinLength ∷ components.MaxLength ∷ components.Pattern ∷ components.LanguageIn ∷ components.UniqueLang ∷ components.Equals ∷ components.Disjoint ∷ components.LessThan ∷ components.LessThanOrEquals ∷ components.Not ∷ components.And ∷ components.Or ∷ components.Xone ∷ components.Node ∷ components.QualifiedMinCount ∷ components.QualifiedMaxCount ∷ components.Closed ∷ components.HasValue ∷ components.In ∷ []

pub is_read : (c : Component) → Contains read_components c
is_read components.Class = (0, omega arith, refl)
is_read components.Datatype = (1, omega arith, refl)
is_read components.NodeKind = (2, omega arith, refl)
is_read components.MinCount = (3, omega arith, refl)
is_read components.MaxCount = (4, omega arith, refl)
is_read components.MinExclusive = (5, omega arith, refl)
is_read components.MinInclusive = (6, omega arith, refl)
is_read components.MaxExclusive = (7, omega arith, refl)
is_read components.MaxInclusive = (8, omega arith, refl)
is_read components.MinLength = (9, omega arith, refl)
is_read components.MaxLength = (10, omega arith, refl)
is_read components.Pattern = (11, omega arith, refl)
is_read components.LanguageIn = (12, omega arith, refl)
is_read components.UniqueLang = (13, omega arith, refl)
is_read components.Equals = (14, omega arith, refl)
is_read components.Disjoint = (15, omega arith, refl)
is_read components.LessThan = (16, omega arith, refl)
is_read components.LessThanOrEquals = (17, omega arith, refl)
is_read components.Not = (18, omega arith, refl)
is_read components.And = (19, omega arith, refl)
is_read components.Or = (20, omega arith, refl)
is_read components.Xone = (21, omega arith, refl)
is_read components.Node = (22, omega arith, refl)
is_read components.QualifiedMinCount = (23, omega arith, refl)
is_read components.QualifiedMaxCount = (24, omega arith, refl)
is_read components.Closed = (25, omega arith, refl)
is_read components.HasValue = (26, omega arith, refl)
is_read components.In = (27, omega arith, refl)

pub component_found : (at : PlainSite) (c : Component) (found terms : List Term) (rows : List ResultRow) → Finds (HasProperty at.shapes.now at.shape.now (parameter_of c)) found → terms ≡ found → Finds (WithSome terms (RowsAt at c)) rows → Finds (ComponentAt at c) rows
component_found at c found terms rows h e k =
    let are = finds_at (HasProperty at.shapes.now at.shape.now (parameter_of c)) found terms e h in
    finds_same (WithSome terms (RowsAt at c)) (ComponentAt at c) rows (λ r. (λ w. (w.0, (are.members w.0).0 w.1, w.2), λ w. (w.0, (are.members w.0).1 w.1, w.2))) k

pub property_found : (at : PlainSite) (found terms : List Term) (rows : List ResultRow) → Finds (HasProperty at.shapes.now at.shape.now ShProperty) found → terms ≡ found → Finds (WithSome at.told.now (EntryRow at terms)) rows → Finds (PropertyAt at) rows
property_found at found terms rows h e k =
    let are = finds_at (HasProperty at.shapes.now at.shape.now ShProperty) found terms e h in
    finds_same (WithSome at.told.now (EntryRow at terms)) (PropertyAt at) rows (λ r. (
      λ w. (w.0.shape, (are.members w.0.shape).0 w.2.0.0, (w.0.node, w.2.0.1, subst (λ (x : ResultRow). Contains at.told.now (record { shape = w.0.shape; node = w.0.node; row = x })) (sym w.2.1) w.1)),
      λ w. let x = w.2 in (record { shape = w.0; node = x.0; row = r }, x.2, (((are.members w.0).1 w.1, x.1), refl)),
    )) k

pub place_off : (at : PlainSite) (rows : List ResultRow) → HasProperty at.shapes.now at.shape.now ShDeactivated true_literal → rows ≡ [] → Finds (AtPlace at) rows
place_off at rows off e = finds_at (AtPlace at) [] rows e (finds_none (AtPlace at) (λ r w. w.0 off))

pub place_found : (at : PlainSite) → (HasProperty at.shapes.now at.shape.now ShDeactivated true_literal → ⊥) → (list : List Component) → list ≡ read_components → (rows more new : List ResultRow)
    → Finds (WithSome list (ComponentAt at)) rows → Finds (PropertyAt at) more → new ≡ rows ++ more → Finds (AtPlace at) new
place_found at on list is rows more new h k e =
    let own : Finds (WithSome read_components (ComponentAt at)) rows = subst (λ (cs : List Component). Finds (WithSome cs (ComponentAt at)) rows) is h in
    finds_at (AtPlace at) (rows ++ more) new e (finds_same (λ r. WithSome read_components (ComponentAt at) r ⊎ PropertyAt at r) (AtPlace at) (rows ++ more) (λ r. (
      λ w. (on, elim w [ inl x ↦ inl (x.0, x.2) | inr x ↦ inr x ]),
      λ w. elim w.1 [
        | inl x ↦ inl (x.0, is_read x.0, x.1)
        | inr x ↦ inr x
      ],
    )) (finds_both (WithSome read_components (ComponentAt at)) (PropertyAt at) rows more own k))
