-- The orders of components and of validation results are total, and find no difference only between equals.
use Rattle.std.specs.Prelude.{◌≡◌, List, [], ◌∷◌, Option, Some, None, refl}
use Rattle.std.proofs.Common.{sym, ◌∙◌, ap, subst, get_or}
use Rattle.std.specs.declared.cmp.Ordering.{Ordering}
use Rattle.std.specs.declared.cmp.Ordering.TheVariants.{Less, Equal, Greater}
use Rattle.std.specs.Ordering.{ordering_then}
use Rattle.std.specs.Cmp.{IsTotalOrder}
use Rattle.std.specs.Cmp.Lexicographic.{slice_cmp}
use Rattle.std.proofs.lemmas.Cmp.{nat_cmp_total, lists_total, on_total, then_total}
use Rattle.std.specs.FinMap.{nat_cmp-IsAntisymmetric}
use Rattle.rdf_model.specs.declared.term.Term.{Term}
use Rattle.rdf_model.specs.Terms.{term_cmp}
use Rattle.rdf_model.specs.Orders.{term_total, term_exact}
use Rattle.shape_model.specs.declared.component.Component.{Component}
use Rattle.shape_model.specs.declared.component.Component.TheVariants as components
use Rattle.shape_model.specs.declared.result_row.ResultRow.{ResultRow}
use Rattle.shape_model.specs.Rows.{component_number, component_cmp, optional_term_cmp, result_row_cmp}

pub component_total : IsTotalOrder component_cmp
component_total = on_total component_number nat_cmp_total

-- the components in the order of their numbers, with something at the place 0
abbrev in_order : List Component
in_order = components.Class ∷ components.Class ∷ components.Datatype ∷ components.NodeKind ∷ components.MinCount ∷ components.MaxCount ∷ components.MinExclusive ∷ components.MinInclusive ∷ components.MaxExclusive ∷ components.MaxInclusive ∷ components.MinLength ∷ components.MaxLength ∷ components.Pattern ∷ components.LanguageIn ∷ components.UniqueLang ∷ components.Equals ∷ components.Disjoint ∷ components.LessThan ∷ components.LessThanOrEquals ∷ components.Not ∷ components.And ∷ components.Or ∷ components.Xone ∷ components.Node ∷ components.QualifiedMinCount ∷ components.QualifiedMaxCount ∷ components.Closed ∷ components.HasValue ∷ components.In ∷ []

by_number : (c : Component) → get_or in_order (component_number c) components.Class ≡ c
by_number components.Class = refl
by_number components.Datatype = refl
by_number components.NodeKind = refl
by_number components.MinCount = refl
by_number components.MaxCount = refl
by_number components.MinExclusive = refl
by_number components.MinInclusive = refl
by_number components.MaxExclusive = refl
by_number components.MaxInclusive = refl
by_number components.MinLength = refl
by_number components.MaxLength = refl
by_number components.Pattern = refl
by_number components.LanguageIn = refl
by_number components.UniqueLang = refl
by_number components.Equals = refl
by_number components.Disjoint = refl
by_number components.LessThan = refl
by_number components.LessThanOrEquals = refl
by_number components.Not = refl
by_number components.And = refl
by_number components.Or = refl
by_number components.Xone = refl
by_number components.Node = refl
by_number components.QualifiedMinCount = refl
by_number components.QualifiedMaxCount = refl
by_number components.Closed = refl
by_number components.HasValue = refl
by_number components.In = refl

-- components of one number are one
pub component_exact : (c d : Component) → component_cmp c d ≡ Equal → c ≡ d
component_exact c d h = sym (by_number c) ∙ ap (λ n. get_or in_order n components.Class) (nat_cmp-IsAntisymmetric (component_number c) (component_number d) h) ∙ by_number d

abbrev present : Option Term → List Term
present None = []
present (Some t) = t ∷ []

then_equal : (o : Ordering) → ordering_then o Equal ≡ o
then_equal Less = refl
then_equal Equal = refl
then_equal Greater = refl

optional_by_list : (a b : Option Term) → slice_cmp term_cmp (present a) (present b) ≡ optional_term_cmp a b
optional_by_list None None = refl
optional_by_list None (Some b) = refl
optional_by_list (Some a) None = refl
optional_by_list (Some a) (Some b) = then_equal (term_cmp a b)

pub optional_term_total : IsTotalOrder optional_term_cmp
optional_term_total = subst (λ (R : Option Term → Option Term → Ordering). IsTotalOrder R) (λ i a b. optional_by_list a b i) (on_total present (lists_total term_total))

pub optional_term_exact : (a b : Option Term) → optional_term_cmp a b ≡ Equal → a ≡ b
optional_term_exact None None h = refl
optional_term_exact None (Some b) h = cc
optional_term_exact (Some a) None h = cc
optional_term_exact (Some a) (Some b) h = ap Some (term_exact a b h)

pub result_row_total : IsTotalOrder result_row_cmp
result_row_total =
    then_total (on_total (λ (r : ResultRow). r.source_shape) term_total)
    (then_total (on_total (λ (r : ResultRow). r.focus_node) term_total)
    (then_total (on_total (λ (r : ResultRow). r.component) component_total)
    (then_total (on_total (λ (r : ResultRow). r.parameter) optional_term_total)
    (then_total (on_total (λ (r : ResultRow). r.about) optional_term_total)
    (then_total (on_total (λ (r : ResultRow). r.value) optional_term_total)
    (on_total (λ (r : ResultRow). r.other) optional_term_total))))))

-- when two orders in turn find no difference, neither does
both_equal : (o p : Ordering) → ordering_then o p ≡ Equal → (o ≡ Equal) × (p ≡ Equal)
both_equal Less p h = cc
both_equal Equal p h = (refl, h)
both_equal Greater p h = cc

-- results that compare alike are one
pub result_row_exact : (a b : ResultRow) → result_row_cmp a b ≡ Equal → a ≡ b
result_row_exact a b h =
    let from_value = ordering_then (optional_term_cmp a.value b.value) (optional_term_cmp a.other b.other) in
    let from_about = ordering_then (optional_term_cmp a.about b.about) from_value in
    let from_parameter = ordering_then (optional_term_cmp a.parameter b.parameter) from_about in
    let from_component = ordering_then (component_cmp a.component b.component) from_parameter in
    let p = both_equal (term_cmp a.source_shape b.source_shape) (ordering_then (term_cmp a.focus_node b.focus_node) from_component) h in
    let q = both_equal (term_cmp a.focus_node b.focus_node) from_component p.1 in
    let u = both_equal (component_cmp a.component b.component) from_parameter q.1 in
    let v = both_equal (optional_term_cmp a.parameter b.parameter) from_about u.1 in
    let w = both_equal (optional_term_cmp a.about b.about) from_value v.1 in
    let x = both_equal (optional_term_cmp a.value b.value) (optional_term_cmp a.other b.other) w.1 in
    let source_shape = term_exact a.source_shape b.source_shape p.0 in
    let focus_node = term_exact a.focus_node b.focus_node q.0 in
    let component = component_exact a.component b.component u.0 in
    let parameter = optional_term_exact a.parameter b.parameter v.0 in
    let about = optional_term_exact a.about b.about w.0 in
    let value = optional_term_exact a.value b.value x.0 in
    let other = optional_term_exact a.other b.other x.1 in
    λ i. record { source_shape = source_shape i; focus_node = focus_node i; component = component i; parameter = parameter i; about = about i; value = value i; other = other i }
