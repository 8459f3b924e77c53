-- The order of components and of validation results.
use Rattle.std.specs.Prelude.{ℕ, Option, Some, None}
use Rattle.std.specs.declared.cmp.Ordering.{Ordering}
use Rattle.std.specs.declared.cmp.Ordering.TheVariants.{Less, Equal, Greater}
use Rattle.std.specs.Ordering.{nat_cmp, ordering_then}
use Rattle.rdf_model.specs.declared.term.Term.{Term}
use Rattle.rdf_model.specs.Terms.{term_cmp}
use Rattle.shape_model.specs.declared.component.Component.{Component}
use Rattle.shape_model.specs.declared.component.Component.TheVariants as components
use Rattle.shape_model.specs.declared.result_row.ResultRow.{ResultRow}

-- the components are numbered from 1 to 28
abbrev pub component_number : Component → ℕ
component_number components.Class = 1
component_number components.Datatype = 2
component_number components.NodeKind = 3
component_number components.MinCount = 4
component_number components.MaxCount = 5
component_number components.MinExclusive = 6
component_number components.MinInclusive = 7
component_number components.MaxExclusive = 8
component_number components.MaxInclusive = 9
component_number components.MinLength = 10
component_number components.MaxLength = 11
component_number components.Pattern = 12
component_number components.LanguageIn = 13
component_number components.UniqueLang = 14
component_number components.Equals = 15
component_number components.Disjoint = 16
component_number components.LessThan = 17
component_number components.LessThanOrEquals = 18
component_number components.Not = 19
component_number components.And = 20
component_number components.Or = 21
component_number components.Xone = 22
component_number components.Node = 23
component_number components.QualifiedMinCount = 24
component_number components.QualifiedMaxCount = 25
component_number components.Closed = 26
component_number components.HasValue = 27
component_number components.In = 28

-- components by number
abbrev pub component_cmp : Component → Component → Ordering
component_cmp c d = nat_cmp (component_number c) (component_number d)

-- an absent term before a present one
abbrev pub optional_term_cmp : Option Term → Option Term → Ordering
optional_term_cmp None None = Equal
optional_term_cmp None (Some b) = Less
optional_term_cmp (Some a) None = Greater
optional_term_cmp (Some a) (Some b) = term_cmp a b

-- results from the left
abbrev pub result_row_cmp : ResultRow → ResultRow → Ordering
result_row_cmp a b =
    ordering_then (term_cmp a.source_shape b.source_shape)
    (ordering_then (term_cmp a.focus_node b.focus_node)
    (ordering_then (component_cmp a.component b.component)
    (ordering_then (optional_term_cmp a.parameter b.parameter)
    (ordering_then (optional_term_cmp a.about b.about)
    (ordering_then (optional_term_cmp a.value b.value)
    (optional_term_cmp a.other b.other))))))
