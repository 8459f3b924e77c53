-- The results of pairs, of triples and of counts at a place, and all results of a shape there.
use Rattle.std.specs.Prelude.{◌≡◌, ℕ, List, Some, None}
use Rattle.std.specs.List.{Contains}
use Rattle.rdf_model.specs.declared.term.Term.{Term}
use Rattle.rdf_model.specs.declared.triple.Triple.{Triple}
use Rattle.shape_model.specs.declared.component.Component.{Component}
use Rattle.shape_model.specs.declared.component.Component.TheVariants as components
use Rattle.shape_model.specs.declared.result_row.ResultRow.{ResultRow}
use Rattle.shape_model.specs.Components.{AtIn, ComponentRow, Finding, ForCount, ForPairs, ForQualifiedCount, IsQualified, ForTags, ForTriples, PropertyRow, found_beside}
use Rattle.shape_model.specs.Readings.{reading}
use Rattle.shape_model.specs.TermTests.{HasTag}
use Rattle.shape_model.specs.Vocabulary.{string_literal}
use Rattle.plain_values.specs.Around.{around, row_at}
use Rattle.plain_values.specs.declared.site.ToldRow.{ToldRow}
use Rattle.plain_values.specs.declared.site.PlainSite.{PlainSite}
use Rattle.plain_components.specs.Pairs.{SharesSome, Stands}

-- one for a value node and each value of the property q at the focus node, unless P holds of both; those of one value node
abbrev pub PairsAt : PlainSite → Component → Term → (Term → Term → Type 0) → ResultRow → Type 0
PairsAt p c q P = ForPairs (around p) q (row_at p c q) P

abbrev pub PairRow : PlainSite → Component → Term → List Term → Term → ResultRow → Type 0
PairRow p c q others v r = (w : Term) × Contains others w × (Stands c v w → ⊥) × (r ≡ row_at p c q (found_beside v w))

-- what tells the result of a language tag apart, and that of a triple
abbrev pub found_tag : List ℕ → Finding
found_tag tag = record { about = None; value = None; other = Some (string_literal tag) }

abbrev pub found_triple : Triple → Finding
found_triple t = record { about = Some t.subject; value = Some t.object; other = Some t.predicate }

-- one for each language tag that two value nodes have; those that the value node has
abbrev pub TagsAt : PlainSite → Term → ResultRow → Type 0
TagsAt p q = ForTags (around p) (row_at p components.UniqueLang q)

abbrev pub SharedRow : PlainSite → Term → List ℕ → Term → ResultRow → Type 0
SharedRow p q tag v r = SharesSome p.values.now tag v × (r ≡ row_at p components.UniqueLang q (found_tag tag))

abbrev pub TagRow : PlainSite → Term → Term → ResultRow → Type 0
TagRow p q v r = (tag : List ℕ) × HasTag tag v × SharedRow p q tag v r

-- one for each triple of a value node whose predicate isn't allowed; that of one triple
abbrev pub TriplesAt : PlainSite → Term → ResultRow → Type 0
TriplesAt p q = ForTriples (around p) (reading p.shapes.now p.shape.now) (row_at p components.Closed q)

abbrev pub IsForbidden : PlainSite → List Term → Triple → Type 0
IsForbidden p allowed t = Contains p.values.now t.subject × (Contains allowed t.predicate → ⊥)

abbrev pub ForbiddenRow : PlainSite → Term → List Term → Triple → ResultRow → Type 0
ForbiddenRow p q allowed t r = IsForbidden p allowed t × (r ≡ row_at p components.Closed q (found_triple t))

-- one where a wrong number of value nodes is qualified; for one qualified value shape m
abbrev pub QualifiedAt : PlainSite → Component → Term → (ℕ → Type 0) → ResultRow → Type 0
QualifiedAt p c q W = ForQualifiedCount (around p) (reading p.shapes.now p.shape.now) (row_at p c q) W

abbrev pub QualifiedRow : PlainSite → Component → Term → (ℕ → Type 0) → Term → ResultRow → Type 0
QualifiedRow p c q W m = ForCount (row_at p c q) (IsQualified (around p) (reading p.shapes.now p.shape.now) m) W

-- the results of a component, of the property shapes, and all of them, where the results of other shapes are told
abbrev pub ComponentAt : PlainSite → Component → ResultRow → Type 0
ComponentAt p c = ComponentRow c (around p) (reading p.shapes.now p.shape.now) p.shape.now p.focus.now

abbrev pub PropertyAt : PlainSite → ResultRow → Type 0
PropertyAt p = PropertyRow (around p) (reading p.shapes.now p.shape.now)

abbrev pub AtPlace : PlainSite → ResultRow → Type 0
AtPlace p = AtIn (around p) (reading p.shapes.now p.shape.now) p.shape.now p.focus.now

-- the result that is told of one of the property shapes at a value node
abbrev pub EntryRow : PlainSite → List Term → ToldRow → ResultRow → Type 0
EntryRow p properties e r = (Contains properties e.shape × Contains p.values.now e.node) × (r ≡ e.row)
