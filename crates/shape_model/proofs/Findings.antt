-- Each result of a component is made of a finding.
use Rattle.std.proofs.Common.{◌≡◌, ℕ, List, inl, inr, Some, None, ap}
use Rattle.rdf_model.specs.declared.term.Term.{Term}
use Rattle.shape_model.specs.declared.component.Component.{Component}
use Rattle.shape_model.specs.declared.component.Component.TheVariants as components
use Rattle.shape_model.specs.declared.result_row.ResultRow.{ResultRow}
use Rattle.shape_model.specs.Components.{ComponentRow, Finding, ForCount, ForEach, ForEachOfList, ForMissing, ForPairs, ForQualifiedCount, ForTags, ForTriples, RowsOf, Surroundings, found_alone, found_at, found_beside, row_of}
use Rattle.shape_model.specs.Readings.{Reading}
use Rattle.shape_model.specs.Vocabulary.{ShapeProperty, string_literal}

module _ (t : Surroundings) (y : Reading) (q : Term) (row : Finding → ResultRow) (r : ResultRow) where
  abbrev IsMade : Type 0
  IsMade = (x : Finding) × (r ≡ row x)

  each : (P : Term → Type 0) → ForEach t row P r → IsMade
  each P h = (found_at h.0, h.3)

  of_list : (p : ShapeProperty) (P : List Term → Term → Type 0) → ForEachOfList t y p q row P r → IsMade
  of_list p P h = each (P h.0) h.2

  count : (P : Term → Type 0) (IsWrong : ℕ → Type 0) → ForCount row P IsWrong r → IsMade
  count P IsWrong h = (found_alone, h.3)

  qualified : (IsWrong : ℕ → Type 0) → ForQualifiedCount t y row IsWrong r → IsMade
  qualified IsWrong h = (found_alone, h.2.3)

  missing : ForMissing t q row r → IsMade
  missing h = (found_at h.0, h.3)

  pairs : (P : Term → Term → Type 0) → ForPairs t q row P r → IsMade
  pairs P h = (found_beside h.0 h.1, h.5)

  tags : ForTags t row r → IsMade
  tags h = (record { about = None; value = None; other = Some (string_literal h.0) }, h.8)

  triples : ForTriples t y row r → IsMade
  triples h = (record { about = Some h.0; value = Some h.2; other = Some h.1 }, h.6)

  pub found_row : (c : Component) → RowsOf c t y q row r → IsMade
  found_row components.Class h = each _ h
  found_row components.Datatype h = each _ h
  found_row components.NodeKind h = each _ h
  found_row components.MinCount h = count _ _ h
  found_row components.MaxCount h = count _ _ h
  found_row components.MinExclusive h = each _ h
  found_row components.MinInclusive h = each _ h
  found_row components.MaxExclusive h = each _ h
  found_row components.MaxInclusive h = each _ h
  found_row components.MinLength h = each _ h
  found_row components.MaxLength h = each _ h
  found_row components.Pattern h = each _ h
  found_row components.LanguageIn h = of_list _ _ h
  found_row components.UniqueLang h = tags h.1
  found_row components.Equals h = elim h [ inl k ↦ each _ k | inr k ↦ missing k ]
  found_row components.Disjoint h = each _ h
  found_row components.LessThan h = pairs _ h
  found_row components.LessThanOrEquals h = pairs _ h
  found_row components.Not h = each _ h
  found_row components.And h = of_list _ _ h
  found_row components.Or h = of_list _ _ h
  found_row components.Xone h = of_list _ _ h
  found_row components.Node h = each _ h
  found_row components.QualifiedMinCount h = qualified _ h
  found_row components.QualifiedMaxCount h = qualified _ h
  found_row components.Closed h = triples h.1
  found_row components.HasValue h = (found_alone, h.1)
  found_row components.In h = of_list _ _ h

-- so its source is the shape
pub component_source : (c : Component) (t : Surroundings) (y : Reading) (shape f : Term) (r : ResultRow) → ComponentRow c t y shape f r → r.source_shape ≡ shape
component_source c t y shape f r h = let made = found_row t y h.0 (row_of c shape f h.0) r c h.2 in ap (λ (x : ResultRow). x.source_shape) made.1
