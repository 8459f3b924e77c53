-- What a well-formed graph says of a value of a property of a shape.
use Rattle.std.proofs.Common.{◌≡◌, ℕ, List, Some, None, IsTrue, refl, inl, inr}
use Rattle.literal_order.specs.Texts.{string_value}
use Rattle.rdf_model.specs.declared.term.Term.{Term}
use Rattle.rdf_model.specs.declared.term.Term.TheVariants.{Blank, Iri, Literal}
use Rattle.rdf_model.specs.declared.triple.Triple.{Triple}
use Rattle.shape_model.specs.ShapeSyntax.{ListOf}
use Rattle.shape_syntax.specs.PathDepth.{IsDeep, IsTooDeep}
use Rattle.shape_syntax.specs.PathNodes.{IsPath}
use Rattle.shape_syntax.specs.declared.reading.PathFault.{PathFault}
use Rattle.shape_syntax.specs.declared.reading.PathFault.TheVariants as path_faults
use Rattle.shape_properties.specs.declared.property.ShapeProperty.{ShapeProperty}
use Rattle.shape_properties.specs.declared.property.ShapeProperty.TheVariants as properties
use Rattle.shape_properties.specs.declared.table.Test.TheVariants as tests
use Rattle.shape_rules.specs.Broken.{IsWellFormed, Passes}
use Rattle.shape_rules.specs.Rows.{row}
use Rattle.shape_properties.specs.Syntax.{HasProperty, IsShape}
use Rattle.shape_properties.specs.Table.{of_value}
use Rattle.shape_properties.specs.Tests.{has_datatype, is_flags, xsd_string}
use Rattle.shape_reader.specs.Parts.{HasTexts}
use Rattle.shape_reader.proofs.Deciding.{list_unless}

no_text : (v : Term) → string_value v ≡ None → IsTrue (has_datatype xsd_string v) → ⊥
no_text (Blank session number) e h = cc
no_text (Iri text) e h = cc
no_text (Literal text datatype language) e h = cc

no_flags : (v : Term) → string_value v ≡ None → IsTrue (is_flags v) → ⊥
no_flags (Blank session number) e h = cc
no_flags (Iri text) e h = cc
no_flags (Literal text datatype language) e h = cc

deep_path : (s : List Triple) (n : Term) (levels : ℕ) → IsTooDeep s n levels → IsDeep s n levels
deep_path s n levels h = (h.0.0, h.0.1, h.1 h.0.0 h.0.1)

module _ (s : List Triple) (well : IsWellFormed s) (n : Term) (shape : IsShape s n) where
  -- it passes the test of its property
  pub passes : (p : ShapeProperty) (v : Term) → HasProperty s n p v → (Passes s (of_value p).test v → ⊥) → ⊥
  passes p v h fails = well (row n (of_value p).rule (Some v)) (inl (inl (inl (shape, inl (p, v, h, inr (inl (fails, refl)))))))

  pub pattern_texts : HasTexts s n properties.Pattern
  pattern_texts v h e = passes properties.Pattern v h (no_text v e)

  pub flags_texts : HasTexts s n properties.Flags
  flags_texts v h e = passes properties.Flags v h (no_flags v e)

  -- the values of these properties are lists
  pub list_of : (p : ShapeProperty) → (of_value p).test ≡ tests.List → (v : Term) → HasProperty s n p v → (ms : List Term) × ListOf s v ms
  list_of p is v h = list_unless s v (λ lacks. passes p v h (λ q. lacks (rw is at q)))

  -- its paths are read, but for want of memory
  pub path_readable : (v : Term) (fault : PathFault) → HasProperty s n properties.Path v → ((fault ≡ path_faults.NotPath) → IsPath s v → ⊥) × ((fault ≡ path_faults.TooDeep) → IsTooDeep s v 256)
      → ((fault ≡ path_faults.NotPath) → ⊥) × ((fault ≡ path_faults.TooDeep) → ⊥)
  path_readable v fault h why = (
    λ e. passes properties.Path v h (why.0 e),
    λ e. well (row n 41 None) (inr (λ r broken. well r (inl broken), inl (inr (shape, (v, h, deep_path s v 256 (why.1 e))), refl))),
  )
