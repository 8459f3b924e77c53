-- The shape that is assembled of its parts.
use Rattle.std.proofs.Common.{◌≡◌, ℕ, List, Bool, map, Option, Some, IsTrue, refl, sym, subst}
use Rattle.std.specs.Prelude.{◌↔◌}
use Rattle.collections.specs.Ordered.{IsAscending}
use Rattle.rdf_model.specs.declared.term.Term.{Term}
use Rattle.rdf_model.specs.declared.triple.Triple.{Triple}
use Rattle.rdf_model.specs.Terms.{triple_cmp}
use Rattle.path_ast.specs.declared.path.Path.{Path}
use Rattle.shape_properties.specs.declared.property.ShapeProperty.TheVariants as vocabulary
use Rattle.shape_rules.specs.Broken.{IsWellFormed}
use Rattle.shape_properties.specs.Syntax.{IsShape}
use Rattle.shape_ast.specs.declared.constraint.Constraint.{Constraint}
use Rattle.shape_ast.specs.declared.pattern.CompiledPattern.{CompiledPattern}
use Rattle.shape_ast.specs.declared.shape.Shape.{Shape}
use Rattle.shape_ast.specs.declared.target.Target.{Target}
use Rattle.shape_ast.specs.Readings.{read_optional_path, read_shape}
use Rattle.shape_ast.specs.Standing.{StandsIn}
use Rattle.shape_ast.specs.Once.{constraint_triple}
use Rattle.shape_reader.specs.Parts.{ArePartsOf, HasPlace, IsCompiled, IsKeptPath, IsOff, IsOptionalPattern, IsShapeOf}
use Rattle.shape_reader.proofs.Naming.{constraints_named, constraints_same, ignored_named, map_same, optional_same, path_named, pattern_built, pattern_named, pattern_value, place_named, places_named, shape_stands, siblings_named, targets_named, targets_same, value_named, values_named}
use Rattle.shape_rules.proofs.SingleValues.{one_value}

module _ (s : List Triple) (well : IsWellFormed s) (nodes : List Term) (n : Term) (shape : IsShape s n) where
  abbrev made : Option (Path Term) → Option (CompiledPattern Term) → Term → List (Target Term) → List (Constraint Term) → List ℕ → List ℕ → Option Term → Option Term → List Term → List Term → Bool → Option ℕ → Shape Term
  made path pattern own targets constraints properties siblings severity flags messages ignored off qualified = record {
    node = own;
    path = path;
    is_deactivated = off;
    severity = severity;
    messages = messages;
    targets = targets;
    constraints = constraints;
    pattern = pattern;
    flags = flags;
    properties = properties;
    qualified = qualified;
    siblings = siblings;
    ignored = ignored;
  }

  pub assembles : (path : Option (Path Term)) (pattern : Option (CompiledPattern Term)) (own : Term) (targets : List (Target Term)) (constraints : List (Constraint Term)) (properties siblings : List ℕ) (severity flags : Option Term) (messages ignored : List Term) (off : Bool) (qualified : Option ℕ)
      → IsKeptPath s n (read_optional_path (λ t. t) path)
      → IsOptionalPattern s n pattern
      → ArePartsOf s nodes n own targets constraints properties siblings severity flags messages ignored
      → IsTrue off ↔ IsOff s n
      → ((k : ℕ) → (qualified ≡ Some k) ↔ HasPlace s nodes n vocabulary.QualifiedValueShape k)
      → IsShapeOf s nodes n (made path pattern own targets constraints properties siblings severity flags messages ignored off qualified)
  assembles path pattern own targets constraints properties siblings severity flags messages ignored off qualified is_path is_pattern parts is_off is_qualified = record {
    node = parts.node;
    compiled = subst (λ (m : Term). IsCompiled s nodes (read_shape (λ t. t) (made path pattern m targets constraints properties siblings severity flags messages ignored off qualified))) (sym parts.node) (record {
      path = is_path;
      is_deactivated = is_off;
      severity = rw (optional_same severity) parts.severity_said;
      messages = rw (map_same messages) parts.messages_said;
      targets = rw (targets_same targets) parts.targets_said.said;
      constraints = rw (constraints_same constraints) parts.constraints_said.said;
      pattern = pattern_value s nodes n pattern is_pattern;
      flags = rw (optional_same flags) parts.flags_said;
      properties = parts.properties_said.members;
      qualified = is_qualified;
      siblings = parts.siblings_said;
      ignored = rw (map_same ignored) parts.ignored_said;
    });
    once = record {
      constraints = rw (constraints_same constraints) (subst (λ (m : Term). IsAscending triple_cmp (map (constraint_triple m) constraints)) (sym parts.node) parts.constraints_said.once);
      targets = rw (targets_same targets) parts.targets_said.once;
      properties = parts.properties_said.ascending;
    };
    built = pattern_built s nodes n pattern flags is_pattern parts.flags_said (one_value s well n shape vocabulary.Flags refl);
    named = record {
      node = subst (StandsIn s) (sym parts.node) (shape_stands s nodes n shape);
      path = path_named s nodes n path off is_off is_path;
      severity = value_named s nodes n vocabulary.Severity severity parts.severity_said;
      messages = values_named s nodes n vocabulary.Message messages parts.messages_said;
      targets = targets_named s nodes n targets parts.targets_said.said;
      constraints = constraints_named s nodes n constraints (λ k c. let h = (parts.constraints_said.said k).0 c in (h.0, h.1, h.2, h.3));
      pattern = pattern_named s nodes n pattern is_pattern;
      flags = value_named s nodes n vocabulary.Flags flags parts.flags_said;
      properties = places_named s nodes n vocabulary.Property properties parts.properties_said.members;
      qualified = place_named s nodes n vocabulary.QualifiedValueShape qualified is_qualified;
      siblings = siblings_named s nodes n siblings parts.siblings_said;
      ignored = ignored_named s nodes n ignored parts.ignored_said;
    };
  }
