use Rattle.std.proofs.Common.{◌≡◌, ◌<◌, ◌∙◌, ℕ, List, length, map, ap, sym, subst}
use Rattle.std.specs.List.{All}
use Rattle.std.specs.Prelude.{MatchOption, Option}
use Rattle.rdf_model.specs.declared.term.Term.{Term}
use Rattle.rdf_model.specs.Numbers.{term_at}
use Rattle.path_ast.specs.declared.path.Path.{Path}
use Rattle.path_ast.specs.PathReadings.{HasEach}
use Rattle.shape_ast.specs.declared.constraint.Constraint.{Constraint}
use Rattle.shape_ast.specs.declared.pattern.CompiledPattern.{CompiledPattern}
use Rattle.shape_ast.specs.declared.target.Target.{Target}
use Rattle.shape_ast.specs.Binding.{IsBoundList, IsBoundPattern}
use Rattle.shape_ast.specs.Readings.{HoldsOfConstraint, HoldsOfTarget, read_constraint, read_optional_path, read_target}
use Rattle.shape_ast.proofs.Alike.{ok_of, pattern_range, pattern_same}
use Rattle.shape_ast.proofs.bound.bind_shape.Goals as goal

pub returns : goal.returns
returns g c =
    let terms = g.N.Names.terms c.args.names.now in
    let n = length terms in
    let s = c.args.shape.now in
    let path_range = ok_of c.bind_optional_path.result c.in_ok-path.path (λ (b : Option (Path ℕ)). MatchOption b (Unit {0}) (HasEach (λ k. k < n))) c.in_ok-path.ensures.0 c.bind_optional_path.ensures.bound in
    let path = ok_of c.bind_optional_path.result c.in_ok-path.path (λ (b : Option (Path ℕ)). read_optional_path (term_at terms) b ≡ read_optional_path (λ (t : Term). t) s.path) c.in_ok-path.ensures.0 c.bind_optional_path.ensures.path in
    let pattern = ok_of c.bind_pattern.result c.in_ok-path.pattern (λ (b : Option (CompiledPattern ℕ)). IsBoundPattern terms s.pattern b) c.in_ok-path.ensures.1 c.bind_pattern.ensures in
    let targets = ok_of c.bind_targets.result c.in_ok-targets.targets (λ (b : List (Target ℕ)). All (HoldsOfTarget (λ k. k < n)) b × (map (read_target (term_at terms)) b ≡ map (read_target (λ (t : Term). t)) c.as_slice.result.now)) c.in_ok-targets.ensures.0 c.bind_targets.ensures in
    let constraints = ok_of c.bind_constraints.result c.in_ok-targets.constraints (λ (b : List (Constraint ℕ)). All (HoldsOfConstraint (λ k. k < n) c.args.shapes) b × (map (read_constraint (term_at terms)) b ≡ map (read_constraint (λ (t : Term). t)) c.as_slice-2.result.now)) c.in_ok-targets.ensures.1 c.bind_constraints.ensures in
    let messages = ok_of c.bind_terms.result c.in_ok-messages.messages (λ (b : List ℕ). IsBoundList terms c.as_slice-3.result.now b) c.in_ok-messages.ensures.0 c.bind_terms.ensures in
    let ignored = ok_of c.bind_terms-2.result c.in_ok-messages.ignored (λ (b : List ℕ). IsBoundList terms c.as_slice-4.result.now b) c.in_ok-messages.ensures.1 c.bind_terms-2.ensures in
    let properties : c.in_ok-properties.properties ≡ s.properties = ok_of c.copy_places.result c.in_ok-properties.properties (λ (b : List ℕ). b ≡ c.as_slice-5.result.now) c.in_ok-properties.ensures.0 c.copy_places.ensures ∙ c.as_slice-5.ensures in
    let siblings : c.in_ok-properties.siblings ≡ s.siblings = ok_of c.copy_places-2.result c.in_ok-properties.siblings (λ (b : List ℕ). b ≡ c.as_slice-6.result.now) c.in_ok-properties.ensures.1 c.copy_places-2.ensures ∙ c.as_slice-6.ensures in
    record {
      in_range = record {
        node = c.number_of.ensures.bound;
        path = path_range;
        severity = c.bind_optional.ensures.bound;
        messages = messages.in_range;
        targets = targets.0;
        constraints = constraints.0;
        pattern = pattern_range terms s.pattern c.in_ok-path.pattern pattern;
        flags = c.bind_optional-2.ensures.bound;
        properties = subst (λ (ks : List ℕ). All (λ k. k < c.args.shapes) ks) (sym properties) c.requires.properties;
        qualified = c.requires.qualified;
        siblings = subst (λ (ks : List ℕ). All (λ k. k < c.args.shapes) ks) (sym siblings) c.requires.siblings;
        ignored = ignored.in_range;
      };
      same = λ i. record {
        node = c.number_of.ensures.term i;
        path = path i;
        is_deactivated = s.is_deactivated;
        severity = c.bind_optional.ensures.term i;
        messages = (messages.same ∙ ap (map (λ (t : Term). t)) c.as_slice-3.ensures) i;
        targets = (targets.1 ∙ ap (map (read_target (λ (t : Term). t))) c.as_slice.ensures) i;
        constraints = (constraints.1 ∙ ap (map (read_constraint (λ (t : Term). t))) c.as_slice-2.ensures) i;
        pattern = pattern_same terms s.pattern c.in_ok-path.pattern pattern i;
        flags = c.bind_optional-2.ensures.term i;
        properties = properties i;
        qualified = s.qualified;
        siblings = siblings i;
        ignored = (ignored.same ∙ ap (map (λ (t : Term). t)) c.as_slice-4.ensures) i;
      };
      pattern = pattern;
    }
