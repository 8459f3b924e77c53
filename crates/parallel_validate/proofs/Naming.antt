-- The terms of shapes that were compiled of named triples are named.
use Rattle.std.proofs.Common.{ℕ, List, length, Option, Some, None, get_or, subst, inl, inr}
use Rattle.std.specs.Prelude.{MatchOption}
use Rattle.std.specs.List.{All}
use Rattle.std.proofs.lemmas.List.Elements.{All-contains}
use Rattle.rdf_model.specs.declared.term.Term.{Term}
use Rattle.rdf_model.specs.declared.triple.Triple.{Triple}
use Rattle.path_ast.specs.declared.path.Path.{Path, Predicate, Inverse', Sequence', Alternative', ZeroOrMore', OneOrMore', ZeroOrOne', Row_of-Path, end_of-Path, more_of-Path}
use Rattle.path_ast.specs.PathReadings.{HasEach, IsNamed, RowHasEach}
use Rattle.shape_ast.specs.declared.constraint.Constraint.{Constraint}
use Rattle.shape_ast.specs.declared.constraint.Constraint.TheVariants.{ByTerm, ByList, ByShape, ByShapes}
use Rattle.shape_ast.specs.declared.pattern.CompiledPattern.{CompiledPattern}
use Rattle.shape_ast.specs.declared.shape.Shape.{Shape}
use Rattle.shape_ast.specs.declared.target.Target.{Target}
use Rattle.shape_ast.specs.declared.target.Target.TheVariants.{Node, Class, ImplicitClass, SubjectsOf, ObjectsOf}
use Rattle.shape_ast.specs.Readings.{AreNamed, HoldsOfConstraint, HoldsOfShape, HoldsOfTarget}
use Rattle.shape_ast.specs.Standing.{StandsIn}
use Rattle.parallel_validate.specs.Named.{AreNamedTriples, IsNamedTriple}

-- what holds of each item holds of them too where it follows
pub all_more : {X : Type 0} → (A B : X → Type 0) → ((x : X) → A x → B x) → (xs : List X) → All A xs → All B xs
all_more A B f xs all k d lt = f (get_or xs k d) (all k d lt)

optional_more : {X : Type 0} → (A B : X → Type 0) → ((x : X) → A x → B x) → (o : Option X) → MatchOption o (Unit {0}) A → MatchOption o (Unit {0}) B
optional_more A B f None h = tt
optional_more A B f (Some x) h = f x h

-- where Q follows from P, what has P of each of its terms has Q of each
module _ {T : Type 0} (P Q : T → Type 0) (more : (t : T) → P t → Q t) where
  mutual
    pub path_more : (p : Path T) → HasEach P p → HasEach Q p
    path_more (Predicate p) h = more p h
    path_more (Inverse' _ p) h = path_more p h
    path_more (Sequence' _ p _ ps) h = (path_more p h.0, row_more ps h.1)
    path_more (Alternative' _ p _ ps) h = (path_more p h.0, row_more ps h.1)
    path_more (ZeroOrMore' _ p) h = path_more p h
    path_more (OneOrMore' _ p) h = path_more p h
    path_more (ZeroOrOne' _ p) h = path_more p h

    row_more : {m : _} → (ps : Row_of-Path T m) → RowHasEach P ps → RowHasEach Q ps
    row_more end_of-Path h = tt
    row_more (more_of-Path p ps) h = (path_more p h.0, row_more ps h.1)

  target_more : (t : Target T) → HoldsOfTarget P t → HoldsOfTarget Q t
  target_more (Node t) h = more t h
  target_more (Class t) h = more t h
  target_more ImplicitClass h = tt
  target_more (SubjectsOf t) h = more t h
  target_more (ObjectsOf t) h = more t h

  constraint_more : (count : ℕ) (k : Constraint T) → HoldsOfConstraint P count k → HoldsOfConstraint Q count k
  constraint_more count (ByTerm component q) h = more q h
  constraint_more count (ByList component q members) h = (more q h.0, all_more P Q more members h.1)
  constraint_more count (ByShape component q shape) h = (more q h.0, h.1)
  constraint_more count (ByShapes component q shapes) h = (more q h.0, h.1)

  pub shape_more : (count : ℕ) (s : Shape T) → HoldsOfShape P count s → HoldsOfShape Q count s
  shape_more count s h = record {
    node = more s.node h.node;
    path = optional_more (HasEach P) (HasEach Q) path_more s.path h.path;
    severity = optional_more P Q more s.severity h.severity;
    messages = all_more P Q more s.messages h.messages;
    targets = all_more (HoldsOfTarget P) (HoldsOfTarget Q) target_more s.targets h.targets;
    constraints = all_more (HoldsOfConstraint P count) (HoldsOfConstraint Q count) (constraint_more count) s.constraints h.constraints;
    pattern = optional_more (λ (p : CompiledPattern T). P p.parameter) (λ p. Q p.parameter) (λ p. more p.parameter) s.pattern h.pattern;
    flags = optional_more P Q more s.flags h.flags;
    properties = h.properties;
    qualified = h.qualified;
    siblings = h.siblings;
    ignored = all_more P Q more s.ignored h.ignored;
  }

term_named : (names : List Term) (s : List Triple) → AreNamedTriples names s → (x : Term) → StandsIn s x → IsNamed names x
term_named names s named x h =
    let t : IsNamedTriple names h.0 = All-contains (IsNamedTriple names) s h.0 named h.1 in
    elim h.2 [
      | inl e ↦ subst (λ (y : Term). IsNamed names y) e t.0
      | inr (inl e) ↦ subst (λ (y : Term). IsNamed names y) e t.1
      | inr (inr e) ↦ subst (λ (y : Term). IsNamed names y) e t.2
    ]

pub are_named : (names : List Term) (s : List Triple) (shapes : List (Shape Term)) → All (HoldsOfShape (StandsIn s) (length shapes)) shapes → AreNamedTriples names s → AreNamed names shapes
are_named names s shapes within named =
    all_more (HoldsOfShape (StandsIn s) (length shapes)) (HoldsOfShape (IsNamed names) (length shapes)) (shape_more (StandsIn s) (IsNamed names) (term_named names s named) (length shapes)) shapes within
