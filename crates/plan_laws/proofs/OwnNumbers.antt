-- A shape has as many rows of its own as looks are counted of it.
use Rattle.std.proofs.Common.{◌≡◌, ℕ, ◌+◌, ◌*◌, Bool, true, false, List, [], ◌∷◌, length, refl, sym, subst, arith, inl, inr}
use Rattle.std.specs.Prelude.{◌↔◌, Option, Some, None, if◌then◌else◌}
use Rattle.std.specs.List.{Contains, flat_map}
use Rattle.std.specs.declared.cmp.Ordering.TheVariants.{Less}
use Rattle.std.specs.Cmp.{tied_itself}
use Rattle.std.proofs.lemmas.List.{length-append}
use Rattle.collections.specs.Ordered.{AllAbove, IsAscending}
use Rattle.collections.proofs.Members.{below, has_cases, has_equal, has_tail, same_lists}
use Rattle.rdf_model.specs.declared.term.Term.{Term}
use Rattle.rdf_model.specs.declared.triple.Triple.{Triple}
use Rattle.rdf_model.specs.Matching.{same_term}
use Rattle.rdf_model.specs.Orders.{term_total}
use Rattle.rdf_model.specs.Terms.{term_cmp}
use Rattle.rdf_model.proofs.SameTerms.{equal_same, same_equal}
use Rattle.shape_model.specs.Declarations.{values_of}
use Rattle.shape_model.specs.Instances.{class_path}
use Rattle.shape_model.specs.Looks.{ByOutAny, LookRow}
use Rattle.shape_model.specs.Paths.{Path}
use Rattle.shape_model.specs.ShapeSyntax.{HasProperty, PathOf}
use Rattle.shape_model.specs.Vocabulary.{ShClass, ShClosed, ShDisjoint, ShEquals, ShLessThan, ShLessThanOrEquals, ShPath, property_iri, true_literal}
use Rattle.shape_model.proofs.Declarations.{values_law}
use Rattle.reference_totals.specs.Totals.{SumBy}
use Rattle.shape_sizes.specs.Sizes.{CountsIf, HasPathLooks, looks_of}
use Rattle.shape_ast.specs.declared.component.TermComponent.TheVariants as by_term
use Rattle.shape_ast.specs.declared.component.ListComponent.TheVariants as by_list
use Rattle.shape_ast.specs.declared.component.ShapeComponent.TheVariants as by_shape
use Rattle.shape_ast.specs.declared.component.ShapesComponent.TheVariants as by_shapes
use Rattle.shape_ast.specs.declared.constraint.Constraint.{Constraint}
use Rattle.shape_ast.specs.declared.constraint.Constraint.TheVariants.{ByList, ByShape, ByShapes, ByTerm}
use Rattle.shape_ast.specs.Readings.{parameter}
use Rattle.read_plans.specs.PathRows.{path_rows}
use Rattle.read_plans.specs.ShapeRows.{constraint_rows, optional_rows}
use Rattle.plan_laws.proofs.Params.{is_for, one, params, params_length}
use Rattle.plan_laws.proofs.PathNumbers.{path_count}

-- a closed shape counts one
abbrev closed_one : Constraint Term → ℕ
closed_one k = if is_for ShClosed k then one (same_term (parameter k) true_literal) else 0

closed_length : (b : Bool) (w : List Path) → length {A = LookRow} (if b then record { way = w; kind = ByOutAny } ∷ [] else []) ≡ one b
closed_length true w = refl
closed_length false w = refl

abbrev Numbers : List Path → List Path → Constraint Term → Type 0
Numbers q w k = length (constraint_rows q w k)
    ≡ 2 * one (is_for ShClass k) + one (is_for ShEquals k) + one (is_for ShDisjoint k) + one (is_for ShLessThan k) + one (is_for ShLessThanOrEquals k) + closed_one k

one_number : (q w : List Path) (k : Constraint Term) → Numbers q w k
one_number q w (ByTerm by_term.Class p) = path_count class_path false w
one_number q w (ByTerm by_term.Datatype p) = refl
one_number q w (ByTerm by_term.NodeKind p) = refl
one_number q w (ByTerm by_term.MinCount p) = refl
one_number q w (ByTerm by_term.MaxCount p) = refl
one_number q w (ByTerm by_term.MinExclusive p) = refl
one_number q w (ByTerm by_term.MinInclusive p) = refl
one_number q w (ByTerm by_term.MaxExclusive p) = refl
one_number q w (ByTerm by_term.MaxInclusive p) = refl
one_number q w (ByTerm by_term.MinLength p) = refl
one_number q w (ByTerm by_term.MaxLength p) = refl
one_number q w (ByTerm by_term.UniqueLang p) = refl
one_number q w (ByTerm by_term.Equals p) = refl
one_number q w (ByTerm by_term.Disjoint p) = refl
one_number q w (ByTerm by_term.LessThan p) = refl
one_number q w (ByTerm by_term.LessThanOrEquals p) = refl
one_number q w (ByTerm by_term.QualifiedMinCount p) = refl
one_number q w (ByTerm by_term.QualifiedMaxCount p) = refl
one_number q w (ByTerm by_term.Closed p) = let e = closed_length (same_term p true_literal) w in omega (arith, e)
one_number q w (ByTerm by_term.HasValue p) = refl
one_number q w (ByList by_list.LanguageIn p members) = refl
one_number q w (ByList by_list.In p members) = refl
one_number q w (ByShape by_shape.Not p shape) = refl
one_number q w (ByShape by_shape.Node p shape) = refl
one_number q w (ByShapes by_shapes.And p shapes) = refl
one_number q w (ByShapes by_shapes.Or p shapes) = refl
one_number q w (ByShapes by_shapes.Xone p shapes) = refl

-- how often the term stands in the list
abbrev pub count : Term → List Term → ℕ
count t [] = 0
count t (v ∷ vs) = one (same_term v t) + count t vs

closed_next : (k : Constraint Term) (ks : List (Constraint Term)) → count true_literal (params ShClosed (k ∷ ks)) ≡ closed_one k + count true_literal (params ShClosed ks)
closed_next k ks = elim (is_for ShClosed k) as (λ (b : Bool). count true_literal (if b then parameter k ∷ params ShClosed ks else params ShClosed ks) ≡ (if b then one (same_term (parameter k) true_literal) else 0) + count true_literal (params ShClosed ks)) [
  | true ↦ refl
  | false ↦ omega arith
]

abbrev pub AllNumbers : List (Constraint Term) → ℕ
AllNumbers ks = 2 * length (params ShClass ks) + length (params ShEquals ks) + length (params ShDisjoint ks) + length (params ShLessThan ks) + length (params ShLessThanOrEquals ks) + count true_literal (params ShClosed ks)

pub constraint_numbers : (q w : List Path) (ks : List (Constraint Term)) → length (flat_map (constraint_rows q w) ks) ≡ AllNumbers ks
constraint_numbers q w [] = refl
constraint_numbers q w (k ∷ ks) =
    let here = one_number q w k in
    let rest = constraint_numbers q w ks in
    let split = length-append (constraint_rows q w k) (flat_map (constraint_rows q w) ks) in
    let a = params_length ShClass k ks in
    let b = params_length ShEquals k ks in
    let c = params_length ShDisjoint k ks in
    let d = params_length ShLessThan k ks in
    let e = params_length ShLessThanOrEquals k ks in
    let f = closed_next k ks in
    omega (arith, here, rest, split, a, b, c, d, e, f)

-- what stands in ascending values stands there once
none_count : (t : Term) (vs : List Term) → (Contains vs t → ⊥) → count t vs ≡ 0
none_count t [] none = refl
none_count t (v ∷ vs) none = elim (same_term v t) as (λ (b : Bool). same_term v t ≡ b → one b + count t vs ≡ 0) [
  | true ↦ λ e. absurd (none (has_equal v vs t (same_equal v t e)))
  | false ↦ λ e. let h = none_count t vs (λ c. none (has_tail v vs t c)) in omega (arith, h)
] refl

apart : (v t : Term) (vs : List Term) → AllAbove term_cmp v vs → v ≡ t → Contains vs t → ⊥
apart v t vs a e c =
    let k : term_cmp v t ≡ Less = below term_cmp v vs t a c in
    let m : term_cmp v v ≡ Less = subst (λ (x : Term). term_cmp v x ≡ Less) (sym e) k in
    let n = tied_itself term_total v in
    cc (m, n)

pub count_if : (t : Term) (vs : List Term) → IsAscending term_cmp vs → CountsIf (Contains vs t) 1 (count t vs)
count_if t [] a = inr (λ c. let l = c.1 in omega arith, refl)
count_if t (v ∷ vs) a = elim (same_term v t) as (λ (b : Bool). same_term v t ≡ b → CountsIf (Contains (v ∷ vs) t) 1 (one b + count t vs)) [
  | true ↦ λ e. let same = same_equal v t e in inl (has_equal v vs t same, let none = none_count t vs (apart v t vs a.0 same) in omega (arith, none))
  | false ↦ λ e. elim (count_if t vs a.1) [
    | inl h ↦ inl (has_tail v vs t h.0, let k = h.1 in omega (arith, k))
    | inr h ↦ inr (λ c. elim (has_cases v vs t c) [ inl f ↦ (let k = equal_same v t f in cc) | inr d ↦ h.0 d ], let k = h.1 in omega (arith, k))
  ]
] refl

pub counts_as : (P Q : Type 0) (n k : ℕ) → P ↔ Q → CountsIf P n k → CountsIf Q n k
counts_as P Q n k e h = elim h [ inl i ↦ inl (e.0 i.0, i.1) | inr i ↦ inr (λ q. i.0 (e.1 q), i.1) ]

-- the looks of the path
module _ (s : List Triple) (n : Term) where
  no_values : ((v : Term) → HasProperty s n ShPath v → ⊥) → values_of s n (property_iri ShPath) ≡ []
  no_values none = let l = values_law s n (property_iri ShPath) in
      same_lists term_cmp term_total (values_of s n (property_iri ShPath)) [] l.ascending tt (λ v. (λ c. absurd (none v ((l.members v).0 c)), λ c. let k = c.1 in absurd (omega arith)))

  one_path : (v : Term) → HasProperty s n ShPath v → ((x y : Term) → HasProperty s n ShPath x → HasProperty s n ShPath y → x ≡ y) → values_of s n (property_iri ShPath) ≡ v ∷ []
  one_path v h same = let l = values_law s n (property_iri ShPath) in
      same_lists term_cmp term_total (values_of s n (property_iri ShPath)) (v ∷ []) l.ascending (tt, tt) (λ x. (
        λ c. has_equal v [] x (same v x h ((l.members x).0 c)),
        λ c. elim (has_cases v [] x c) [ inl e ↦ (l.members x).1 (subst (λ (y : Term). HasProperty s n ShPath y) e h) | inr d ↦ (let k = d.1 in absurd (omega arith)) ],
      ))

  pub path_looks : (o : Option Path) (q : List Path) → ((x y : Term) → HasProperty s n ShPath x → HasProperty s n ShPath y → x ≡ y)
      → (o ≡ None → (v : Term) → HasProperty s n ShPath v → ⊥) → ((p : Path) → o ≡ Some p → (v : Term) × HasProperty s n ShPath v × PathOf s v p)
      → SumBy (HasPathLooks s) (values_of s n (property_iri ShPath)) (length (optional_rows o q))
  path_looks None q same none some = subst (λ (vs : List Term). SumBy (HasPathLooks s) vs 0) (sym (no_values (none refl))) refl
  path_looks (Some p) q same none some =
      let h = some p refl in
      let number : length (path_rows false p q) ≡ looks_of p = path_count p false q in
      subst (λ (vs : List Term). SumBy (HasPathLooks s) vs (length (path_rows false p q))) (sym (one_path h.0 h.1 same))
      (looks_of p, 0, inl (p, h.2, refl), refl, omega (arith, number))
