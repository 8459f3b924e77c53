-- Targets have as many rows as looks are counted of them.
use Rattle.std.proofs.Common.{◌≡◌, ◌∙◌, ℕ, suc, ◌+◌, ◌*◌, ◌≤◌, false, List, [], ◌∷◌, ◌++◌, length, map, refl, sym, ap, subst, arith, inl, inr}
use Rattle.std.specs.Prelude.{◌↔◌, Option, Some, None}
use Rattle.std.specs.List.{Contains, flat_map}
use Rattle.std.proofs.lemmas.List.{length-append}
use Rattle.collections.specs.Listings.{IsListing}
use Rattle.collections.specs.Ordered.{IsAscending}
use Rattle.collections.proofs.Members.{has_cases, has_equal, has_head, has_tail}
use Rattle.rdf_model.specs.declared.term.Term.{Term}
use Rattle.rdf_model.specs.Orders.{term_total}
use Rattle.rdf_model.specs.Terms.{term_cmp}
use Rattle.shape_model.specs.Instances.{class_path}
use Rattle.shape_sizes.specs.Sizes.{CountsIf}
use Rattle.shape_ast.specs.declared.target.Target.{Target}
use Rattle.shape_ast.specs.declared.target.Target.TheVariants.{Node, Class, ImplicitClass, SubjectsOf, ObjectsOf}
use Rattle.read_plans.specs.ShapeRows.{target_rows}
use Rattle.shape_ast.specs.Once.{AreDistinct}
use Rattle.shape_ast.proofs.Distinct.{distinct_mapped}
use Rattle.plan_laws.proofs.PathNumbers.{path_count}

-- a list without one of its items
taken_out : {X : Type 0} (ys : List X) (x : X) → Contains ys x → (zs : List X) × (length ys ≡ suc (length zs)) × ((w : X) → (w ≡ x → ⊥) → Contains ys w → Contains zs w)
taken_out [] x c = absurd (let l = c.1 in omega arith)
taken_out (y ∷ ys) x c = elim (has_cases y ys x c) [
  | inl e ↦ (ys, refl, λ w apart d. elim (has_cases y ys w d) [ inl k ↦ absurd (apart (sym k ∙ e)) | inr k ↦ k ])
  | inr d ↦ let t = taken_out ys x d in (y ∷ t.0, ap suc t.1, λ w apart k. elim (has_cases y ys w k) [ inl e ↦ has_equal y t.0 w e | inr l ↦ has_tail y t.0 w (t.2 w apart l) ])
]

map_id : {X : Type 0} (xs : List X) → map (λ (x : X). x) xs ≡ xs
map_id [] = refl
map_id (x ∷ xs) = ap (λ ys. x ∷ ys) (map_id xs)

-- distinct items of another list are no more
no_more : {X : Type 0} (xs ys : List X) → AreDistinct xs → ((x : X) → Contains xs x → Contains ys x) → length xs ≤ length ys
no_more [] ys d all = omega arith
no_more (x ∷ xs) ys d all =
    let t = taken_out ys x (all x (has_head x xs)) in
    let less : length xs ≤ length t.0 = no_more xs t.0 d.1 (λ w c. t.2 w (λ e. d.0 (subst (λ (v : _). Contains xs v) e c)) (all w (has_tail x xs w c))) in
    let e : length ys ≡ suc (length t.0) = t.1 in omega (arith, less, e)

as_many : {X : Type 0} (xs ys : List X) → AreDistinct xs → AreDistinct ys → ((x : X) → Contains xs x ↔ Contains ys x) → length xs ≡ length ys
as_many xs ys d e same =
    let a = no_more xs ys d (λ x c. (same x).0 c) in
    let b = no_more ys xs e (λ x c. (same x).1 c) in
    omega (arith, a, b)

-- the terms of the targets of one sort
abbrev Picks : Type 0
Picks = Target Term → Option Term

abbrev as_list : Option Term → List Term
as_list None = []
as_list (Some v) = v ∷ []

abbrev pub picked : Picks → List (Target Term) → List Term
picked pick [] = []
picked pick (t ∷ ts) = as_list (pick t) ++ picked pick ts

module _ (pick : Picks) (make : Term → Target Term) (back : (t : Target Term) (v : Term) → pick t ≡ Some v → t ≡ make v) (there : (v : Term) → pick (make v) ≡ Some v) where
  picked_from : (ts : List (Target Term)) (v : Term) → Contains (picked pick ts) v → Contains ts (make v)
  picked_from [] v c = absurd (let l = c.1 in omega arith)
  picked_from (t ∷ ts) v c = elim (pick t) as (λ (o : Option Term). pick t ≡ o → Contains (as_list o ++ picked pick ts) v → Contains (t ∷ ts) (make v)) [
    | None ↦ λ e d. has_tail t ts (make v) (picked_from ts v d)
    | Some w ↦ λ e d. elim (has_cases w (picked pick ts) v d) [
      | inl f ↦ has_equal t ts (make v) (back t v (e ∙ ap Some f))
      | inr k ↦ has_tail t ts (make v) (picked_from ts v k)
    ]
  ] refl c

  picked_to : (ts : List (Target Term)) (v : Term) → Contains ts (make v) → Contains (picked pick ts) v
  picked_to [] v c = absurd (let l = c.1 in omega arith)
  picked_to (t ∷ ts) v c = elim (pick t) as (λ (o : Option Term). pick t ≡ o → Contains (as_list o ++ picked pick ts) v) [
    | None ↦ λ e. elim (has_cases t ts (make v) c) [
      | inl f ↦ (let k : pick t ≡ Some v = ap pick f ∙ there v in cc)
      | inr d ↦ picked_to ts v d
    ]
    | Some w ↦ λ e. elim (has_cases t ts (make v) c) [
      | inl f ↦ has_equal w (picked pick ts) v (let k : pick t ≡ Some v = ap pick f ∙ there v in cc)
      | inr d ↦ has_tail w (picked pick ts) v (picked_to ts v d)
    ]
  ] refl

  picked_distinct : (ts : List (Target Term)) → AreDistinct ts → AreDistinct (picked pick ts)
  picked_distinct [] d = tt
  picked_distinct (t ∷ ts) d = elim (pick t) as (λ (o : Option Term). pick t ≡ o → AreDistinct (as_list o ++ picked pick ts)) [
    | None ↦ λ e. picked_distinct ts d.1
    | Some w ↦ λ e. (λ c. d.0 (subst (λ (u : Target Term). Contains ts u) (sym (back t w e)) (picked_from ts w c)), picked_distinct ts d.1)
  ] refl

  -- they are as many as the values that are listed
  pub picked_number : (ts : List (Target Term)) → AreDistinct ts → (P : Term → Type 0) (vs : List Term) → IsListing term_cmp P vs → ((v : Term) → P v ↔ Contains ts (make v)) → length (picked pick ts) ≡ length vs
  picked_number ts d P vs listing same = as_many (picked pick ts) vs (picked_distinct ts d) (distinct_mapped term_cmp term_total (λ (v : Term). v) vs (subst (λ (us : List Term). IsAscending term_cmp us) (sym (map_id vs)) listing.ascending)) (λ v. (
    λ c. (listing.members v).1 ((same v).1 (picked_from ts v c)),
    λ c. picked_to ts v ((same v).0 ((listing.members v).0 c)),
  ))

abbrev pub pick_class : Picks
pick_class (Node v) = None
pick_class (Class v) = Some v
pick_class ImplicitClass = None
pick_class (SubjectsOf v) = None
pick_class (ObjectsOf v) = None

abbrev pub pick_subjects : Picks
pick_subjects (Node v) = None
pick_subjects (Class v) = None
pick_subjects ImplicitClass = None
pick_subjects (SubjectsOf v) = Some v
pick_subjects (ObjectsOf v) = None

abbrev pub pick_objects : Picks
pick_objects (Node v) = None
pick_objects (Class v) = None
pick_objects ImplicitClass = None
pick_objects (SubjectsOf v) = None
pick_objects (ObjectsOf v) = Some v

pub class_back : (t : Target Term) (v : Term) → pick_class t ≡ Some v → t ≡ Class v
class_back (Node w) v e = cc
class_back (Class w) v e = let f : w ≡ v = cc in ap Class f
class_back ImplicitClass v e = cc
class_back (SubjectsOf w) v e = cc
class_back (ObjectsOf w) v e = cc

pub subjects_back : (t : Target Term) (v : Term) → pick_subjects t ≡ Some v → t ≡ SubjectsOf v
subjects_back (Node w) v e = cc
subjects_back (Class w) v e = cc
subjects_back ImplicitClass v e = cc
subjects_back (SubjectsOf w) v e = let f : w ≡ v = cc in ap SubjectsOf f
subjects_back (ObjectsOf w) v e = cc

pub objects_back : (t : Target Term) (v : Term) → pick_objects t ≡ Some v → t ≡ ObjectsOf v
objects_back (Node w) v e = cc
objects_back (Class w) v e = cc
objects_back ImplicitClass v e = cc
objects_back (SubjectsOf w) v e = cc
objects_back (ObjectsOf w) v e = let f : w ≡ v = cc in ap ObjectsOf f

-- an implicit class target counts two
abbrev implicit_one : Target Term → ℕ
implicit_one (Node v) = 0
implicit_one (Class v) = 0
implicit_one ImplicitClass = 2
implicit_one (SubjectsOf v) = 0
implicit_one (ObjectsOf v) = 0

abbrev pub implicit_number : List (Target Term) → ℕ
implicit_number [] = 0
implicit_number (t ∷ ts) = implicit_one t + implicit_number ts

none_implicit : (ts : List (Target Term)) → (Contains ts ImplicitClass → ⊥) → implicit_number ts ≡ 0
none_implicit [] none = refl
none_implicit (Node v ∷ ts) none = let h = none_implicit ts (λ c. none (has_tail (Node v) ts ImplicitClass c)) in omega (arith, h)
none_implicit (Class v ∷ ts) none = let h = none_implicit ts (λ c. none (has_tail (Class v) ts ImplicitClass c)) in omega (arith, h)
none_implicit (ImplicitClass ∷ ts) none = absurd (none (has_head ImplicitClass ts))
none_implicit (SubjectsOf v ∷ ts) none = let h = none_implicit ts (λ c. none (has_tail (SubjectsOf v) ts ImplicitClass c)) in omega (arith, h)
none_implicit (ObjectsOf v ∷ ts) none = let h = none_implicit ts (λ c. none (has_tail (ObjectsOf v) ts ImplicitClass c)) in omega (arith, h)

passed : (t : Target Term) (ts : List (Target Term)) → (t ≡ ImplicitClass → ⊥) → implicit_one t ≡ 0 → CountsIf (Contains ts ImplicitClass) 2 (implicit_number ts) → CountsIf (Contains (t ∷ ts) ImplicitClass) 2 (implicit_one t + implicit_number ts)
passed t ts other zero h = elim h [
  | inl i ↦ inl (has_tail t ts ImplicitClass i.0, let k = i.1 in omega (arith, k, zero))
  | inr i ↦ inr (λ c. elim (has_cases t ts ImplicitClass c) [ inl e ↦ other e | inr d ↦ i.0 d ], let k = i.1 in omega (arith, k, zero))
]

pub implicit_if : (ts : List (Target Term)) → AreDistinct ts → CountsIf (Contains ts ImplicitClass) 2 (implicit_number ts)
implicit_if [] d = inr (λ c. let l = c.1 in omega arith, refl)
implicit_if (ImplicitClass ∷ ts) d = inl (has_head ImplicitClass ts, let none = none_implicit ts d.0 in omega (arith, none))
implicit_if (Node v ∷ ts) d = passed (Node v) ts (λ e. cc) refl (implicit_if ts d.1)
implicit_if (Class v ∷ ts) d = passed (Class v) ts (λ e. cc) refl (implicit_if ts d.1)
implicit_if (SubjectsOf v ∷ ts) d = passed (SubjectsOf v) ts (λ e. cc) refl (implicit_if ts d.1)
implicit_if (ObjectsOf v ∷ ts) d = passed (ObjectsOf v) ts (λ e. cc) refl (implicit_if ts d.1)

-- the rows of targets
abbrev pub AimNumbers : List (Target Term) → ℕ
AimNumbers ts = 2 * length (picked pick_class ts) + implicit_number ts + length (picked pick_subjects ts) + length (picked pick_objects ts)

one_aim : (t : Target Term) → length (target_rows t) ≡ 2 * length (as_list (pick_class t)) + implicit_one t + length (as_list (pick_subjects t)) + length (as_list (pick_objects t))
one_aim (Node v) = refl
one_aim (Class v) = path_count class_path false []
one_aim ImplicitClass = path_count class_path false []
one_aim (SubjectsOf v) = refl
one_aim (ObjectsOf v) = refl

pub aim_numbers : (ts : List (Target Term)) → length (flat_map target_rows ts) ≡ AimNumbers ts
aim_numbers [] = refl
aim_numbers (t ∷ ts) =
    let here = one_aim t in
    let rest = aim_numbers ts in
    let split = length-append (target_rows t) (flat_map target_rows ts) in
    let a = length-append (as_list (pick_class t)) (picked pick_class ts) in
    let b = length-append (as_list (pick_subjects t)) (picked pick_subjects ts) in
    let c = length-append (as_list (pick_objects t)) (picked pick_objects ts) in
    omega (arith, here, rest, split, a, b, c)
