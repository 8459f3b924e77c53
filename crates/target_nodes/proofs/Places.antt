-- The targets of the shape at a place, for each shapes graph that the shapes stand for.
use Rattle.std.proofs.Common.{◌≡◌, ◌<◌, ℕ, zero, suc, Bool, IsTrue, List, [], ◌∷◌, length, get_or, sym, ap, arith, subst}
use Rattle.std.specs.Prelude.{◌↔◌, Some, slice_get}
use Rattle.std.specs.List.{All, Contains}
use Rattle.std.specs.Ordering.{nat_cmp}
use Rattle.std.proofs.lemmas.List.{get_or_default}
use Rattle.collections.proofs.Members.{has_equal, has_tail}
use Rattle.rdf_model.specs.declared.term.Term.{Term}
use Rattle.rdf_model.specs.declared.triple.Triple.{Triple}
use Rattle.rdf_model.specs.declared.ids.Ids.{Ids}
use Rattle.rdf_model.specs.declared.look.Look.{Look}
use Rattle.rdf_model.specs.Numbers.{graph_of, term_at}
use Rattle.shape_model.specs.NodeLooks.{IsLook}
use Rattle.shape_model.specs.Readings.{reading}
use Rattle.shape_model.specs.ShapeLooks.{TargetLook}
use Rattle.shape_model.specs.Targets.{Target, TargetOf}
use Rattle.shape_ast.specs.declared.shape.Shape.{Shape}
use Rattle.shape_ast.specs.Readings.{ReadShape, named_shapes, read_shape}
use Rattle.shape_ast.specs.Standing.{SameShape, StandFor, shape_reading}
use Rattle.path_eval.proofs.Footprints.{looks_same}
use Rattle.path_eval.proofs.Growing.{listing_same}
use Rattle.target_nodes.specs.Declarations.{declared_reading}
use Rattle.target_nodes.specs.ShapeTargets.{AddsTargetLooks, AreTargets, AtShape, IsTargetAnswer}
use Rattle.target_nodes.specs.TargetNumbers.{AddsDeclaredLooks, AreDeclaredTargets, IsDeclaredAnswer}
use Rattle.target_nodes.proofs.Agreeing.{DeclareSame, declares, look_same, same_back, same_then, target_same}

some_same : {X : Type 0} → (x y : X) → Some x ≡ Some y → x ≡ y
some_same x y e = cc

-- a shape is read at its place
read_there : (terms : List Term) (shapes : List (Shape ℕ)) (k : ℕ) (d : Shape ℕ) (c : ReadShape) → k < length shapes → slice_get (named_shapes terms shapes) k ≡ Some c
    → (read_shape (term_at terms) (get_or shapes k d) ≡ c) × Contains (named_shapes terms shapes) c
read_there terms [] k d c lt e = absurd (omega (arith, lt))
read_there terms (y ∷ ys) zero d c lt e =
    let h = some_same (read_shape (term_at terms) y) c e in
    (h, has_equal (read_shape (term_at terms) y) (named_shapes terms ys) c h)
read_there terms (y ∷ ys) (suc k) d c lt e =
    let h = read_there terms ys k d c (omega (arith, lt)) e in
    (h.0, has_tail (read_shape (term_at terms) y) (named_shapes terms ys) c h.1)

module _ (terms : List Term) (ids : List Ids) (shapes : List (Shape ℕ)) (k : ℕ) (sh : Shape ℕ) (lt : k < length shapes) (is : sh ≡ get_or shapes k sh) where
  -- its node, and that the shapes graph declares the same targets of it
  agreed : (s : List Triple) (c : ReadShape) → StandFor (named_shapes terms shapes) s → slice_get (named_shapes terms shapes) k ≡ Some c
      → (term_at terms sh.node ≡ c.node) × DeclareSame (reading s c.node) (declared_reading terms sh.targets)
  agreed s c stand at =
      let named = named_shapes terms shapes in
      let there = read_there terms shapes k sh c lt at in
      let read : read_shape (term_at terms) sh ≡ c = subst (λ (x : Shape ℕ). read_shape (term_at terms) x ≡ c) (sym is) there.0 in
      let same = subst (λ (d : ReadShape). SameShape (reading s c.node) (shape_reading named d)) (sym read) (stand.each c there.1) in (
        ap (λ (d : ReadShape). d.node) read,
        same_then (reading s c.node) (shape_reading named (read_shape (term_at terms) sh)) (declared_reading terms sh.targets) same (declares terms named sh),
      )

  module _ (s : List Triple) (c : ReadShape) (stand : StandFor (named_shapes terms shapes) s) (at : slice_get (named_shapes terms shapes) k ≡ Some c) where
    -- the declarations give the targets of the shape, and no others
    target_is : (f : Term) → TargetOf (graph_of terms ids) (declared_reading terms sh.targets) (term_at terms sh.node) f ↔ Target (graph_of terms ids) s c.node f
    target_is f =
        let a = agreed s c stand at in
        let g = graph_of terms ids in
        let y = reading s c.node in
        let z = declared_reading terms sh.targets in
        subst (λ (t : Term). TargetOf g z t f ↔ Target g s c.node f) (sym a.0) (target_same z y (same_back y z a.1) g c.node f, target_same y z a.1 g c.node f)

    -- and their looks
    look_is : (f : Term) (look : Look Term) → IsLook (graph_of terms ids) (TargetLook (declared_reading terms sh.targets)) f look ↔ IsLook (graph_of terms ids) (TargetLook (reading s c.node)) f look
    look_is f look =
        let a = agreed s c stand at in
        let y = reading s c.node in
        let z = declared_reading terms sh.targets in
        (λ i. (i.0, look_same z y (same_back y z a.1) i.0 i.1, i.2), λ i. (i.0, look_same y z a.1 i.0 i.1, i.2))

  pub lists_targets : (ns : List ℕ) → AreDeclaredTargets terms ids sh.targets sh.node ns → AtShape terms shapes k (λ s own. AreTargets terms ids s own ns)
  lists_targets ns are s c stand at =
      let g = graph_of terms ids in
      record {
        listed = listing_same nat_cmp (λ n. (n < length terms) × TargetOf g (declared_reading terms sh.targets) (term_at terms sh.node) (term_at terms n)) (λ n. (n < length terms) × Target g s c.node (term_at terms n))
            (λ n. let e = target_is s c stand at (term_at terms n) in (λ h. (h.0, e.0 h.1), λ h. (h.0, e.1 h.1))) ns are.listed;
        every = λ f t. are.every f ((target_is s c stand at f).1 t);
      }

  pub is_answer : (node : ℕ) (answer : Bool) → (node < length terms → IsDeclaredAnswer terms ids sh.targets sh.node node answer) → AtShape terms shapes k (λ s own. IsTargetAnswer terms ids s own node answer)
  is_answer node answer told s c stand at within =
      let e = target_is s c stand at (term_at terms node) in
      let a = told within in
      (λ t. e.0 (a.0 t), λ t. a.1 (e.1 t))

  pub adds_looks : (node : ℕ) (old new : List (Look ℕ)) → (node < length terms → AddsDeclaredLooks terms ids sh.targets node old new) → AtShape terms shapes k (λ s own. AddsTargetLooks terms ids s own node old new)
  adds_looks node old new added s c stand at within =
      let g = graph_of terms ids in
      let f = term_at terms node in
      looks_same terms (IsLook g (TargetLook (declared_reading terms sh.targets)) f) (IsLook g (TargetLook (reading s c.node)) f) (look_is s c stand at f) old new (added within)

-- each target has a term
pub all_below : (terms : List Term) (ids : List Ids) (sh : Shape ℕ) (ns : List ℕ) → AreDeclaredTargets terms ids sh.targets sh.node ns → All (λ n. n < length terms) ns
all_below terms ids sh ns are k d lt = ((are.listed.members (get_or ns k d)).0 (k, lt, get_or_default ns k (get_or ns k d) d lt)).0
