-- The targets of the shapes are counted shape by shape, each once.
use Rattle.std.proofs.Common.{◌≡◌, ◌∙◌, ℕ, zero, suc, ◌+◌, ◌<◌, ◌≤◌, List, [], ◌∷◌, ◌++◌, length, map, take, get_or, refl, sym, ap, arith, subst, inl, inr}
use Rattle.std.specs.List.{Contains}
use Rattle.std.specs.Ordering.{nat_cmp}
use Rattle.std.specs.declared.cmp.Ordering.{Ordering}
use Rattle.std.specs.declared.cmp.Ordering.TheVariants.{Less, Equal}
use Rattle.std.proofs.lemmas.Cmp.{tied_itself}
use Rattle.std.proofs.lemmas.List.{length-append, length-map, take_all}
use Rattle.std.proofs.lemmas.List.Elements.{Contains-append_cases, Contains-append_left, Contains-append_right, Contains-get_or}
use Rattle.collections.specs.Ordered.{IsAscending}
use Rattle.collections.proofs.Members.{below, has_cases, has_equal, has_tail}
use Rattle.rdf_model.specs.declared.term.Term.{Term}
use Rattle.rdf_model.specs.declared.ids.Ids.{Ids}
use Rattle.rdf_model.specs.Numbers.{IsNumbering, graph_of, term_at}
use Rattle.rdf_model.specs.Orders.{term_total}
use Rattle.rdf_model.specs.Terms.{term_cmp}
use Rattle.shape_model.specs.Targets.{Target}
use Rattle.shape_model.proofs.Bridges.{makes_shape}
use Rattle.shape_model.proofs.Covers.{has_target}
use Rattle.component_rows.proofs.Collecting.{mapped_from, mapped_to}
use Rattle.shape_ast.specs.declared.shape.Shape.{Shape}
use Rattle.shape_ast.specs.Readings.{ReadShape, named_shapes, read_shape}
use Rattle.shape_ast.specs.Standing.{shape_cmp}
use Rattle.target_nodes.specs.ShapeTargets.{AreTargets, AtShape}
use Rattle.shape_eval.proofs.Growing.{joined}
use Rattle.shape_eval.proofs.Lookups.{at_place, got_at}
use Rattle.parallel_validate.specs.Counting.{IsApart, IsCount, IsNodeOf, IsTargetPair, StepsOfFirst, StepsOfGraph, StepsOfShape}

-- what is Less is not Equal
not_tied : (o : Ordering) → o ≡ Less → o ≡ Equal → ⊥
not_tied o e f = cc

-- items that were made of others stand apart where those do
apart_mapped : {X Y : Type 0} → (h : X → Y) (xs : List X) → IsApart xs → ((x y : X) → Contains xs x → Contains xs y → h x ≡ h y → x ≡ y) → IsApart (map h xs)
apart_mapped h [] a one = tt
apart_mapped {X} h (x ∷ xs) a one = (
  λ c. let k = mapped_from h xs (h x) c in a.0 (subst (λ (y : X). Contains xs y) (one k.0 x (has_tail x xs k.0 k.1) (has_equal x xs x refl) k.2) k.1),
  apart_mapped h xs a.1 (λ y z c d e. one y z (has_tail x xs y c) (has_tail x xs z d) e),
)

-- so do the items of two lists without a common one
apart_joined : {X : Type 0} → (xs ys : List X) → IsApart xs → IsApart ys → ((x : X) → Contains xs x → Contains ys x → ⊥) → IsApart (xs ++ ys)
apart_joined [] ys a b none = b
apart_joined (x ∷ xs) ys a b none = (
  λ c. elim (Contains-append_cases xs ys x c) [ inl d ↦ a.0 d | inr d ↦ none x (has_equal x xs x refl) d ],
  apart_joined xs ys a.1 b (λ y c d. none y (has_tail x xs y c) d),
)

-- and those of an ascending list
apart_ascending : (ns : List ℕ) → IsAscending nat_cmp ns → IsApart ns
apart_ascending [] a = tt
apart_ascending (n ∷ ns) a = (λ c. let less = below nat_cmp n ns n a.0 c in absurd (grind (arith, less)), apart_ascending ns a.1)

-- an item before a place is below the item at it
before_place : {X : Type 0} → (R : X → X → Ordering) (xs : List X) → IsAscending R xs → (k : ℕ) (d : X) → k < length xs → (x : X) → Contains (take k xs) x → R x (get_or xs k d) ≡ Less
before_place R [] a k d lt x c = absurd (omega (arith, lt))
before_place R (y ∷ ys) a zero d lt x c = absurd (omega arith)
before_place {X} R (y ∷ ys) a (suc k) d lt x c = let within : k < length ys = omega (arith, lt) in elim (has_cases y (take k ys) x c) [
  | inl e ↦ subst (λ (z : X). R z (get_or ys k d) ≡ Less) e (below R y ys (get_or ys k d) a.0 (Contains-get_or ys k d within))
  | inr i ↦ before_place R ys a.1 k d within x i
]

module _ (terms : List Term) (ids : List Ids) (shapes : List (Shape ℕ)) where
  -- one step for each target of a shape
  pub shape_steps : (k : ℕ) (nodes : List ℕ) (old new : ℕ) → IsNumbering terms → AtShape terms shapes k (λ s own. AreTargets terms ids s own nodes) → new ≡ old + length nodes → StepsOfShape terms ids shapes k old new
  shape_steps k nodes old new numbering targets steps s c stand at =
      let g = graph_of terms ids in
      let t = targets s c stand at in
      let counted : IsCount (Target g s c.node) (length nodes) = record {
        items = map (term_at terms) nodes;
        apart = apart_mapped (term_at terms) nodes (apart_ascending nodes t.listed.ascending) (λ m n i j e. numbering m n ((t.listed.members m).0 i).0 ((t.listed.members n).0 j).0 e);
        members = λ f. (
          λ i. let m = mapped_from (term_at terms) nodes f i in subst (λ (v : Term). Target g s c.node v) m.2 ((t.listed.members m.0).0 m.1).1,
          λ h. t.every f h,
        );
        count = length-map nodes (term_at terms);
      } in
      (length nodes, counted, steps)

  pub no_steps : (old : ℕ) → StepsOfFirst terms ids shapes 0 old old
  no_steps old s stand = (0, record { items = []; apart = tt; members = λ e. ((λ c. absurd (omega arith)), λ h. (let c = h.0.1 in absurd (omega arith))); count = refl }, omega arith)

  -- one shape more
  pub more_steps : (k old mid new : ℕ) → k < length shapes → StepsOfFirst terms ids shapes k old mid → StepsOfShape terms ids shapes k mid new → StepsOfFirst terms ids shapes (k + 1) old new
  more_steps k old mid new lt before own s stand =
      let g = graph_of terms ids in
      let named = named_shapes terms shapes in
      let inside : k < length named = omega (arith, lt, length-map shapes (read_shape (term_at terms))) in
      let h = at_place named k inside in
      let c = get_or named k h.0 in
      let first = before s stand in
      let next = own s c stand (got_at named k h.0 inside) in
      let pair : Term → Term × Term = λ f. (c.node, f) in
      let more = map pair next.1.items in
      let sum : mid ≡ old + first.0 = first.2 in
      let sum_then : new ≡ mid + next.0 = next.2 in
      let many = first.1.count in
      let many_then = next.1.count in (
        first.0 + next.0,
        record {
          items = first.1.items ++ more;
          apart = apart_joined first.1.items more first.1.apart (apart_mapped pair next.1.items next.1.apart (λ x y i j e. ap (λ (p : Term × Term). p.1) e)) (λ e i j.
              let m = ((first.1.members e).0 i).0 in
              let f = mapped_from pair next.1.items e j in
              let same : m.0.node ≡ c.node = m.2 ∙ sym (ap (λ (p : Term × Term). p.0) f.2) in
              let less = before_place shape_cmp named stand.ascending k h.0 inside m.0 m.1 in
              not_tied (term_cmp m.0.node c.node) less (subst (λ (t : Term). term_cmp m.0.node t ≡ Equal) same (tied_itself term_total m.0.node)));
          members = λ e. (
            λ i. elim (Contains-append_cases first.1.items more e i) [
              | inl j ↦ (let m = (first.1.members e).0 j in ((m.0.0, (joined named k h.0 inside m.0.0).1 (inl m.0.1), m.0.2), m.1))
              | inr j ↦ (let f = mapped_from pair next.1.items e j in
                  subst (λ (p : Term × Term). IsNodeOf (take (k + 1) named) p.0 × IsTargetPair g s p) f.2 ((c, (joined named k h.0 inside c).1 (inr refl), refl), (next.1.members f.0).0 f.1))
            ],
            λ m. elim ((joined named k h.0 inside m.0.0).0 m.0.1) [
              | inl i ↦ Contains-append_left first.1.items more e ((first.1.members e).1 ((m.0.0, i, m.0.2), m.1))
              | inr i ↦ (let same : c.node ≡ e.0 = ap (λ (d : ReadShape). d.node) i ∙ m.0.2 in
                  Contains-append_right first.1.items more e (subst (λ (t : Term). Contains more (t, e.1)) same (mapped_to pair next.1.items e.1 ((next.1.members e.1).1 (subst (λ (t : Term). Target g s t e.1) (sym same) m.1)))))
            ],
          );
          count = let joint = length-append first.1.items more in let mapped = length-map next.1.items pair in omega (arith, joint, mapped, many, many_then);
        },
        omega (arith, sum, sum_then),
      )

  -- all shapes
  pub all_steps : (k old new : ℕ) → length shapes ≤ k → StepsOfFirst terms ids shapes k old new → StepsOfGraph terms ids shapes old new
  all_steps k old new le before s stand =
      let g = graph_of terms ids in
      let named = named_shapes terms shapes in
      let inside : length named ≤ k = omega (arith, le, length-map shapes (read_shape (term_at terms))) in
      let first = before s stand in
      let all : take k named ≡ named = take_all k named inside in (
        first.0,
        record {
          items = first.1.items;
          apart = first.1.apart;
          members = λ e. (
            λ i. ((first.1.members e).0 i).1,
            λ t.
                let c = stand.all e.0 (makes_shape s e.0 (has_target g s e.0 e.1 t)) in
                (first.1.members e).1 ((c.0, subst (λ (cs : List ReadShape). Contains cs c.0) (sym all) c.1, c.2), t),
          );
          count = first.1.count;
        },
        first.2,
      )
