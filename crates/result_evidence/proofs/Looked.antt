-- The looks of a shape and those of its targets, by numbers and in order by their terms.
use Rattle.std.proofs.Common.{◌≡◌, ◌<◌, ℕ, List, [], length, map, get_or, sym, subst, arith, inl, inr}
use Rattle.std.specs.Prelude.{◌⊎◌}
use Rattle.std.specs.List.{All, Contains}
use Rattle.std.proofs.lemmas.List.Elements.{Contains-get_or}
use Rattle.collections.specs.Listings.{IsListing}
use Rattle.rdf_model.specs.declared.term.Term.{Term}
use Rattle.rdf_model.specs.declared.ids.Ids.{Ids}
use Rattle.rdf_model.specs.declared.look.Look.{Look}
use Rattle.rdf_model.specs.Numbers.{graph_of, term_at}
use Rattle.shape_model.specs.NodeLooks.{IsLook}
use Rattle.shape_model.specs.Readings.{reading}
use Rattle.shape_model.specs.ShapeLooks.{Looks, ResultLook, TargetLook}
use Rattle.shape_ast.specs.declared.shape.Shape.{Shape}
use Rattle.shape_ast.specs.Readings.{read_shape}
use Rattle.path_eval.specs.Naming.{AddsLooks, IsBoundLook, look_of}
use Rattle.path_eval.proofs.Footprints.{looks_more, looks_same}
use Rattle.path_eval.proofs.Mirrors.{mapped_from}
use Rattle.shape_eval.specs.Looks.{AddsShapeLooks}
use Rattle.shape_eval.proofs.Lookups.{at_place, named_place}
use Rattle.target_nodes.specs.ShapeTargets.{AtShape}
use Rattle.evidence_blocks.specs.LookOrder.{look_cmp}
use Rattle.result_evidence.specs.Standing.{ForShape, HasNumbers, HaveGraph}

module _ (terms : List Term) (ids : List Ids) (shapes : List (Shape ℕ)) (n f : ℕ) where
  -- those of the shape come to those of its targets
  pub all_looks : (old mid new : List (Look ℕ)) → AtShape terms shapes n (λ s own. AddsLooks terms (IsLook (graph_of terms ids) (TargetLook (reading s own)) (term_at terms f)) old mid)
      → AddsShapeLooks terms ids shapes n f mid new → ForShape terms shapes n (λ s shape. AddsLooks terms (IsLook (graph_of terms ids) (Looks s shape) (term_at terms f)) old new)
  all_looks old mid new target own s c of at =
      let g = graph_of terms ids in
      let v = term_at terms f in
      looks_same terms (λ l. IsLook g (TargetLook (reading s c.node)) v l ⊎ IsLook g (ResultLook s c.node) v l) (IsLook g (Looks s c.node) v)
      (λ l. (
        elim [ inl i ↦ (i.0, inr i.1, i.2) | inr i ↦ (i.0, inl i.1, i.2) ],
        λ i. elim i.1 [ inl r ↦ inr (i.0, r, i.2) | inr t ↦ inl (i.0, t, i.2) ],
      )) old new
      (looks_more terms (IsLook g (TargetLook (reading s c.node)) v) (IsLook g (ResultLook s c.node) v) old mid new (target s c of.stand at) (own s c of.stand at of.acyclic of.shallow))

  module _ (looks : List (Look ℕ)) (adds : ForShape terms shapes n (λ s shape. AddsLooks terms (IsLook (graph_of terms ids) (Looks s shape) (term_at terms f)) [] looks)) where
    -- each of them has terms
    pub bound_looks : HaveGraph terms shapes → n < length shapes → All (IsBoundLook (length terms)) looks
    bound_looks has lt k d within =
        let h = at_place shapes n lt in
        let a = adds has.0 (read_shape (term_at terms) h.0) has.1 (named_place terms shapes n h.0 h.1) in
        elim ((a.added (get_or looks k d)).0 (Contains-get_or looks k d within)) [
          | inl c ↦ absurd (omega (arith, c.1))
          | inr i ↦ i.0
        ]

    -- in order
    pub in_order : (listed sorted : List (Look Term)) → listed ≡ map (look_of terms) looks → IsListing look_cmp (Contains listed) sorted
        → ForShape terms shapes n (λ s shape. IsListing look_cmp (IsLook (graph_of terms ids) (Looks s shape) (term_at terms f)) sorted)
    in_order listed sorted is l s c of at =
        let a = adds s c of at in
        let P = IsLook (graph_of terms ids) (Looks s c.node) (term_at terms f) in
        record {
          ascending = l.ascending;
          members = λ x. (
            λ i. (let k = mapped_from (look_of terms) looks x (subst (λ (ls : List (Look Term)). Contains ls x) is ((l.members x).0 i)) in
                elim ((a.added k.0).0 k.1) [
                  | inl e ↦ absurd (omega (arith, e.1))
                  | inr h ↦ subst (λ (y : Look Term). P y) k.2 h.1
                ]),
            λ i. (l.members x).1 (subst (λ (ls : List (Look Term)). Contains ls x) (sym is) (a.every x i)),
          );
        }

-- each look that was listed has numbers
pub numbers_listed : (terms : List Term) (looks : List (Look ℕ)) (listed sorted : List (Look Term)) → All (IsBoundLook (length terms)) looks → listed ≡ map (look_of terms) looks → IsListing look_cmp (Contains listed) sorted
    → All (HasNumbers terms) sorted
numbers_listed terms looks listed sorted bound is l k d within =
    let x = get_or sorted k d in
    let m = mapped_from (look_of terms) looks x (subst (λ (ls : List (Look Term)). Contains ls x) is ((l.members x).0 (Contains-get_or sorted k d within))) in
    let e = m.1 in
    (m.0, subst (λ (y : Look ℕ). IsBoundLook (length terms) y) e.2 (bound e.0 m.0 e.1), m.2)
