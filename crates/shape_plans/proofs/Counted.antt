-- No more shapes ascend by their nodes than there are terms.
use Rattle.std.proofs.Common.{◌≡◌, ◌∙◌, ℕ, ◌<◌, ◌≤◌, true, false, List, [], ◌∷◌, length, map, sym, ap, subst, arith, inl, inr}
use Rattle.std.specs.Prelude.{eqb}
use Rattle.std.specs.List.{All, AllByRecursion, IsDistinct, list_any}
use Rattle.std.specs.declared.cmp.Ordering.TheVariants.{Equal, Less}
use Rattle.std.proofs.lemmas.Bool.{eqb-true}
use Rattle.std.proofs.lemmas.Bool.Decides.{eqb_tells}
use Rattle.std.proofs.lemmas.Cmp.{tied_itself}
use Rattle.std.proofs.lemmas.List.{length-map}
use Rattle.std.proofs.lemmas.List.Elements.{All-contains}
use Rattle.std.proofs.lemmas.Map.Keys.{IsDistinct-cons, IsDistinct-from_apart}
use Rattle.std.proofs.lemmas.Map.Steps.{length-le_from_distinct_below}
use Rattle.collections.specs.Ordered.{AllAbove, IsAscending}
use Rattle.rdf_model.specs.declared.term.Term.{Term}
use Rattle.rdf_model.specs.Numbers.{term_at}
use Rattle.rdf_model.specs.Orders.{term_total}
use Rattle.rdf_model.specs.Terms.{term_cmp}
use Rattle.shape_ast.specs.declared.shape.Shape.{Shape}
use Rattle.shape_ast.specs.Readings.{AreBound, HoldsOfShape, ReadShape, named_shapes, read_shape, read_shapes}
use Rattle.shape_ast.specs.Standing.{shape_cmp}
use Rattle.read_plans.proofs.Lists.{any_from, mapped_from}

abbrev node_of : Shape ℕ → ℕ
node_of s = s.node

module _ (terms : List Term) where
  differ : (s t : Shape ℕ) → shape_cmp (read_shape (term_at terms) s) (read_shape (term_at terms) t) ≡ Less → eqb s.node t.node ≡ false
  differ s t less = elim (eqb_tells s.node t.node) [
    | inl h ↦
        let tied : term_cmp (term_at terms s.node) (term_at terms s.node) ≡ Equal = tied_itself term_total (term_at terms s.node) in
        let same : term_cmp (term_at terms s.node) (term_at terms t.node) ≡ Equal = subst (λ (n : ℕ). term_cmp (term_at terms s.node) (term_at terms n) ≡ Equal) h.1 tied in
        absurd (cc (less, same))
    | inr h ↦ h.0
  ]

  above : (s : Shape ℕ) (ss : List (Shape ℕ)) → AllAbove shape_cmp (read_shape (term_at terms) s) (map (read_shape (term_at terms)) ss) → AllByRecursion (λ y. eqb s.node y ≡ false) (map node_of ss)
  above s [] a = tt
  above s (t ∷ ts) a = (differ s t a.0, above s ts a.1)

  distinct : (ss : List (Shape ℕ)) → IsAscending shape_cmp (map (read_shape (term_at terms)) ss) → IsDistinct eqb (map node_of ss)
  distinct [] a = IsDistinct-from_apart eqb [] (λ i j d less within. absurd (omega (arith, within)))
  distinct (s ∷ ss) a = IsDistinct-cons eqb s.node (map node_of ss) (above s ss a.0) (distinct ss a.1)

  pub no_more_shapes : (shapes : List (Shape Term)) (bound : List (Shape ℕ)) → AreBound terms bound → named_shapes terms bound ≡ read_shapes shapes → IsAscending shape_cmp (read_shapes shapes) → length shapes ≤ length terms
  no_more_shapes shapes bound b same a =
      let up : IsAscending shape_cmp (named_shapes terms bound) = subst (λ (cs : List ReadShape). IsAscending shape_cmp cs) (sym same) a in
      let few : length (map node_of bound) ≤ length terms = length-le_from_distinct_below (map node_of bound) (length terms) (distinct bound up) (λ q h.
      let k = any_from (eqb q) (map node_of bound) h in
      let s = mapped_from node_of bound k.0 k.1 in
      let holds = All-contains (HoldsOfShape (λ n. n < length terms) (length bound)) bound s.0 b s.1 in
      subst (λ (n : ℕ). n < length terms) (s.2 ∙ sym (eqb-true q k.0 k.2)) holds.node) in
      let m : length (map node_of bound) ≡ length bound = length-map bound node_of in
      let n : length (named_shapes terms bound) ≡ length bound = length-map bound (read_shape (term_at terms)) in
      let o : length (read_shapes shapes) ≡ length shapes = length-map shapes (read_shape (λ t. t)) in
      let e : length (named_shapes terms bound) ≡ length (read_shapes shapes) = ap (λ (cs : List ReadShape). length cs) same in
      omega (arith, few, m, n, o, e)
