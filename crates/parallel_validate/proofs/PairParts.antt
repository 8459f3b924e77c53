-- The results and looks of a pair by whether its node is a target.
use Rattle.std.proofs.Common.{◌≡◌, ◌+◌, ◌<◌, ℕ, Bool, true, false, List, [], length, refl, sym, subst, arith, inl, inr}
use Rattle.std.specs.Prelude.{◌⊎◌, ◌↔◌, IsTrue, Some, slice_get}
use Rattle.collections.specs.Listings.{IsListing}
use Rattle.shape_model.specs.Targets.{Target}
use Rattle.shape_ast.specs.Readings.{AreBound, ReadShape, named_shapes}
use Rattle.shape_ast.specs.Standing.{StandFor}
use Rattle.std.specs.List.{Contains}
use Rattle.rdf_model.specs.declared.term.Term.{Term}
use Rattle.rdf_model.specs.declared.triple.Triple.{Triple}
use Rattle.rdf_model.specs.declared.ids.Ids.{Ids}
use Rattle.rdf_model.specs.declared.look.Look.{Look}
use Rattle.rdf_model.specs.Numbers.{AreNumbered, IsNumbering, graph_of, term_at}
use Rattle.shape_model.specs.declared.result_row.ResultRow.{ResultRow}
use Rattle.shape_model.specs.NodeLooks.{IsLook}
use Rattle.shape_model.specs.Readings.{reading}
use Rattle.shape_model.specs.Rows.{result_row_cmp}
use Rattle.shape_model.specs.ShapeLooks.{ResultLook, TargetLook}
use Rattle.shape_model.specs.Validation.{At}
use Rattle.shape_model.proofs.Listings.{listing_same}
use Rattle.path_eval.specs.declared.instances.ClassWords.{ClassWords}
use Rattle.path_eval.specs.Instances.{AreClassWords}
use Rattle.path_eval.proofs.Footprints.{looks_more, looks_same}
use Rattle.shape_ast.specs.declared.shape.Shape.{Shape}
use Rattle.target_nodes.specs.ShapeTargets.{AddsTargetLooks, AtShape, IsTargetAnswer, NumberedShapes}
use Rattle.shape_eval.specs.Looks.{AddsShapeLooks}
use Rattle.shape_eval.specs.Results.{ListsResults}
use Rattle.change_laws.specs.Pairs.{PairRow}
use Rattle.parallel_validate.specs.PairResults.{AddsPairLooks, ListsPair, PairLook, StepsOfPair, TellsTarget}

-- what a test of the node says, as it is told of the shape at the place
pub told_of : (terms : List Term) (ids : List Ids) (words : ClassWords) (shapes : List (Shape ℕ)) (n f : ℕ) (answer : Bool) (old new : List (Look ℕ)) → IsNumbering terms → AreNumbered terms ids → AreClassWords terms words → AreBound terms shapes → f < length terms
    → NumberedShapes ids words shapes (λ terms. AtShape terms shapes n (λ s own. IsTargetAnswer terms ids s own f answer))
    → NumberedShapes ids words shapes (λ terms. AtShape terms shapes n (λ s own. AddsTargetLooks terms ids s own f old new)) → TellsTarget terms ids shapes n f answer old new
told_of terms ids words shapes n f answer old new numbering numbered named bound lt tells adds s c stand at = record {
  answered = tells terms numbering numbered named bound s c stand at lt;
  looks = adds terms numbering numbered named bound s c stand at lt;
}

module _ (terms : List Term) (ids : List Ids) (shapes : List (Shape ℕ)) (n f : ℕ) (old mid : List (Look ℕ)) where
  module _ (told : TellsTarget terms ids shapes n f false old mid) where
    never : (s : List Triple) (c : ReadShape) → StandFor (named_shapes terms shapes) s → slice_get (named_shapes terms shapes) n ≡ Some c → Target (graph_of terms ids) s c.node (term_at terms f) → ⊥
    never s c stand at t = let h = (told s c stand at).answered.1 t in cc

    pub no_rows : (rows : List ResultRow) → rows ≡ [] → ListsPair terms ids shapes n f rows
    no_rows rows e s c stand at acyclic shallow = subst (λ (rs : List ResultRow). IsListing result_row_cmp (PairRow (graph_of terms ids) s c.node (term_at terms f)) rs) (sym e) (record {
      ascending = tt;
      members = λ r. (λ k. absurd (omega (arith, k.1)), λ p. absurd (never s c stand at p.0));
    })

    pub target_looks : AddsPairLooks terms ids shapes n f old mid
    target_looks s c stand at acyclic shallow =
        let g = graph_of terms ids in
        looks_same terms (IsLook g (TargetLook (reading s c.node)) (term_at terms f)) (PairLook g s c.node (term_at terms f))
        (λ l. (λ i. inl i, elim [ inl i ↦ i | inr i ↦ absurd (never s c stand at i.0) ])) old mid (told s c stand at).looks

    pub no_step : (steps : ℕ) → StepsOfPair terms ids shapes n f steps steps
    no_step steps s c stand at = inr (never s c stand at, refl)

  module _ (told : TellsTarget terms ids shapes n f true old mid) where
    pub some_rows : (rows : List ResultRow) → ListsResults terms ids shapes n f rows → ListsPair terms ids shapes n f rows
    some_rows rows lists s c stand at acyclic shallow =
        let g = graph_of terms ids in
        let aim = (told s c stand at).answered.0 refl in
        listing_same result_row_cmp (At g s c.node (term_at terms f)) (PairRow g s c.node (term_at terms f)) (λ r. (λ i. (aim, i), λ p. p.1)) rows (lists s c stand at acyclic shallow)

    pub all_looks : (new : List (Look ℕ)) → AddsShapeLooks terms ids shapes n f mid new → AddsPairLooks terms ids shapes n f old new
    all_looks new adds s c stand at acyclic shallow =
        let g = graph_of terms ids in
        let v = term_at terms f in
        let aim = (told s c stand at).answered.0 refl in
        looks_same terms (λ l. IsLook g (TargetLook (reading s c.node)) v l ⊎ IsLook g (ResultLook s c.node) v l) (PairLook g s c.node v)
        (λ l. (elim [ inl i ↦ inl i | inr i ↦ inr (aim, i) ], elim [ inl i ↦ inl i | inr i ↦ inr i.1 ])) old new
        (looks_more terms (IsLook g (TargetLook (reading s c.node)) v) (IsLook g (ResultLook s c.node) v) old mid new (told s c stand at).looks (adds s c stand at acyclic shallow))

    pub one_step : (before after : ℕ) → after ≡ before + 1 → StepsOfPair terms ids shapes n f before after
    one_step before after e s c stand at = inl ((told s c stand at).answered.0 refl, e)
