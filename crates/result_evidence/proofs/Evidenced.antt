-- The parts of a block are evidence of its result.
use Rattle.std.proofs.Common.{◌≡◌, ◌<◌, ℕ, List, length, sym, subst}
use Rattle.std.specs.Prelude.{Some, slice_get}
use Rattle.std.specs.List.{All}
use Rattle.collections.specs.Listings.{IsListing}
use Rattle.rdf_model.specs.declared.term.Term.{Term}
use Rattle.rdf_model.specs.declared.ids.Ids.{Ids}
use Rattle.rdf_model.specs.declared.look.Look.{Look}
use Rattle.rdf_model.specs.Numbers.{graph_of, term_at}
use Rattle.shape_model.specs.declared.result_row.ResultRow.{ResultRow}
use Rattle.shape_model.specs.NodeLooks.{IsLook}
use Rattle.shape_model.specs.ShapeLooks.{Looks}
use Rattle.shape_ast.specs.declared.shape.Shape.{Shape}
use Rattle.shape_ast.specs.Readings.{ReadShape, named_shapes, read_shape}
use Rattle.shape_eval.proofs.Lookups.{at_place, named_place}
use Rattle.evidence_blocks.specs.declared.block.ShownLook.{ShownLook}
use Rattle.evidence_blocks.specs.Blocks.{HasTriples, IsLeastAim, looks_in}
use Rattle.evidence_blocks.specs.LookOrder.{look_cmp}
use Rattle.result_evidence.specs.Standing.{ForShape, IsEvidenceOf}

module _ (terms : List Term) (ids : List Ids) (shapes : List (Shape ℕ)) (place f : ℕ) (within : place < length shapes) where
  pub is_evidence : (row copy : ResultRow) → copy ≡ row → (shape focus : Term) → ((c : ReadShape) → slice_get (named_shapes terms shapes) place ≡ Some c → shape ≡ c.node) → focus ≡ term_at terms f
      → ForShape terms shapes place (λ s t. IsLeastAim (graph_of terms ids) s row t (term_at terms f)) → (looks : List (Look Term))
      → ForShape terms shapes place (λ s t. IsListing look_cmp (IsLook (graph_of terms ids) (Looks s t) (term_at terms f)) looks)
      → (shown : List ShownLook) → looks_in shown ≡ looks → All (HasTriples (graph_of terms ids)) shown → IsEvidenceOf terms ids shapes row (record { shape = shape; focus = focus; row = copy; looks = shown })
  is_evidence row copy same shape focus node is least looks listed shown are triples = (
    same,
    λ s of.
        let g = graph_of terms ids in
        let h = at_place shapes place within in
        let c = read_shape (term_at terms) h.0 in
        let at = named_place terms shapes place h.0 h.1 in
        let own : shape ≡ c.node = node c at in
        record {
          aim = subst (λ (p : ResultRow × Term × Term). IsLeastAim g s p.0 p.1 p.2) (λ i. (sym same i, sym own i, sym is i)) (least s c of at);
          looks = subst (λ (p : Term × Term × List (Look Term)). IsListing look_cmp (IsLook g (Looks s p.0) p.1) p.2) (λ i. (sym own i, sym is i, sym are i)) (listed s c of at);
          triples = triples;
        },
  )
