-- Blocks that are written one after another.
use Rattle.std.proofs.Common.{◌≡◌, ◌∙◌, ◌+◌, ℕ, List, [], ◌∷◌, ◌++◌, length, codes, append_assoc, refl, sym, ap, subst, arith}
use Rattle.std.specs.Fmt.{decimal}
use Rattle.std.proofs.lemmas.List.{append-nil, length-map, map-append}
use Rattle.std.proofs.lemmas.List.Elements.{All-push}
use Rattle.rdf_model.specs.declared.ids.Ids.{Ids}
use Rattle.rdf_model.specs.declared.term.Term.{Term}
use Rattle.rdf_model.specs.declared.triple.Triple.{Triple}
use Rattle.rdf_model.specs.Numbers.{graph_of}
use Rattle.shape_model.specs.declared.result_row.ResultRow.{ResultRow}
use Rattle.shape_model.specs.Validation.{Listing}
use Rattle.shape_ast.specs.declared.shape.Shape.{Shape}
use Rattle.evidence_blocks.specs.declared.block.Block.{Block}
use Rattle.evidence_blocks.specs.Blocks.{IsEvidence}
use Rattle.evidence_blocks.specs.BlockText.{block_text, numbered_block, numbered_blocks}
use Rattle.result_evidence.specs.Standing.{AreOf, ForEach, IsEvidenceOf}
use Rattle.graph_explanation.specs.Explanations.{IsExplanation, IsTextOf}

last_block : (n : ℕ) (bs : List Block) (b : Block) → numbered_blocks n (bs ++ b ∷ []) ≡ numbered_blocks n bs ++ numbered_block (n + length bs) b
last_block n [] b = let e : n ≡ n + 0 = omega arith in append-nil (numbered_block n b) ∙ ap (λ k. numbered_block k b) e
last_block n (x ∷ xs) b =
    let e : n + 1 + length xs ≡ n + length (x ∷ xs) = omega arith in
    ap (λ (t : List ℕ). numbered_block n x ++ t) (last_block (n + 1) xs b ∙ ap (λ k. numbered_blocks (n + 1) xs ++ numbered_block k b) e)
    ∙ sym (append_assoc (numbered_block n x) (numbered_blocks (n + 1) xs) (numbered_block (n + length (x ∷ xs)) b))

regrouped : (x p d n t : List ℕ) → x ++ p ++ d ++ n ++ t ≡ x ++ (p ++ d ++ n ++ t)
regrouped x p d n t = simp append_assoc

module _ (terms : List Term) (ids : List Ids) (shapes : List (Shape ℕ)) where
  Shows : Block → Type 0
  Shows b = ForEach terms shapes (λ s. IsEvidence (graph_of terms ids) s b)

  pub no_block : IsTextOf terms ids shapes [] []
  no_block = record { blocks = []; of_rows = refl; each = λ k d lt. absurd (omega (arith, lt)); written = refl }

  pub more_block : (rows : List ResultRow) (row : ResultRow) (n : ℕ) → n ≡ length rows + 1 → (old text new : List ℕ) → IsTextOf terms ids shapes rows old
      → ((b : Block) × IsEvidenceOf terms ids shapes row b × (text ≡ block_text b)) → new ≡ old ++ codes "result " ++ decimal n ++ codes "\n" ++ text → IsTextOf terms ids shapes (rows ++ row ∷ []) new
  more_block rows row n count old text new before found joined =
      let b = found.0 in
      let own = found.1 in
      let many : length before.blocks ≡ length rows = sym (length-map before.blocks (λ (c : Block). c.row)) ∙ ap (λ (rs : List ResultRow). length rs) before.of_rows in
      let e : n ≡ 1 + length before.blocks = omega (arith, count, many) in
      let parts : old ++ codes "result " ++ decimal n ++ codes "\n" ++ text ≡ numbered_blocks 1 before.blocks ++ codes "result " ++ decimal (1 + length before.blocks) ++ codes "\n" ++ block_text b
      = λ j. before.written j ++ codes "result " ++ decimal (e j) ++ codes "\n" ++ found.2 j in
      let all_written : new ≡ numbered_blocks 1 before.blocks ++ numbered_block (1 + length before.blocks) b = joined ∙ parts ∙ regrouped (numbered_blocks 1 before.blocks) (codes "result ") (decimal (1 + length before.blocks)) (codes "\n") (block_text b) in
      record {
        blocks = before.blocks ++ b ∷ [];
        of_rows = map-append (λ (c : Block). c.row) before.blocks (b ∷ []) ∙ (λ j. before.of_rows j ++ own.0 j ∷ []);
        each = All-push (λ c. ForEach terms shapes (λ s. IsEvidence (graph_of terms ids) s c)) before.blocks b before.each own.1;
        written = all_written ∙ sym (last_block 1 before.blocks b);
      }

  module _ (s : List Triple) (of : AreOf terms shapes s) (rows : List ResultRow) (listing : Listing (graph_of terms ids) s rows) where
    pub explains : (text : List ℕ) → IsTextOf terms ids shapes rows text → IsExplanation (graph_of terms ids) s text
    explains text h = (
      h.blocks,
      record {
        listing = subst (λ (rs : List ResultRow). Listing (graph_of terms ids) s rs) (sym h.of_rows) listing;
        each = λ k d lt. h.each k d lt s of;
      },
      h.written,
    )
