-- A sequence or an alternative is copied with its parts.
use Rattle.std.proofs.Common.{◌≡◌, ◌∙◌, List, Vec, Box, Global, IfOk, map, sym, ap}
use Rattle.std.specs.Prelude.{Result, Ok}
use Rattle.std.specs.declared.alloc.AllocError.{AllocError}
use Rattle.shape_ast.proofs.Alike.{ok_of}
use Rattle.rdf_model.specs.declared.term.Term.{Term}
use Rattle.shape_model.specs.Paths as defined
use Rattle.path_ast.specs.declared.path.Path.{Path, Sequence, Alternative}
use Rattle.path_ast.specs.PathReadings.{defined_path, members}
use Rattle.path_ast.proofs.Rows.{sequence_read, alternative_read}

module _ (path : Path Term) (first : Box (Path Term) Global) (others : Vec (Path Term) Global) where
  module _ (f : Path Term) (ps : List (Path Term)) (is_first : f ≡ first.value) (are_others : ps ≡ others.items) where
    -- the members of the path, by the parts that were taken out
    pub sequence_parts : path ≡ Sequence first others → defined_path path ≡ defined.Sequence (members (defined_path f) (map defined_path ps))
    sequence_parts e = ap defined_path e ∙ sequence_read first others (λ t. t) ∙ sym (λ i. defined.Sequence (members (defined_path (is_first i)) (map defined_path (are_others i))))

    pub alternative_parts : path ≡ Alternative first others → defined_path path ≡ defined.Alternative (members (defined_path f) (map defined_path ps))
    alternative_parts e = ap defined_path e ∙ alternative_read first others (λ t. t) ∙ sym (λ i. defined.Alternative (members (defined_path (is_first i)) (map defined_path (are_others i))))

    -- where both parts were copied
    module _ (copy : Result (Path Term) AllocError) (held : Result (Box (Path Term) Global) AllocError) (copies : Result (Vec (Path Term) Global) AllocError)
        (boxed : Box (Path Term) Global) (more : Vec (Path Term) Global) (is_held : held ≡ Ok boxed) (are_more : copies ≡ Ok more)
        (is_boxed : IfOk held (λ b. copy ≡ Ok b.value)) (copied : IfOk copy (λ p. defined_path p ≡ defined_path f)) (others_copied : IfOk copies (λ qs. map defined_path qs.items ≡ map defined_path ps)) where
      first_same : defined_path boxed.value ≡ defined_path f
      first_same = ok_of copy boxed.value (λ p. defined_path p ≡ defined_path f) (ok_of held boxed (λ b. copy ≡ Ok b.value) is_held is_boxed) copied

      others_same : map defined_path more.items ≡ map defined_path ps
      others_same = ok_of copies more (λ qs. map defined_path qs.items ≡ map defined_path ps) are_more others_copied

      pub sequence_copied : path ≡ Sequence first others → defined_path (Sequence boxed more) ≡ defined_path path
      sequence_copied e = sequence_read boxed more (λ t. t) ∙ (λ i. defined.Sequence (members (first_same i) (others_same i))) ∙ sym (sequence_parts e)

      pub alternative_copied : path ≡ Alternative first others → defined_path (Alternative boxed more) ≡ defined_path path
      alternative_copied e = alternative_read boxed more (λ t. t) ∙ (λ i. defined.Alternative (members (first_same i) (others_same i))) ∙ sym (alternative_parts e)
