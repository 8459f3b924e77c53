-- A sequence or an alternative is bound with its parts.
use Rattle.std.proofs.Common.{◌≡◌, ◌∙◌, ◌<◌, ℕ, List, Vec, Box, Global, length, map, sym, subst, ap}
use Rattle.std.specs.List.{All, Contains}
use Rattle.rdf_model.specs.declared.term.Term.{Term}
use Rattle.rdf_model.specs.Numbers.{term_at}
use Rattle.shape_model.specs.Paths as defined
use Rattle.path_ast.specs.declared.path.Path.{Path, Sequence, Alternative}
use Rattle.path_ast.specs.PathReadings.{IsBoundFrom, IsBoundPath, IsNamedPath, defined_path, members, path_of}
use Rattle.path_ast.proofs.Rows.{sequence_each, sequence_read, alternative_each, alternative_read}

module _ (terms : List Term) (path : Path Term) (first : Box (Path Term) Global) (others : Vec (Path Term) Global) where
  pub named_in_sequence : path ≡ Sequence first others → IsNamedPath terms path → (ps : List (Path Term)) → ps ≡ others.items → All (IsNamedPath terms) ps
  named_in_sequence e n ps same = subst (All (IsNamedPath terms)) (sym same) ((sequence_each first others (Contains terms)).0 (subst (IsNamedPath terms) e n)).1

  pub named_in_alternative : path ≡ Alternative first others → IsNamedPath terms path → (ps : List (Path Term)) → ps ≡ others.items → All (IsNamedPath terms) ps
  named_in_alternative e n ps same = subst (All (IsNamedPath terms)) (sym same) ((alternative_each first others (Contains terms)).0 (subst (IsNamedPath terms) e n)).1

  module _ (f : Path Term) (ps : List (Path Term)) (is_first : f ≡ first.value) (are_others : ps ≡ others.items)
      (bound : Path ℕ) (boxed : Box (Path ℕ) Global) (more : Vec (Path ℕ) Global) (held : boxed.value ≡ bound) (b : IsBoundFrom terms f bound)
      (in_range : All (IsBoundPath (length terms)) more.items) (same : map (path_of terms) more.items ≡ map defined_path ps) where
    first_in_range : IsBoundPath (length terms) boxed.value
    first_in_range = subst (IsBoundPath (length terms)) (sym held) b.in_range

    first_same : path_of terms boxed.value ≡ defined_path first.value
    first_same = ap (path_of terms) held ∙ b.same ∙ ap defined_path is_first

    others_same : map (path_of terms) more.items ≡ map defined_path others.items
    others_same = same ∙ ap (map defined_path) are_others

    pub sequence_bound : path ≡ Sequence first others → IsBoundFrom terms path (Sequence boxed more)
    sequence_bound e = record {
      in_range = (sequence_each boxed more (λ p. p < length terms)).1 (first_in_range, in_range);
      same = sequence_read boxed more (term_at terms) ∙ (λ i. defined.Sequence (members (first_same i) (others_same i))) ∙ sym (sequence_read first others (λ t. t)) ∙ sym (ap defined_path e);
    }

    pub alternative_bound : path ≡ Alternative first others → IsBoundFrom terms path (Alternative boxed more)
    alternative_bound e = record {
      in_range = (alternative_each boxed more (λ p. p < length terms)).1 (first_in_range, in_range);
      same = alternative_read boxed more (term_at terms) ∙ (λ i. defined.Alternative (members (first_same i) (others_same i))) ∙ sym (alternative_read first others (λ t. t)) ∙ sym (ap defined_path e);
    }
