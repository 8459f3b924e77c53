-- Looks that have been shown so far.
use Rattle.std.proofs.Common.{◌≡◌, ◌∙◌, ◌+◌, ◌<◌, ℕ, List, [], ◌∷◌, ◌++◌, length, take, get_or, sym, ap, subst}
use Rattle.std.specs.List.{All}
use Rattle.std.proofs.lemmas.List.{take_more, map-append}
use Rattle.std.proofs.lemmas.List.Elements.{All-push}
use Rattle.rdf_model.specs.declared.term.Term.{Term}
use Rattle.rdf_model.specs.declared.triple.Triple.{Triple}
use Rattle.rdf_model.specs.declared.look.Look.{Look}
use Rattle.evidence_blocks.specs.declared.block.ShownLook.{ShownLook}
use Rattle.evidence_blocks.specs.Blocks.{HasTriples, looks_in}

module _ (looks : List (Look Term)) (i : ℕ) (old new : List ShownLook) (x : ShownLook) (joined : new ≡ old ++ x ∷ []) where
  pub more_looks : (item : Look Term) → i < length looks → item ≡ get_or looks i item → looks_in old ≡ take i looks → x.look ≡ item → looks_in new ≡ take (i + 1) looks
  more_looks item lt at before is =
      ap looks_in joined ∙ map-append (λ (y : ShownLook). y.look) old (x ∷ []) ∙ (λ j. before j ++ (is ∙ at) j ∷ []) ∙ sym (take_more looks i item lt)

  pub more_triples : (g : List Triple) → All (HasTriples g) old → HasTriples g x → All (HasTriples g) new
  more_triples g before has = subst (λ (xs : List ShownLook). All (HasTriples g) xs) (sym joined) (All-push (HasTriples g) old x before has)
