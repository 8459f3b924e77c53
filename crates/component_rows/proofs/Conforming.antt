-- Value nodes that conform to shapes, by the answers at their places.
use Rattle.std.proofs.Common.{◌≡◌, ◌∙◌, ℕ, suc, ◌<◌, Bool, true, false, List, [], ◌∷◌, length, map, get_or, refl, sym, ap, arith, subst}
use Rattle.std.specs.Prelude.{◌↔◌}
use Rattle.std.specs.List.{Contains}
use Rattle.std.proofs.lemmas.List.Elements.{Contains-get_or}
use Rattle.rdf_model.specs.declared.term.Term.{Term}
use Rattle.rdf_model.specs.Numbers.{term_at, IsNumbering}
use Rattle.shape_model.specs.declared.result_row.ResultRow.{ResultRow}
use Rattle.shape_model.specs.Components.{Surroundings, ConformsTo}
use Rattle.component_rows.specs.Conformance.{AreTold, told_shapes}
use Rattle.component_rows.specs.Nodes.{AreNodes, HasNode}
use Rattle.component_rows.proofs.Answering.{place_in, at_one_place}
use Rattle.component_rows.proofs.Collecting.{mapped_from}
use Rattle.component_rows.proofs.Tally.{Agrees}

-- lists of answers agree with terms where each does
agrees_from : (C : Term → Type 0) (i : ℕ) (terms : List Term) (ns : List ℕ) (ls : List (List Bool)) → length ls ≡ length ns
    → ((k : ℕ) → k < length ns → (get_or (get_or ls k []) i false ≡ true) ↔ C (term_at terms (get_or ns k 0))) → Agrees C i (map (term_at terms) ns) ls
agrees_from C i terms [] [] many h = tt
agrees_from C i terms [] (a ∷ ls) many h = absurd (omega (arith, many))
agrees_from C i terms (n ∷ ns) [] many h = absurd (omega (arith, many))
agrees_from C i terms (n ∷ ns) (a ∷ ls) many h = (h 0 (omega arith), agrees_from C i terms ns ls (omega (arith, many)) (λ k lt. h (suc k) (omega (arith, lt))))

module _ (terms : List Term) (numbering : IsNumbering terms) (values : List ℕ) (nodes : AreNodes terms values) where
  -- two places of one term are one
  pub one_place : (i j : ℕ) → i < length values → j < length values → term_at terms (get_or values i 0) ≡ term_at terms (get_or values j 0) → i ≡ j
  one_place i j in_i in_j same =
      at_one_place values nodes.ascending i j in_i in_j
      (numbering (get_or values i 0) (get_or values j 0) (nodes.named (get_or values i 0) (Contains-get_or values i 0 in_i)) (nodes.named (get_or values j 0) (Contains-get_or values j 0 in_j)) same)

  pub placed : (v : Term) → HasNode terms values v → (i : ℕ) × (i < length values) × (term_at terms (get_or values i 0) ≡ v)
  placed v h = let m = mapped_from (term_at terms) values v h in let place = place_in values m.0 m.1 in (place.0, place.1, ap (term_at terms) place.2 ∙ m.2)

  module _ (answers : List (List Bool)) where
    module _ (shapes : List ℕ) (named : (n : ℕ) → Contains shapes n → n < length terms) (told : AreTold shapes values answers) where
      abbrev pub Around : Surroundings
      Around = told_shapes terms shapes values answers

      one_list : (j k : ℕ) → j < length shapes → k < length shapes → term_at terms (get_or shapes j 0) ≡ term_at terms (get_or shapes k 0) → get_or answers j [] ≡ get_or answers k []
      one_list j k in_j in_k same = told.same j k in_j in_k
          (numbering (get_or shapes j 0) (get_or shapes k 0) (named (get_or shapes j 0) (Contains-get_or shapes j 0 in_j)) (named (get_or shapes k 0) (Contains-get_or shapes k 0 in_k)) same)

      -- the answer is yes where the node conforms; the result stands for any
      pub conforms_at : (r : ResultRow) (v : Term) (i : ℕ) → i < length values → term_at terms (get_or values i 0) ≡ v → (k : ℕ) → k < length shapes
          → (get_or (get_or answers k []) i false ≡ true) ↔ ConformsTo Around (term_at terms (get_or shapes k 0)) v
      conforms_at r v i lt is k in_k = (
        λ told_yes other denied.
            let list = one_list denied.0 k denied.2 in_k denied.4 in
            let place : denied.1 ≡ i = one_place denied.1 i denied.3 lt (denied.5 ∙ sym is) in
            let no : get_or (get_or answers k []) i false ≡ false = subst (λ (p : List Bool × ℕ). get_or p.0 p.1 false ≡ false) (λ j. (list j, place j)) denied.6 in
            cc (told_yes, no),
        λ conforms. elim (get_or (get_or answers k []) i false) as (λ b. get_or (get_or answers k []) i false ≡ b → b ≡ true) [
          | true ↦ λ e. refl
          | false ↦ λ e. absurd (conforms r (k, i, in_k, lt, refl, is, e))
        ] refl,
      )

      pub agreed : (r : ResultRow) (v : Term) (i : ℕ) → i < length values → term_at terms (get_or values i 0) ≡ v → Agrees (λ m. ConformsTo Around m v) i (map (term_at terms) shapes) answers
      agreed r v i lt is = agrees_from (λ m. ConformsTo Around m v) i terms shapes answers told.as_many (conforms_at r v i lt is)
