-- A text is verified, or wrong at one block.
use Rattle.std.proofs.Common.{◌≡◌, ◌∙◌, ℕ, suc, ◌+◌, ◌<◌, List, [], ◌∷◌, ◌++◌, length, refl, sym, ap, subst, append_assoc, append-nil, arith, inl, inr}
use Rattle.std.specs.Prelude.{◌⊎◌}
use Rattle.std.specs.List.{AllByRecursion, Contains}
use Rattle.collections.proofs.Members.{has_cases}
use Rattle.rdf_model.specs.declared.triple.Triple.{Triple}
use Rattle.evidence_blocks.specs.declared.block.Block.{Block}
use Rattle.evidence_blocks.specs.BlockText.{numbered_block, numbered_blocks}
use Rattle.evidence_blocks.specs.Verdicts.{IsValid, IsVerified, IsWrongAt}
use Rattle.evidence_laws.proofs.Holding.{looks_alone_decide, shown_blocks_hold}
use Rattle.verdict_laws.specs.Laws.{VerdictsStayApart, VerifiedBlocksHold}
use Rattle.verdict_laws.proofs.OneBlock.{same_numbered}

-- no block has an empty text
never_empty : (n : ℕ) (b : Block) (behind : List ℕ) → [] ≡ numbered_block n b ++ behind → ⊥
never_empty n b behind e = let size = ap length e in absurd (cc)

module _ (g s : List Triple) where
  -- one list of blocks has a block more
  abbrev HasMore : ℕ → List Block → List Block → List ℕ → Type 0
  HasMore n bs cs x = (c : Block) × (behind : List ℕ) × IsValid g s c × (x ≡ numbered_block (n + length bs) c ++ behind) × (length bs < length cs)

  -- blocks that begin one text are the same, as far as both lists go
  compare : (n : ℕ) (bs cs : List Block) (x y : List ℕ) → AllByRecursion (IsValid g s) bs → AllByRecursion (IsValid g s) cs → numbered_blocks n bs ++ x ≡ numbered_blocks n cs ++ y
      → ((length bs ≡ length cs) × (x ≡ y)) ⊎ (HasMore n bs cs x ⊎ HasMore n cs bs y)
  compare n [] [] x y p o e = inl (refl, e)
  compare n [] (c ∷ cs) x y p o e =
      let number : n ≡ n + 0 = omega arith in
      inr (inl (c, numbered_blocks (n + 1) cs ++ y, o.0, e ∙ append_assoc (numbered_block n c) (numbered_blocks (n + 1) cs) y ∙ ap (λ k. numbered_block k c ++ (numbered_blocks (n + 1) cs ++ y)) number, omega arith))
  compare n (b ∷ bs) [] x y p o e =
      let number : n ≡ n + 0 = omega arith in
      inr (inr (b, numbered_blocks (n + 1) bs ++ x, p.0, sym e ∙ append_assoc (numbered_block n b) (numbered_blocks (n + 1) bs) x ∙ ap (λ k. numbered_block k b ++ (numbered_blocks (n + 1) bs ++ x)) number, omega arith))
  compare n (b ∷ bs) (c ∷ cs) x y p o e =
      let k = same_numbered n b c (numbered_blocks (n + 1) bs ++ x) (numbered_blocks (n + 1) cs ++ y) p.0.0 o.0.0 (sym (append_assoc (numbered_block n b) (numbered_blocks (n + 1) bs) x) ∙ e ∙ append_assoc (numbered_block n c) (numbered_blocks (n + 1) cs) y) in
      let left : n + 1 + length bs ≡ n + length (b ∷ bs) = omega arith in
      let right : n + 1 + length cs ≡ n + length (c ∷ cs) = omega arith in
      elim (compare (n + 1) bs cs x y p.1 o.1 k.1) [
        | inl same ↦ inl (ap suc same.0, same.1)
        | inr (inl m) ↦ inr (inl (m.0, m.1, m.2, m.3 ∙ ap (λ j. numbered_block j m.0 ++ m.1) left, omega (arith, m.4)))
        | inr (inr m) ↦ inr (inr (m.0, m.1, m.2, m.3 ∙ ap (λ j. numbered_block j m.0 ++ m.1) right, omega (arith, m.4)))
      ]

  module _ (text : List ℕ) where
    one_count : (n m : ℕ) → IsVerified g s text n → IsVerified g s text m → n ≡ m
    one_count n m v w = elim (compare 1 v.blocks w.blocks [] [] v.valid w.valid (append-nil (numbered_blocks 1 v.blocks) ∙ sym v.written ∙ w.written ∙ sym (append-nil (numbered_blocks 1 w.blocks)))) [
      | inl same ↦ sym v.count ∙ same.0 ∙ w.count
      | inr (inl k) ↦ absurd (never_empty (1 + length v.blocks) k.0 k.1 k.3)
      | inr (inr k) ↦ absurd (never_empty (1 + length w.blocks) k.0 k.1 k.3)
    ]

    -- the next block doesn't stand where a text is wrong
    module _ (i : ℕ) (w : IsWrongAt g s text i) where
      number : 1 + length w.before ≡ i
      number = omega (arith, w.number)

      wrong_next : (b : Block) (behind : List ℕ) → IsValid g s b → w.rest ≡ numbered_block (1 + length w.before) b ++ behind → ⊥
      wrong_next b behind v e = w.wrong b behind v (e ∙ ap (λ k. numbered_block k b ++ behind) number)

    not_both : (n i : ℕ) → IsVerified g s text n → IsWrongAt g s text i → ⊥
    not_both n i v w = elim (compare 1 v.blocks w.before [] w.rest v.valid w.valid (append-nil (numbered_blocks 1 v.blocks) ∙ sym v.written ∙ w.written)) [
      | inl same ↦ w.more (sym same.1)
      | inr (inl k) ↦ never_empty (1 + length v.blocks) k.0 k.1 k.3
      | inr (inr k) ↦ wrong_next i w k.0 k.1 k.2 k.3
    ]

    one_place : (i j : ℕ) → IsWrongAt g s text i → IsWrongAt g s text j → i ≡ j
    one_place i j v w = elim (compare 1 v.before w.before v.rest w.rest v.valid w.valid (sym v.written ∙ w.written)) [
      | inl same ↦ v.number ∙ ap (λ k. k + 1) same.0 ∙ sym w.number
      | inr (inl k) ↦ absurd (wrong_next i v k.0 k.1 k.2 k.3)
      | inr (inr k) ↦ absurd (wrong_next j w k.0 k.1 k.2 k.3)
    ]

pub verdicts_stay_apart : VerdictsStayApart
verdicts_stay_apart g s text n m i j = (one_count g s text n m, not_both g s text n i, one_place g s text i j)

all_valid : (g s : List Triple) (bs : List Block) (b : Block) → AllByRecursion (IsValid g s) bs → Contains bs b → IsValid g s b
all_valid g s [] b a c = absurd (omega (arith, c.1))
all_valid g s (x ∷ bs) b a c = elim (has_cases x bs b c) [ inl e ↦ subst (λ (y : Block). IsValid g s y) e a.0 | inr d ↦ all_valid g s bs b a.1 d ]

pub verified_blocks_hold : VerifiedBlocksHold
verified_blocks_hold g s text n v = (
  v.blocks,
  v.count,
  v.written,
  λ b c. (let valid = all_valid g s v.blocks b v.valid c in ((shown_blocks_hold g s b valid.1).1, λ h agree. looks_alone_decide g h s b valid.1 agree)),
)
