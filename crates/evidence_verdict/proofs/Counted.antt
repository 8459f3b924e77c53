-- Blocks that have shown their results so far.
use Rattle.std.proofs.Common.{◌≡◌, ◌≢◌, ◌∙◌, ◌+◌, ◌==◌, ℕ, Bool, true, false, List, [], ◌∷◌, ◌++◌, length, refl, sym, ap, arith, append_assoc, append-nil}
use Rattle.std.proofs.lemmas.Bool.Decides.{nat_tests}
use Rattle.std.specs.List.{AllByRecursion}
use Rattle.std.proofs.lemmas.List.{length_push}
use Rattle.rdf_model.specs.declared.triple.Triple.{Triple}
use Rattle.evidence_blocks.specs.declared.block.Block.{Block}
use Rattle.evidence_blocks.specs.BlockText.{numbered_block, numbered_blocks}
use Rattle.evidence_blocks.specs.Verdicts.{IsValid, IsVerified, IsWrongAt}

-- n blocks that show their results begin the text, and the rest follows
pub record AreShown (g s : List Triple) (text : List ℕ) (n : ℕ) (rest : List ℕ) : Type 0 where
  pub blocks : List Block
  pub count : length blocks ≡ n
  pub valid : AllByRecursion (IsValid g s) blocks
  pub written : text ≡ numbered_blocks 1 blocks ++ rest

all_push : {X : Type 0} → (P : X → Type 0) (xs : List X) (x : X) → AllByRecursion P xs → P x → AllByRecursion P (xs ++ x ∷ [])
all_push P [] x a p = (p, tt)
all_push P (y ∷ xs) x a p = (a.0, all_push P xs x a.1 p)

last_block : (n : ℕ) (bs : List Block) (b : Block) → numbered_blocks n (bs ++ b ∷ []) ≡ numbered_blocks n bs ++ numbered_block (n + length bs) b
last_block n [] b = let e : n ≡ n + 0 = omega arith in append-nil (numbered_block n b) ∙ ap (λ k. numbered_block k b) e
last_block n (x ∷ xs) b =
    let e : n + 1 + length xs ≡ n + length (x ∷ xs) = omega arith in
    ap (λ (t : List ℕ). numbered_block n x ++ t) (last_block (n + 1) xs b ∙ ap (λ k. numbered_blocks (n + 1) xs ++ numbered_block k b) e)
    ∙ sym (append_assoc (numbered_block n x) (numbered_blocks (n + 1) xs) (numbered_block (n + length (x ∷ xs)) b))

-- whether a text is empty
pub is_all : (rest : List ℕ) (answer : Bool) → answer ≡ (length rest == 0) → answer ≡ true → rest ≡ []
is_all [] answer e h = refl
is_all (x ∷ xs) answer e h =
    let some : (length (x ∷ xs) == 0) ≡ false = grind (arith, nat_tests) in
    let bad : true ≡ false = sym h ∙ e ∙ some in cc

pub is_more : (rest : List ℕ) (answer : Bool) → answer ≡ (length rest == 0) → answer ≡ false → rest ≢ []
is_more [] answer e h is = let bad : true ≡ false = sym e ∙ h in cc
is_more (x ∷ xs) answer e h is = cc

module _ (g s : List Triple) (text : List ℕ) where
  pub none_shown : AreShown g s text 0 text
  none_shown = record { blocks = []; count = refl; valid = tt; written = refl }

  module _ (n : ℕ) (rest : List ℕ) (so_far : AreShown g s text n rest) where
    pub one_shown : (b : Block) (behind : List ℕ) → IsValid g s b → rest ≡ numbered_block (n + 1) b ++ behind → AreShown g s text (n + 1) behind
    one_shown b behind valid is =
        let bs = so_far.blocks in
        let number : n + 1 ≡ 1 + length bs = omega (arith, so_far.count) in
        record {
          blocks = bs ++ b ∷ [];
          count = length_push bs b ∙ ap (λ k. k + 1) so_far.count;
          valid = all_push (IsValid g s) bs b so_far.valid valid;
          written = so_far.written ∙ ap (λ (l : List ℕ). numbered_blocks 1 bs ++ l) (is ∙ ap (λ k. numbered_block k b ++ behind) number)
              ∙ sym (append_assoc (numbered_blocks 1 bs) (numbered_block (1 + length bs) b) behind) ∙ ap (λ (l : List ℕ). l ++ behind) (sym (last_block 1 bs b));
        }

    pub all_shown : rest ≡ [] → IsVerified g s text n
    all_shown e = record {
      blocks = so_far.blocks;
      count = so_far.count;
      valid = so_far.valid;
      written = so_far.written ∙ ap (λ (l : List ℕ). numbered_blocks 1 so_far.blocks ++ l) e ∙ append-nil (numbered_blocks 1 so_far.blocks);
    }

    pub next_is_wrong : rest ≢ [] → ((b : Block) (behind : List ℕ) → IsValid g s b → rest ≢ numbered_block (n + 1) b ++ behind) → IsWrongAt g s text (n + 1)
    next_is_wrong more never = record {
      before = so_far.blocks;
      rest = rest;
      number = ap (λ k. k + 1) (sym so_far.count);
      valid = so_far.valid;
      written = so_far.written;
      more = more;
      wrong = never;
    }
