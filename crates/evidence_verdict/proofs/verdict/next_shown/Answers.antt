use Rattle.std.proofs.Common.{◌≡◌, ◌∙◌, ℕ, List, Option, true, false, sym, subst}
use Rattle.std.specs.Borrow.{Bor}
use Rattle.rdf_model.specs.Numbers.{graph_of}
use Rattle.evidence_blocks.specs.declared.block.Block.{Block}
use Rattle.evidence_blocks.specs.Shown.{IsShown}
use Rattle.evidence_reader.specs.NextBlocks.{IsNextBlock}
use Rattle.evidence_verdict.proofs.verdict.next_shown.Goals as goal

pub returns-then-is_shown-clause-block : goal.returns-then-is_shown-clause-block
returns-then-is_shown-clause-block g c s of =
    let k = subst (λ (p : ℕ × Option (Block × Bor (List ℕ))). IsNextBlock p.0 c.args.text.now p.1) (λ i. (c.from.ensures i, c.in-Some.is i)) c.in_ok-block.ensures in
    (c.in-Some.block, (k.0, (c.in_ok-is_shown.ensures s of).0 c.if-is_shown.true), k.1)

pub returns-clause-block : goal.returns-clause-block
returns-clause-block g c s of b behind valid e =
    let graph = graph_of c.args.evaluation.now.terms c.args.evaluation.now.ids in
    let k = subst (λ (p : ℕ × Option (Block × Bor (List ℕ))). IsNextBlock p.0 c.args.text.now p.1) (λ i. (c.from.ensures i, c.in-Some.is i)) c.in_ok-block.ensures in
    let shown = subst (λ (x : Block). IsShown graph s x) (sym (k.2 b behind valid.0 e)) valid.1 in
    let bad : true ≡ false = sym ((c.in_ok-is_shown.ensures s of).1 shown) ∙ c.if-is_shown.false in
    cc
