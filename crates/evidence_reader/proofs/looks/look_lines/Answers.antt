use Rattle.std.proofs.Common.{Option, sym, subst, List, ℕ}
use Rattle.std.specs.Prelude.{IsNone}
use Rattle.std.specs.Borrow.{Bor}
use Rattle.evidence_blocks.specs.declared.block.ShownLook.{ShownLook}
use Rattle.evidence_blocks.specs.BlockText.{shown_text}
use Rattle.evidence_blocks.specs.Readable.{IsReadableShown}
use Rattle.evidence_reader.specs.Finding.{Finds, FindsSome, FollowsLooks, FollowsTriples}
use Rattle.evidence_reader.proofs.LookTexts.{after_looks}
use Rattle.evidence_reader.proofs.Splits.{no_more_items, one_more_item}
use Rattle.evidence_reader.proofs.looks.look_lines.Goals as goal

pub loop-looks-preserved : goal.loop-looks-preserved
loop-looks-preserved c =
    let more = one_more_item IsReadableShown shown_text FollowsLooks FollowsTriples after_looks c.args.text.now c.loop-looks.looks c.loop-looks.rest.now c.loop-looks.invariant c.in-Some.look c.in-Some.behind (subst (λ (o : Option (ShownLook × Bor (List ℕ))). Finds IsReadableShown shown_text FollowsTriples c.loop-looks.rest.now o) c.in-Some.is c.in_ok-look.ensures.look)
    (λ h. let bad = subst (λ (o : Option (ShownLook × Bor (List ℕ))). IsNone o) c.in-Some.is (c.in_ok-look.ensures.none h) in cc) in
    subst (λ (xs : List ShownLook). FindsSome IsReadableShown shown_text FollowsLooks c.args.text.now xs c.in-Some.behind.now) (sym c.in_ok-push.ensures.ok) more

pub returns : goal.returns
returns c = (c.loop-looks.rest.now, no_more_items IsReadableShown shown_text FollowsLooks FollowsTriples after_looks c.args.text.now c.loop-looks.looks c.loop-looks.rest.now c.loop-looks.invariant (subst (λ (o : Option (ShownLook × Bor (List ℕ))). Finds IsReadableShown shown_text FollowsTriples c.loop-looks.rest.now o) c.in_default.is c.in_ok-look.ensures.look))
