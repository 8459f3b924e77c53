use Rattle.std.proofs.Common.{◌≡◌, ◌∙◌, ◌<◌, ◌/◌, length, refl, sym, subst, arith}
use Rattle.std.specs.declared.cmp.Ordering.TheVariants.{Less, Equal, Greater}
use Rattle.evidence_blocks.specs.declared.block.ShownLook.{ShownLook}
use Rattle.evidence_blocks.specs.LookOrder.{look_cmp}
use Rattle.std.proofs.lemmas.Grind.{common_steps}
use Rattle.evidence_verdict.proofs.Searching.{all_behind, found_here, in_lower, in_upper}
use Rattle.evidence_verdict.proofs.exact.is_listed.Goals as goal

pub returns-in-Equal : goal.returns-in-Equal
returns-in-Equal c =
    let rest = c.loop-rest.rest.now in
    let lower = c.split_at.result.0.now in
    let upper = c.split_at.result.1.now in
    let some : 0 < length upper = grind (arith, common_steps) in
    let found = found_here c.args.looks.now rest lower upper c.args.look.now (length rest / 2) c.split_at.ensures.front c.split_at.ensures.back some c.loop-rest.invariant c.index-upper-0.result c.index-upper-0.is (subst (λ (x : ShownLook). look_cmp x.look c.args.look.now ≡ Equal) (sym c.index-upper-0.is) (sym c.cmp.ensures ∙ c.in-Equal.is)) in
    (λ h. found, λ h. refl)

pub loop-rest-preserved-in-Greater : goal.loop-rest-preserved-in-Greater
loop-rest-preserved-in-Greater c =
    let rest = c.loop-rest.rest.now in
    let lower = c.split_at.result.0.now in
    let upper = c.split_at.result.1.now in
    let some : 0 < length upper = grind (arith, common_steps) in
    in_lower c.args.looks.now rest lower upper c.args.look.now (length rest / 2) c.split_at.ensures.front c.split_at.ensures.back some c.loop-rest.invariant c.index-upper-0.result c.index-upper-0.is (subst (λ (x : ShownLook). look_cmp x.look c.args.look.now ≡ Greater) (sym c.index-upper-0.is) (sym c.cmp.ensures ∙ c.in-Greater.is))

pub loop-rest-preserved : goal.loop-rest-preserved
loop-rest-preserved c =
    let rest = c.loop-rest.rest.now in
    let lower = c.split_at.result.0.now in
    let upper = c.split_at.result.1.now in
    let some : 0 < length upper = grind (arith, common_steps) in
    in_upper c.args.looks.now rest lower upper c.args.look.now (length rest / 2) c.split_at.ensures.front c.split_at.ensures.back some c.loop-rest.invariant c.index-upper-0.result c.index-upper-0.is _ (all_behind upper) (subst (λ (x : ShownLook). look_cmp x.look c.args.look.now ≡ Less) (sym c.index-upper-0.is) (sym c.cmp.ensures ∙ c.in-Less.is))
