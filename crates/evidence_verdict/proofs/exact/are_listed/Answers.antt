use Rattle.std.proofs.Common.{◌≡◌, true, false, refl}
use Rattle.std.specs.List.{Contains}
use Rattle.evidence_blocks.specs.Blocks.{looks_in}
use Rattle.evidence_verdict.proofs.Searching.{all_so_far, more_so_far, not_so_far}
use Rattle.evidence_verdict.proofs.exact.are_listed.Goals as goal

pub returns-then-not-is_listed : goal.returns-then-not-is_listed
returns-then-not-is_listed c =
    let known = Contains (looks_in c.args.listed.now) in (
      λ h. absurd (let bad : false ≡ true = h in cc),
      λ a. absurd (not_so_far known c.args.looks.now c.loop-look.look-index c.look-item.result c.loop-look-test.true c.look-item.is (λ k. let yes = c.is_listed.ensures.1 k in let no = c.if-not-is_listed.true in cc (yes, no)) a),
    )

pub loop-look-preserved : goal.loop-look-preserved
loop-look-preserved c =
    more_so_far (Contains (looks_in c.args.listed.now)) c.args.looks.now c.loop-look.look-index c.look-item.result c.loop-look-test.true c.look-item.is c.loop-look.invariant (c.is_listed.ensures.0 c.if-not-is_listed.false)

pub returns : goal.returns
returns c = (λ h. all_so_far (Contains (looks_in c.args.listed.now)) c.args.looks.now c.loop-look.look-index c.loop-look-test.false c.loop-look.invariant, λ a. refl)
