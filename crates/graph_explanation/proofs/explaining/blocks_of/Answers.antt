use Rattle.std.proofs.Common.{◌∙◌, List, ℕ, [], string_bytes, arith, sym, subst}
use Rattle.graph_explanation.specs.Firsts.{IsTextOfEach}
use Rattle.result_evidence.proofs.Aimed.{first_is_least}
use Rattle.graph_explanation.proofs.Keeping.{all_written, none_written, write_new, write_none}
use Rattle.graph_explanation.proofs.explaining.blocks_of.Goals as goal
use Rattle.graph_explanation.proofs.explaining.blocks_of.Goals.{then-is_first+in_ok-block+in_ok-push_block, else-is_first}

pub loop-place-init : goal.loop-place-init
loop-place-init g c =
    let terms = c.args.data.now.terms in
    let ids = c.args.data.now.ids in
    let shapes = c.args.bound.now.shapes in
    record {
      text = subst (λ (bytes : List ℕ). IsTextOfEach terms ids shapes [] 0 bytes) (sym c.new-out.ensures.bytes) (none_written terms ids shapes c.args.aimed.now c.requires.aimed.0);
      count = omega arith;
    }

pub evidence_at-requires-clause-aimed : goal.evidence_at-requires-clause-aimed
evidence_at-requires-clause-aimed g c =
    let terms = c.args.data.now.terms in
    let ids = c.args.data.now.ids in
    let row = c.index-aimed-place.result in
    let new = c.is_first.ensures.new c.if-is_first.true in
    first_is_least terms ids c.args.bound.now.shapes c.args.aimed.now c.requires.aimed c.loop-place.place row c.loop-place-test.true c.index-aimed-place.is (λ x before same. new row x c.index-aimed-place.is before same) c.requires.shapes

pub loop-place-preserved : goal.loop-place-preserved
loop-place-preserved g c =
    let terms = c.args.data.now.terms in
    let ids = c.args.data.now.ids in
    let shapes = c.args.bound.now.shapes in
    let all = c.args.aimed.now in
    let i = c.loop-place.place in
    let row = c.index-aimed-place.result in
    let count = c.loop-place.invariant.count in
    elim c.if-is_first.branch [
      | then-is_first+in_ok-block+in_ok-push_block w ↦ (let found = w.in_ok-block.ensures in
          let text = write_new terms ids shapes all c.requires.aimed.0 i row c.loop-place-test.true c.index-aimed-place.is c.loop-place.number (string_bytes c.loop-place.out) c.loop-place.invariant.text (c.is_first.ensures.new w.if-is_first.true)
          w.as_str.result.now (string_bytes w.push_block.new.out) (found.0, found.1, w.as_str.ensures.value ∙ found.2) w.in_ok-push_block.ensures in
          rw (w.number-is, w.out-is) (record { text = text; count = omega (arith, count) }))
      | else-is_first w ↦ (let text = write_none terms ids shapes all c.requires.aimed.0 i row c.loop-place-test.true c.index-aimed-place.is c.loop-place.number (string_bytes c.loop-place.out) c.loop-place.invariant.text (c.is_first.ensures.old w.if-is_first.false) in
          rw (w.number-is, w.out-is) (record { text = text; count = omega (arith, count) }))
    ]

pub returns : goal.returns
returns g c =
    let terms = c.args.data.now.terms in
    let ids = c.args.data.now.ids in
    (c.loop-place.number, all_written terms ids c.args.bound.now.shapes c.args.aimed.now c.loop-place.place c.loop-place.number (string_bytes c.loop-place.out) c.loop-place-test.false c.loop-place.invariant.text)
