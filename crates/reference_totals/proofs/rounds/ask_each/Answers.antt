use Rattle.std.proofs.Common.{arith, refl, get_or}
use Rattle.reference_totals.proofs.Asked.{asked_none, asked_next, asked_all}
use Rattle.reference_totals.proofs.rounds.ask_each.Goals as goal

pub loop-index-init : goal.loop-index-init
loop-index-init c = rw c.new-left.ensures (asked_none c.args.places.now c.args.most c.args.waiting.now c.args.known.now)

pub loop-index-preserved : goal.loop-index-preserved
loop-index-preserved c =
    asked_next c.args.places.now c.args.most c.args.waiting.now c.loop-index.index-index (get_or c.args.waiting.now c.loop-index.index-index 0) c.args.known.now c.loop-index.known c.ask.new.known c.loop-index.left c.ask.new.left
    c.requires.known (omega arith) refl c.loop-index.invariant c.in_ok-ask.ensures

pub returns : goal.returns
returns c = asked_all c.args.places.now c.args.most c.args.waiting.now c.loop-index.index-index c.args.known.now c.loop-index.known c.loop-index.left (omega arith) (omega arith) c.loop-index.invariant
