use Rattle.std.proofs.Common.{ℕ, List, refl, arith}
use Rattle.shape_syntax.proofs.Scans.{read_in}
use Rattle.shape_reader.specs.Parts.{ArePlaces}
use Rattle.shape_reader.proofs.Options.{never_some, only_some}
use Rattle.shape_reader.proofs.Places.{one_places, place_among, places_all, places_more}
use Rattle.shape_reader.proofs.place.places_of.Goals as goal

pub returns-in_default : goal.returns-in_default
returns-in_default c = never_some (λ (ps : List ℕ). ArePlaces c.args.shape.now.nodes ps c.args.terms.now) (λ ps h.
    let p = place_among c.args.shape.now.nodes ps c.args.terms.now c.term-item.result h (read_in c.args.terms.now c.loop-term.term-index c.term-item.result (omega arith) c.term-item.is) in
    let e = (c.place_of.ensures p.0).1 p.1 in
    c.in_default.not-Some p.0 e)

pub loop-term-preserved : goal.loop-term-preserved
loop-term-preserved c = rw c.in_ok-push.ensures.ok (places_more c.args.shape.now.nodes c.loop-term.places c.args.terms.now c.loop-term.term-index c.in-Some.place c.term-item.result (omega arith) c.term-item.is c.loop-term.invariant (((rw c.in-Some.is at c.place_of.ensures) c.in-Some.place).0 refl))

pub returns : goal.returns
returns c =
    let whole = places_all c.args.shape.now.nodes c.loop-term.places c.args.terms.now c.loop-term.term-index (omega arith) c.loop-term.invariant in
    only_some (λ (ps : List ℕ). ArePlaces c.args.shape.now.nodes ps c.args.terms.now) c.loop-term.places whole (λ qs h. one_places c.args.shape.now.nodes c.recall.ensures.nodes c.loop-term.places qs c.args.terms.now whole h)
