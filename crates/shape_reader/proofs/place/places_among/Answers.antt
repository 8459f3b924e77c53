use Rattle.std.proofs.Common.{ℕ, [], arith}
use Rattle.rdf_model.specs.declared.term.Term.{Term}
use Rattle.shape_syntax.proofs.Loops.{gathered_none, gathered_next, gathered_all, from_none}
use Rattle.shape_reader.specs.Parts.{IsPlace}
use Rattle.shape_reader.proofs.Rising.{places_rise}
use Rattle.shape_reader.proofs.place.places_among.Goals as goal

pub loop-term-init : goal.loop-term-init
loop-term-init c = rw c.new-places.ensures (record {
  found = gathered_none (λ (t : Term) (k : ℕ). IsPlace c.args.shape.now.nodes k t) c.args.terms.now [];
  rising = λ a. tt;
})

pub loop-term-preserved : goal.loop-term-preserved
loop-term-preserved c = record {
  found = gathered_next (λ (t : Term) (k : ℕ). IsPlace c.args.shape.now.nodes k t) c.args.terms.now c.loop-term.term-index c.term-item.result [] c.loop-term.places c.push_place.new.places (omega arith) c.term-item.is c.loop-term.invariant.found c.in_ok-push_place.ensures.found;
  rising = places_rise c.args.shape.now.nodes c.args.terms.now c.loop-term.term-index c.term-item.result c.loop-term.places c.push_place.new.places c.recall.ensures.nodes (omega arith) c.term-item.is c.loop-term.invariant.found c.in_ok-push_place.ensures.by c.loop-term.invariant.rising;
}

pub returns-clause-found : goal.returns-clause-found
returns-clause-found c = from_none (λ (t : Term) (k : ℕ). IsPlace c.args.shape.now.nodes k t) c.args.terms.now c.loop-term.places (gathered_all (λ (t : Term) (k : ℕ). IsPlace c.args.shape.now.nodes k t) c.args.terms.now c.loop-term.term-index [] c.loop-term.places (omega arith) c.loop-term.invariant.found)
