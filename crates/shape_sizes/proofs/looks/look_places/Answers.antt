use Rattle.std.proofs.Common.{List, subst, arith, sym}
use Rattle.std.proofs.lemmas.List.{take_all}
use Rattle.rdf_model.specs.declared.term.Term.{Term}
use Rattle.shape_sizes.specs.PathLooks.{IsCappedLook}
use Rattle.shape_sizes.proofs.Gathered.{HavePlaces, places_all, places_next, places_none}
use Rattle.shape_sizes.proofs.looks.look_places.Goals as goal

pub loop-node-init : goal.loop-node-init
loop-node-init c = rw c.new-places.ensures (places_none c.args.graph.now (IsCappedLook c.args.graph.now) c.args.parents.now c.args.nodes.now)

pub look_place-requires-clause-node : goal.look_place-requires-clause-node
look_place-requires-clause-node c = (c.requires.nodes.members c.node-item.result).0 (c.loop-node.node-index, omega arith, sym c.node-item.is)

pub loop-node-preserved : goal.loop-node-preserved
loop-node-preserved c = places_next c.args.graph.now (IsCappedLook c.args.graph.now) c.args.parents.now c.args.nodes.now c.loop-node.node-index c.node-item.result c.loop-node.places c.push.new.self c.in_ok-look_place.field-0 (omega arith) c.node-item.is c.loop-node.invariant c.in_ok-look_place.ensures.0 c.in_ok-look_place.ensures.1 c.in_ok-push.ensures.ok

pub returns : goal.returns
returns c = places_all c.args.graph.now (IsCappedLook c.args.graph.now) c.args.parents.now c.args.nodes.now c.loop-node.places c.requires.nodes.members
    (subst (λ (xs : List Term). HavePlaces c.args.graph.now (IsCappedLook c.args.graph.now) c.args.parents.now xs c.loop-node.places) (take_all c.loop-node.node-index c.args.nodes.now (omega arith)) c.loop-node.invariant)
