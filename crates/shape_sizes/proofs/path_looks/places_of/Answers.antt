use Rattle.std.proofs.Common.{List, subst, arith}
use Rattle.std.proofs.lemmas.List.{take_all}
use Rattle.rdf_model.specs.declared.term.Term.{Term}
use Rattle.shape_sizes.proofs.PathPlaces.{HavePathPlaces, places_all, places_next, places_none}
use Rattle.shape_sizes.proofs.path_looks.places_of.Goals as goal

pub loop-node-init : goal.loop-node-init
loop-node-init c = rw c.new-places.ensures (places_none c.args.graph.now c.args.nodes.now)

pub loop-node-preserved : goal.loop-node-preserved
loop-node-preserved c = places_next c.args.graph.now c.args.nodes.now c.loop-node.node-index c.node-item.result c.loop-node.places c.push_path_place.new.places (omega arith) c.node-item.is c.loop-node.invariant c.in_ok-push_path_place.ensures

pub returns : goal.returns
returns c = places_all c.args.graph.now c.args.nodes.now c.loop-node.places c.requires.nodes
    (subst (λ (xs : List Term). HavePathPlaces c.args.graph.now xs c.loop-node.places) (take_all c.loop-node.node-index c.args.nodes.now (omega arith)) c.loop-node.invariant)
