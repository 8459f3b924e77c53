use Rattle.std.proofs.Common.{Option, refl, sym, subst}
use Rattle.rdf_model.specs.declared.term.Term.{Term}
use Rattle.shape_references.specs.Bundles.{IsFoundNode}
use Rattle.shape_references.proofs.bound.found_node.Goals as goal

pub returns-in_ok-node-in-Some : goal.returns-in_ok-node-in-Some
returns-in_ok-node-in-Some c = subst (λ (o : Option Term). IsFoundNode c.args.nodes.now o c.in_ok-node-in-Some.node) (sym c.in-Some.is) c.in_ok-node-in-Some.ensures

pub returns-in-None : goal.returns-in-None
returns-in-None c = subst (λ (o : Option Term). IsFoundNode c.args.nodes.now o _) (sym c.in-None.is) refl
