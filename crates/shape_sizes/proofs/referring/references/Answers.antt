use Rattle.std.proofs.Common.{List, sym, subst}
use Rattle.shape_references.specs.declared.bundle.Bundle.{Bundle}
use Rattle.shape_sizes.specs.References.{AreReferences}
use Rattle.shape_sizes.proofs.ReferenceChains.{are_references}
use Rattle.shape_sizes.proofs.referring.references.Goals as goal

pub returns : goal.returns
returns c = subst (λ (ws : List Bundle). AreReferences c.args.graph.now ws) (sym c.into_vec.ensures)
    (are_references c.args.graph.now c.in_ok-nodes.nodes c.new-bundles.result c.push_all_direct.new.bundles c.push_all_siblings.new.bundles c.new-bundles.ensures c.in_ok-nodes.ensures
    c.in_ok-push_all_direct.ensures (rw c.as_slice.ensures at c.in_ok-push_all_siblings.ensures))
