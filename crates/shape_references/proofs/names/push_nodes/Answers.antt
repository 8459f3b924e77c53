use Rattle.rdf_model.specs.declared.term.Term.{Term}
use Rattle.std.specs.List.{Contains}
use Rattle.shape_syntax.proofs.Loops.{gave_both}
use Rattle.shape_references.proofs.BoundNames.{appended}
use Rattle.shape_references.proofs.names.push_nodes.Goals as goal

pub returns : goal.returns
returns c = gave_both (λ (n : Term). Contains c.args.bundle.now.from n) (λ (n : Term). Contains c.args.bundle.now.to n) c.args.nodes.now c.push_terms.new.nodes c.push_terms-2.new.nodes
    (appended c.args.nodes.now c.args.bundle.now.from c.push_terms.new.nodes (rw c.as_slice.ensures at c.in_ok-push_terms.ensures))
    (appended c.push_terms.new.nodes c.args.bundle.now.to c.push_terms-2.new.nodes (rw c.as_slice-2.ensures at c.in_ok-push_terms-2.ensures))
