use Rattle.std.proofs.Common.{[], refl, arith}
use Rattle.std.specs.Prelude.{◌↔◌}
use Rattle.std.specs.List.{Contains}
use Rattle.shape_syntax.specs.Gathering.{Gives}
use Rattle.rdf_model.specs.declared.term.Term.{Term}
use Rattle.shape_model.specs.Vocabulary.{ShProperty, property_iri}
use Rattle.shape_syntax.proofs.Loops.{gathered_none, gathered_next, gathered_all, from_none}
use Rattle.shape_syntax.proofs.Values.{value_of}
use Rattle.shape_references.specs.Siblings.{IsParentBy}
use Rattle.shape_references.proofs.parents.parent_nodes.Goals as goal

pub loop-triple-init : goal.loop-triple-init
loop-triple-init c = rw c.new-parents.ensures (gathered_none IsParentBy c.as_slice-triple-items.result.now [])

pub loop-triple-preserved : goal.loop-triple-preserved
loop-triple-preserved c = gathered_next IsParentBy c.as_slice-triple-items.result.now c.loop-triple.triple-index c.triple-item.result [] c.loop-triple.parents c.push_parent.new.parents (omega arith) c.triple-item.is c.loop-triple.invariant c.in_ok-push_parent.ensures

pub returns : goal.returns
returns c = λ n.
    let s = c.args.graph.now in
    let ts = c.as_slice-triple-items.result.now in
    let found : (m : Term) → Contains c.loop-triple.parents m ↔ Gives IsParentBy ts m = from_none IsParentBy ts c.loop-triple.parents (gathered_all IsParentBy ts c.loop-triple.triple-index [] c.loop-triple.parents (omega arith) c.loop-triple.invariant) in
    let all = (rw c.as_slice-triple-items.ensures at found) n in (
      λ h. let g = all.0 h in (g.0.object, value_of s n (property_iri ShProperty) g.0 (g.1, g.2.1, g.2.0)),
      λ h. all.1 (record { subject = n; predicate = property_iri ShProperty; object = h.0 }, h.1, (refl, refl)),
    )
