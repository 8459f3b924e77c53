use Rattle.std.proofs.Common.{List, Bool, length, sym, subst}
use Rattle.std.specs.Prelude.{◌↔◌}
use Rattle.std.specs.List.{Contains}
use Rattle.rdf_model.specs.declared.term.Term.{Term}
use Rattle.shape_references.specs.declared.steps.Step.{Step}
use Rattle.shape_references.specs.Steps.{AreInside, AreMarks, IsAtMark}
use Rattle.shape_references.proofs.MarkedChains.{marked_chains, steps_inside}
use Rattle.shape_references.proofs.chains.nodes_with_chain.Goals as goal

pub marks_with_chain-requires-clause-steps : goal.marks_with_chain-requires-clause-steps
marks_with_chain-requires-clause-steps c = subst (λ (ss : List Step). AreInside ss) (sym c.as_slice.ensures) (steps_inside c.args.graph.now c.in_ok-steps.steps c.in_ok-steps.ensures)

pub returns : goal.returns
returns c =
    let marks = subst (λ (ss : List Step). AreMarks ss c.args.count c.in_ok-marks.marks.items) c.as_slice.ensures c.in_ok-marks.ensures in
    let at = subst (λ (ms : List Bool). (n : Term) → Contains c.in_ok-nodes.nodes.keys n ↔ IsAtMark c.args.graph.now ms (length c.args.graph.now) n) c.as_slice-2.ensures.value c.in_ok-nodes.ensures in
    marked_chains c.args.graph.now c.in_ok-steps.steps c.args.count c.in_ok-marks.marks.items c.in_ok-nodes.nodes.keys c.in_ok-steps.ensures c.requires marks at
