use Rattle.std.proofs.Common.{◌∙◌, List, sym, subst}
use Rattle.std.specs.List.{All}
use Rattle.rdf_model.specs.declared.ids.Ids.{Ids}
use Rattle.rdf_model.specs.declared.look.Look.{Look}
use Rattle.rdf_model.specs.declared.term.Term.{Term}
use Rattle.rdf_model.specs.Numbers.{graph_of}
use Rattle.evidence_blocks.specs.Blocks.{HasTriples}
use Rattle.result_evidence.specs.Standing.{HasNumbers}
use Rattle.result_evidence.proofs.Evidenced.{is_evidence}
use Rattle.result_evidence.proofs.evidence_text.block_of.Goals as goal

pub shown_looks-requires-clause-looks : goal.shown_looks-requires-clause-looks
shown_looks-requires-clause-looks g c =
    subst (λ (p : List Term × List (Look Term)). All (HasNumbers p.0) p.1) (λ i. (sym c.requires.names i, sym c.as_slice.ensures.value i)) c.in_ok-looks.ensures.numbers

pub returns : goal.returns
returns g c =
    let e = c.args.evaluation.now in
    let aim = c.args.aim in
    is_evidence e.terms e.ids e.shapes aim.place aim.focus c.requires.place c.args.row.now c.in_ok-clone.field-0 c.in_ok-clone.ensures.cases c.in_ok-shape.shape c.in_ok-shape.focus
    c.in_ok-shape.ensures.shape c.in_ok-shape.ensures.focus c.requires.least c.in_ok-looks.looks.items c.in_ok-looks.ensures.looks c.in_ok-shown.shown (c.in_ok-shown.ensures.looks ∙ c.as_slice.ensures.value)
    (subst (λ (p : List Term × List Ids). All (HasTriples (graph_of p.0 p.1)) c.in_ok-shown.shown) (λ i. (c.requires.names i, c.graph.ensures i)) c.in_ok-shown.ensures.triples)
