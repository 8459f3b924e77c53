use Rattle.std.proofs.Common.{◌≡◌, ◌∙◌, true, false, List, sym, subst}
use Rattle.std.specs.Prelude.{◌↔◌, IsTrue}
use Rattle.std.specs.List.{All}
use Rattle.std.proofs.lemmas.Result.{IfOk-weaker}
use Rattle.collections.specs.Ordered.{IsAscending}
use Rattle.rdf_model.specs.declared.ids.Ids.{Ids}
use Rattle.rdf_model.specs.declared.term.Term.{Term}
use Rattle.rdf_model.specs.Numbers.{graph_of}
use Rattle.evidence_blocks.specs.declared.block.ShownLook.{ShownLook}
use Rattle.evidence_blocks.specs.Blocks.{HasTriples, looks_in}
use Rattle.evidence_blocks.specs.LookOrder.{look_cmp}
use Rattle.evidence_blocks.specs.Shown.{IsShown}
use Rattle.result_evidence.specs.Standing.{ForEach}
use Rattle.evidence_verdict.specs.Judging.{ShowsByItself}
use Rattle.evidence_verdict.proofs.Judged.{not_so, shown_where, so_where}
use Rattle.evidence_verdict.proofs.judging.shows.Goals as goal

pub returns-then-not-exact : goal.returns-then-not-exact
returns-then-not-exact g c s of =
    let e = c.args.evaluation.now in
    let graph = graph_of e.terms e.ids in
    let b = c.args.block.now in
    let exact = subst (λ (p : List Term × List Ids × List ShownLook). IsTrue c.in_ok-exact.exact ↔ All (HasTriples (graph_of p.0 p.1)) p.2) (λ i. (c.requires.names i, c.graph.ensures i, c.as_slice-looks.ensures i)) c.in_ok-exact.ensures in
    not_so (IsShown graph s b) (λ shown. let bad : true ≡ false = sym (exact.1 shown.triples) ∙ c.if-not-exact.true in cc)

pub shows_by_itself-requires-clause-triples : goal.shows_by_itself-requires-clause-triples
shows_by_itself-requires-clause-triples g c =
    let e = c.args.evaluation.now in
    let exact = subst (λ (p : List Term × List Ids × List ShownLook). IsTrue c.in_ok-exact.exact ↔ All (HasTriples (graph_of p.0 p.1)) p.2) (λ i. (c.requires.names i, c.graph.ensures i, c.as_slice-looks.ensures i)) c.in_ok-exact.ensures in
    exact.0 c.if-not-exact.false

pub returns : goal.returns
returns g c =
    let e = c.args.evaluation.now in
    let graph = graph_of e.terms e.ids in
    let b = c.args.block.now in
    let exact = subst (λ (p : List Term × List Ids × List ShownLook). IsTrue c.in_ok-exact.exact ↔ All (HasTriples (graph_of p.0 p.1)) p.2) (λ i. (c.requires.names i, c.graph.ensures i, c.as_slice-looks.ensures i)) c.in_ok-exact.ensures in
    let ascending = subst (λ (ls : List ShownLook). IsAscending look_cmp (looks_in ls)) c.as_slice-looks.ensures (c.ascend.ensures.0 c.if-not-ascend.false) in
    IfOk-weaker c.shows_by_itself.result (λ answer. ForEach e.terms e.shapes (λ s. IsTrue answer ↔ ShowsByItself s b)) (λ answer. ForEach e.terms e.shapes (λ s. IsTrue answer ↔ IsShown graph s b))
    (λ answer told s of. so_where (IsTrue answer) (ShowsByItself s b) (IsShown graph s b) (told s of) (shown_where graph s b ascending (exact.0 c.if-not-exact.false))) c.shows_by_itself.ensures
