use Rattle.std.proofs.Common.{◌≡◌, ℕ, refl, arith, subst, length, Some}
use Rattle.std.specs.Prelude.{◌↔◌, slice_get}
use Rattle.std.specs.List.{Contains}
use Rattle.std.proofs.lemmas.Option.{slice_get_read}
use Rattle.rdf_model.specs.declared.term.Term.{Term}
use Rattle.shape_references.specs.Steps.{IsAtMark}
use Rattle.shape_references.proofs.MarkedChains.{at_mark_next}
use Rattle.shape_references.proofs.chains.marked_nodes.Goals as goal

pub loop-index-preserved : goal.loop-index-preserved
loop-index-preserved c =
    let t = c.index-graph-index.result in
    let got : slice_get c.args.graph.now c.loop-index.index ≡ Some t = slice_get_read c.args.graph.now _ c.loop-index.index t refl (omega arith) c.index-graph-index.is in
    at_mark_next c.args.graph.now c.args.marks.now c.loop-index.index t c.loop-index.nodes.keys c.put_marked.new.nodes.keys got c.loop-index.invariant c.in_ok-put_marked.ensures

pub returns : goal.returns
returns c =
    let all : c.loop-index.index ≡ length c.args.graph.now = omega arith in
    subst (λ (k : ℕ). (n : Term) → Contains c.loop-index.nodes.keys n ↔ IsAtMark c.args.graph.now c.args.marks.now k n) all c.loop-index.invariant
