use Rattle.std.proofs.Common.{◌≡◌, ◌∙◌, ap, arith}
use Rattle.rdf_model.specs.declared.term.Term.{Term}
use Rattle.shape_ast.specs.declared.shape.Shape.{Shape}
use Rattle.shape_syntax.proofs.Scans.{in_all, none_more, read_in}
use Rattle.store_model.specs.declared.event.BlockMode.TheVariants.{Violation}
use Rattle.store_model.specs.Blocking.{severity_blocks}
use Rattle.blocking.proofs.Severities.{alike, compiled, different, said_at}
use Rattle.blocking.proofs.severity.violates.Goals as goal

pub loop-shape-preserved : goal.loop-shape-preserved
loop-shape-preserved c =
    let n = c.args.row.now.source_shape in
    none_more (λ (x : Shape Term). x.node ≡ n) c.as_slice-shape-items.result.now c.loop-shape.shape-index c.shape-item.result (omega arith) c.shape-item.is c.loop-shape.invariant (different c.shape-item.result.node n c.eq.result c.eq.ensures c.if-eq.false)

pub returns-then-eq : goal.returns-then-eq
returns-then-eq c =
    let n = c.args.row.now.source_shape in
    let shape = c.shape-item.result in
    let there = read_in c.as_slice-shape-items.result.now c.loop-shape.shape-index shape (omega arith) c.shape-item.is in
    let said = said_at c.shapes-shapes.result.now.shapes c.as_slice-shape-items.result.now c.args.graph.now c.shapes-shapes.ensures.shapes.stand c.as_slice-shape-items.ensures shape there n (alike shape.node n c.eq.result c.eq.ensures c.if-eq.true) in
    c.declared_blocks.ensures ∙ ap (λ (t : Term). severity_blocks Violation t) said

pub returns : goal.returns
returns c =
    let items = c.as_slice-shape-items.result.now in
    absurd (compiled c.shapes-shapes.result.now.shapes items c.args.graph.now c.shapes-shapes.ensures.shapes.stand c.as_slice-shape-items.ensures c.args.row.now.source_shape c.requires
    (λ x i e. c.loop-shape.invariant x (in_all items c.loop-shape.shape-index (omega arith) x i) e))
