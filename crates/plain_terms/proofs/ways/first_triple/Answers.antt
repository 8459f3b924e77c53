use Rattle.std.proofs.Common.{◌≡◌, refl, subst, arith}
use Rattle.std.specs.List.{Contains}
use Rattle.rdf_model.specs.declared.triple.Triple.{Triple}
use Rattle.shape_syntax.proofs.Scans.{in_all, none_more, read_in}
use Rattle.plain_terms.proofs.ways.first_triple.Goals as goal

pub returns-then-is_same : goal.returns-then-is_same
returns-then-is_same c =
    let t = c.triple-item.result in
    let e = c.is_same.ensures.0 c.if-is_same.true in
    (e, subst (λ (u : Triple). Contains c.args.graph.now u) (λ i. record { subject = e i; predicate = t.predicate; object = t.object }) (read_in c.args.graph.now c.loop-triple.triple-index t (omega arith) c.triple-item.is))

pub loop-triple-preserved : goal.loop-triple-preserved
loop-triple-preserved c =
    none_more (λ (t : Triple). t.subject ≡ c.args.node.now) c.args.graph.now c.loop-triple.triple-index c.triple-item.result (omega arith) c.triple-item.is c.loop-triple.invariant
    (λ e. let k = c.is_same.ensures.1 e in cc (k, c.if-is_same.false))

pub returns : goal.returns
returns c = λ p v h. c.loop-triple.invariant (record { subject = c.args.node.now; predicate = p; object = v }) (in_all c.args.graph.now c.loop-triple.triple-index (omega arith) (record { subject = c.args.node.now; predicate = p; object = v }) h) refl
