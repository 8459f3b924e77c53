use Rattle.std.proofs.Common.{refl, arith}
use Rattle.rdf_model.specs.declared.triple.Triple.{Triple}
use Rattle.shape_syntax.proofs.Scans.{read_in, in_all}
use Rattle.rdf_model.specs.declared.term.Term.TheVariants.{Iri}
use Rattle.shape_syntax.proofs.Values.{value_of}
use Rattle.shape_syntax.proofs.Equals.{member_unless}
use Rattle.shape_syntax.proofs.instance.new_value.Goals as goal

pub returns-then-not-is_member : goal.returns-then-not-is_member
returns-then-not-is_member c =
    let t = c.triple-item.result in
    let k = (c.values-triple-items.ensures t).0 (read_in c.values-triple-items.result.now c.loop-triple.triple-index t (omega arith) c.triple-item.is) in
    (value_of c.args.graph.now c.args.node.now (Iri c.args.predicate.now) t (k.0, k.1.0, k.1.1), λ i. let j = c.is_member.ensures.1 i in cc)

pub returns : goal.returns
returns c = λ class h.
    let r : Triple = record { subject = c.args.node.now; predicate = Iri c.args.predicate.now; object = class } in
    member_unless c.args.classes.now class (λ apart. c.loop-triple.invariant r (in_all c.values-triple-items.result.now c.loop-triple.triple-index (omega arith) r ((c.values-triple-items.ensures r).1 (h, (refl, refl)))) apart)
