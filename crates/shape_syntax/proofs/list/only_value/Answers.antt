use Rattle.std.proofs.Common.{◌∙◌, refl, sym}
use Rattle.rdf_model.specs.declared.triple.Triple.{Triple}
use Rattle.shape_syntax.proofs.Loops.{none_first}
use Rattle.rdf_model.specs.declared.term.Term.TheVariants.{Iri}
use Rattle.shape_syntax.proofs.Values.{value_of}
use Rattle.shape_syntax.proofs.Equals.{same_unless}
use Rattle.shape_syntax.proofs.Items.{get_in}
use Rattle.shape_syntax.proofs.list.only_value.Goals as goal

pub returns-then-is_other_there : goal.returns-then-is_other_there
returns-then-is_other_there c = λ v only.
    let p = Iri c.args.predicate.now in
    let other = c.is_other_there.ensures.0 c.if-is_other_there.true in
    let there = (c.values-found.ensures other.0).0 other.1 in
    let first = (c.values-found.ensures c.in-Some.first.now).0 (get_in c.values-found.result.now 0 c.in-Some.first.now (sym c.in-Some.ensures.value)) in
    other.2 (only.1 other.0.object (value_of c.args.graph.now c.args.node.now p other.0 (there.0, there.1.0, there.1.1)) ∙ sym (only.1 c.in-Some.first.now.object (value_of c.args.graph.now c.args.node.now p c.in-Some.first.now (first.0, first.1.0, first.1.1))))

pub returns-else-is_other_there : goal.returns-else-is_other_there
returns-else-is_other_there c =
    let p = Iri c.args.predicate.now in
    let first = (c.values-found.ensures c.in-Some.first.now).0 (get_in c.values-found.result.now 0 c.in-Some.first.now (sym c.in-Some.ensures.value)) in (
      value_of c.args.graph.now c.args.node.now p c.in-Some.first.now (first.0, first.1.0, first.1.1),
      λ z h. same_unless z c.in-Some.first.now.object (λ apart.
          let r : Triple = record { subject = c.args.node.now; predicate = p; object = z } in
          let k = c.is_other_there.ensures.1 (r, (c.values-found.ensures r).1 (h, (refl, refl)), apart) in cc),
    )

pub returns-in-None : goal.returns-in-None
returns-in-None c = λ v only.
    let r : Triple = record { subject = c.args.node.now; predicate = Iri c.args.predicate.now; object = v } in
    none_first c.values-found.result.now (sym c.in-None.ensures.value) r ((c.values-found.ensures r).1 (only.0, (refl, refl)))
