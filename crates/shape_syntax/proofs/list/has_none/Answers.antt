use Rattle.std.proofs.Common.{refl}
use Rattle.rdf_model.specs.declared.triple.Triple.{Triple}
use Rattle.shape_syntax.proofs.Loops.{is_none}
use Rattle.rdf_model.specs.declared.term.Term.TheVariants.{Iri}
use Rattle.shape_syntax.proofs.Values.{value_of}
use Rattle.shape_syntax.proofs.list.has_none.Goals as goal

pub returns : goal.returns
returns c =
    let p = Iri c.args.predicate.now in
    let none = is_none c.values.result.now c.is_empty.result c.is_empty.ensures in (
      λ e v h.
          let r : Triple = record { subject = c.args.node.now; predicate = p; object = v } in
          none.0 e r ((c.values.ensures r).1 (h, (refl, refl))),
      λ h. none.1 (λ t d. let k = (c.values.ensures t).0 d in h t.object (value_of c.args.graph.now c.args.node.now p t (k.0, k.1.0, k.1.1))),
    )
