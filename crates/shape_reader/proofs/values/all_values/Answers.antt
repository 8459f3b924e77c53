use Rattle.std.proofs.Common.{◌∙◌, refl, sym, subst}
use Rattle.rdf_model.specs.declared.term.Term.{Term}
use Rattle.shape_syntax.proofs.Own.{own_has}
use Rattle.shape_syntax.proofs.Values.{value_of}
use Rattle.shape_properties.specs.Properties.{property_iri}
use Rattle.shape_properties.specs.Syntax.{HasProperty}
use Rattle.shape_reader.proofs.values.all_values.Goals as goal

pub returns : goal.returns
returns c = λ v.
    let s = c.args.shape.now.graph in
    let own = c.own.result.now in
    let n = c.args.shape.now.node in
    let p = property_iri c.args.property in (
      λ h.
          let g = (c.in_ok-found.ensures v).0 h in
          let t = (c.values-triples.ensures g.0).0 g.1 in
          let there = (own_has s own n c.own.ensures.members p g.0.object).0 (value_of own n p g.0 (t.0, t.1.0 ∙ c.node.ensures, t.1.1 ∙ c.iri.ensures)) in
          subst (λ (u : Term). HasProperty s n c.args.property u) g.2 there,
      λ h.
          let there = (own_has s own n c.own.ensures.members p v).1 h in
          (c.in_ok-found.ensures v).1 (record { subject = n; predicate = p; object = v }, (c.values-triples.ensures (record { subject = n; predicate = p; object = v })).1 (there, (sym c.node.ensures, sym c.iri.ensures)), refl),
    )
