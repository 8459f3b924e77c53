use Rattle.std.proofs.Common.{◌≡◌, ◌∙◌, map, sym, subst}
use Rattle.rdf_model.specs.declared.triple.Triple.{Triple}
use Rattle.shape_properties.specs.declared.property.ShapeProperty.{ShapeProperty}
use Rattle.shape_properties.specs.OfProperties.{OfTriple}
use Rattle.shape_syntax.proofs.Loops.{gave_as}
use Rattle.shape_properties.proofs.Names.{one_property}
use Rattle.shape_properties.specs.Adding.{MayAdd, value_triple}
use Rattle.shape_reader.proofs.part.push_part.Goals as goal

pub returns-in_ok-push_read-in-Some-clause-said : goal.returns-in_ok-push_read-in-Some-clause-said
returns-in_ok-push_read-in-Some-clause-said g c =
    let s = c.args.shape.now.graph in
    let v = c.args.triple.now.object in
    gave_as (λ x. g.P.Part.says s c.args.shape.now.nodes c.in-Some.property v x) (λ x. OfTriple c.args.triple.now (λ p w. g.P.Part.says s c.args.shape.now.nodes p w x)) c.args.parts.now c.push_read.new.parts
    (λ x. (λ h. (c.in-Some.property, c.in-Some.ensures, h), λ h. subst (λ (p : ShapeProperty). g.P.Part.says s c.args.shape.now.nodes p v x) (one_property h.0 c.in-Some.property (sym h.1 ∙ c.in-Some.ensures)) h.2))
    c.in_ok-push_read-in-Some.ensures.said

pub returns-in_ok-push_read-in-Some-clause-by : goal.returns-in_ok-push_read-in-Some-clause-by
returns-in_ok-push_read-in-Some-clause-by g c =
    let t = c.args.triple.now in
    let same : value_triple t.subject c.in-Some.property t.object ≡ t = λ i. record { subject = t.subject; predicate = sym c.in-Some.ensures i; object = t.object } in
    subst (λ (u : Triple). MayAdd u (map (g.P.Part.triple t.subject) c.args.parts.now) (map (g.P.Part.triple t.subject) c.push_read.new.parts)) same (c.in_ok-push_read-in-Some.ensures.by t.subject)
