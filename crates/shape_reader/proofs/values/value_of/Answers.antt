use Rattle.std.proofs.Common.{◌∙◌, sym}
use Rattle.shape_syntax.proofs.Items.{get_in}
use Rattle.shape_syntax.proofs.Own.{own_has}
use Rattle.shape_syntax.proofs.Values.{value_of}
use Rattle.shape_properties.specs.Properties.{property_iri}
use Rattle.shape_syntax.proofs.Loops.{none_first}
use Rattle.shape_reader.proofs.values.value_of.Goals as goal

pub returns-in-Some : goal.returns-in-Some
returns-in-Some c =
    let own = c.own.result.now in
    let n = c.args.shape.now.node in
    let p = property_iri c.args.property in
    let t = c.in-Some.triple.now in
    let first = (c.values.ensures t).0 (get_in c.values.result.now 0 t (sym c.in-Some.ensures.value)) in
    (own_has c.args.shape.now.graph own n c.own.ensures.members p t.object).0 (value_of own n p t (first.0, first.1.0 ∙ c.node.ensures, first.1.1 ∙ c.iri.ensures))

pub returns-in-None : goal.returns-in-None
returns-in-None c = λ v h.
    let n = c.args.shape.now.node in
    let p = property_iri c.args.property in
    let there = (own_has c.args.shape.now.graph c.own.result.now n c.own.ensures.members p v).1 h in
    none_first c.values.result.now (sym c.in-None.ensures.value) (record { subject = n; predicate = p; object = v }) ((c.values.ensures _).1 (there, (sym c.node.ensures, sym c.iri.ensures)))
