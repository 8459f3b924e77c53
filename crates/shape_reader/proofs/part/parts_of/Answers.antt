use Rattle.std.proofs.Common.{[], arith, map, subst}
use Rattle.rdf_model.specs.declared.term.Term.{Term}
use Rattle.rdf_model.specs.declared.triple.Triple.{Triple}
use Rattle.rdf_model.specs.Terms.{triple_cmp}
use Rattle.shape_properties.specs.OfProperties.{OfTriple}
use Rattle.shape_syntax.proofs.Loops.{from_none, gathered_none, gathered_next, gathered_all}
use Rattle.shape_syntax.proofs.Scans.{read_in}
use Rattle.shape_properties.proofs.SomeValues.{some_value}
use Rattle.shape_properties.specs.Adding.{MayAdd}
use Rattle.shape_properties.proofs.Turns.{some_all, some_ascending, some_next, some_none}
use Rattle.shape_reader.proofs.part.parts_of.Goals as goal

pub loop-triple-init : goal.loop-triple-init
loop-triple-init g c = rw c.new-parts.ensures (record {
  said = gathered_none (λ (t : Triple) x. OfTriple t (λ p v. g.P.Part.says c.args.shape.now.graph c.args.shape.now.nodes p v x)) c.own-own.result.now [];
  by = some_none c.own-own.result.now;
})

pub loop-triple-preserved : goal.loop-triple-preserved
loop-triple-preserved g c =
    let own = c.own-own.result.now in
    let t = c.triple-item.result in
    let here = ((c.own-own.ensures.members t).0 (read_in own c.loop-triple.triple-index t (omega arith) c.triple-item.is)).1 in record {
      said = gathered_next (λ (t : Triple) x. OfTriple t (λ p v. g.P.Part.says c.args.shape.now.graph c.args.shape.now.nodes p v x)) own c.loop-triple.triple-index t [] c.loop-triple.parts c.push_part.new.parts (omega arith) c.triple-item.is c.loop-triple.invariant.said c.in_ok-push_part.ensures.said;
      by = some_next own c.loop-triple.triple-index t (map (g.P.Part.triple c.args.shape.now.node) c.loop-triple.parts) (map (g.P.Part.triple c.args.shape.now.node) c.push_part.new.parts) (omega arith) c.triple-item.is c.loop-triple.invariant.by
          (subst (λ (n : Term). MayAdd t (map (g.P.Part.triple n) c.loop-triple.parts) (map (g.P.Part.triple n) c.push_part.new.parts)) here c.in_ok-push_part.ensures.by);
    }

pub returns-clause-said : goal.returns-clause-said
returns-clause-said g c = λ x.
    let own = c.own-own.result.now in
    let some = some_value c.args.shape.now.graph own c.args.shape.now.node (λ n p v. g.P.Part.says c.args.shape.now.graph c.args.shape.now.nodes p v x) c.own-own.ensures.members in
    let all = from_none (λ (t : Triple) x. OfTriple t (λ p v. g.P.Part.says c.args.shape.now.graph c.args.shape.now.nodes p v x)) own c.loop-triple.parts
    (gathered_all (λ (t : Triple) x. OfTriple t (λ p v. g.P.Part.says c.args.shape.now.graph c.args.shape.now.nodes p v x)) own c.loop-triple.triple-index [] c.loop-triple.parts (omega arith) c.loop-triple.invariant.said) x in
    (λ h. some.0 (all.0 h), λ h. all.1 (some.1 h))

pub returns-clause-by : goal.returns-clause-by
returns-clause-by g c =
    let own = c.own-own.result.now in
    let all = map (g.P.Part.triple c.args.shape.now.node) c.loop-triple.parts in
    some_ascending triple_cmp own all c.own-own.ensures.ascending (some_all own c.loop-triple.triple-index all (omega arith) c.loop-triple.invariant.by)
