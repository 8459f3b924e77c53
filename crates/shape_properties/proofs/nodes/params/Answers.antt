use Rattle.std.proofs.Common.{[], arith, map, subst}
use Rattle.rdf_model.specs.declared.term.Term.{Term}
use Rattle.rdf_model.specs.Terms.{triple_cmp}
use Rattle.shape_syntax.proofs.Loops.{from_none, gathered_all, gathered_next, gathered_none}
use Rattle.shape_syntax.proofs.Scans.{read_in}
use Rattle.shape_properties.specs.Adding.{MayAdd}
use Rattle.shape_properties.specs.Params.{SaysParam, param_triple}
use Rattle.shape_properties.proofs.Parameters.{params_said}
use Rattle.shape_properties.proofs.Turns.{some_all, some_ascending, some_next, some_none}
use Rattle.shape_properties.proofs.nodes.params.Goals as goal

pub loop-triple-init : goal.loop-triple-init
loop-triple-init c = rw c.new-params.ensures.items (record {
  said = gathered_none SaysParam c.triples_of-own.result.now [];
  by = some_none c.triples_of-own.result.now;
})

pub loop-triple-preserved : goal.loop-triple-preserved
loop-triple-preserved c =
    let own = c.triples_of-own.result.now in
    let t = c.triple-item.result in
    let here = ((c.triples_of-own.ensures.members t).0 (read_in own c.loop-triple.triple-index t (omega arith) c.triple-item.is)).1 in record {
      said = gathered_next SaysParam own c.loop-triple.triple-index t [] c.loop-triple.params.items c.push_param.new.params.items (omega arith) c.triple-item.is c.loop-triple.invariant.said c.in_ok-push_param.ensures.said;
      by = some_next own c.loop-triple.triple-index t (map (param_triple c.args.node.now) c.loop-triple.params.items) (map (param_triple c.args.node.now) c.push_param.new.params.items) (omega arith) c.triple-item.is c.loop-triple.invariant.by
          (subst (λ (n : Term). MayAdd t (map (param_triple n) c.loop-triple.params.items) (map (param_triple n) c.push_param.new.params.items)) here c.in_ok-push_param.ensures.by);
    }

pub returns-clause-params : goal.returns-clause-params
returns-clause-params c = λ p v.
    let own = c.triples_of-own.result.now in
    let said = params_said c.args.graph.now own c.args.node.now p v c.triples_of-own.ensures.members in
    let all = from_none SaysParam own c.loop-triple.params.items (gathered_all SaysParam own c.loop-triple.triple-index [] c.loop-triple.params.items (omega arith) c.loop-triple.invariant.said) (p, v) in
    (λ h. said.0 (all.0 h), λ h. all.1 (said.1 h))

pub returns-clause-order : goal.returns-clause-order
returns-clause-order c =
    let own = c.triples_of-own.result.now in
    let all = map (param_triple c.args.node.now) c.loop-triple.params.items in
    some_ascending triple_cmp own all c.triples_of-own.ensures.ascending (some_all own c.loop-triple.triple-index all (omega arith) c.loop-triple.invariant.by)
