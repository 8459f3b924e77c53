use Rattle.std.proofs.Common.{◌∙◌, IfOk, List, [], sym, subst}
use Rattle.collections.specs.Ordered.{IsAscending}
use Rattle.rdf_model.specs.declared.triple.Triple.{Triple}
use Rattle.rdf_model.specs.Graphs.{with_each}
use Rattle.rdf_model.specs.Terms.{triple_cmp}
use Rattle.std.proofs.lemmas.Result.{err_from_is_err_and}
use Rattle.file_validation.specs.Validations.{AreRead, HasData}
use Rattle.file_validation.proofs.Asks.{asked_all, cause_told, fault_told}
use Rattle.file_validation.proofs.Members.{each_index}
use Rattle.file_validation.proofs.TextReadings.{both_ask, both_were_read, data_read, fault_of_both, shapes_read}
use Rattle.file_validation.proofs.validating.graphs_in_turn.Goals as goal

pub shapes_of-requires : goal.shapes_of-requires
shapes_of-requires g c = subst (λ r. IfOk r (IsAscending triple_cmp)) (both_were_read c.args.readings.table c.args.readings.triples c.in-Ok.both (sym c.both_of.ensures ∙ c.in-Ok.is)).1 c.requires

pub returns-clause-answer : goal.returns-clause-answer
returns-clause-answer g c = λ d s are.
    let both = c.in-Ok.both in
    let read = both_were_read c.args.readings.table c.args.readings.triples both (sym c.both_of.ensures ∙ c.in-Ok.is) in
    let answer = c.in_ok-shapes_graph.ensures.answer in
    let are_read : AreRead d s (with_each [] both.0) both.1 = record {
      data_read = data_read d s c.args.readings are both.0 read.0;
      shapes_read = shapes_read d s c.args.readings are both.1 read.1;
      well_formed = answer.0;
    } in
    (with_each [] both.0, subst (λ (ts : List Triple). AreRead d s (with_each [] both.0) ts) (sym answer.1) are_read, each_index c.in_ok-graph.graph.names c.in_ok-graph.graph.triples both.0 c.in_ok-graph.ensures)

pub returns-clause-asked : goal.returns-clause-asked
returns-clause-asked g c = λ d s are.
    let both = c.in-Ok.both in
    let read = both_were_read c.args.readings.table c.args.readings.triples both (sym c.both_of.ensures ∙ c.in-Ok.is) in
    (both.1, shapes_read d s c.args.readings are both.1 read.1, c.in_ok-shapes_graph.ensures.asked)

pub returns-in-Err-clause-answer : goal.returns-in-Err-clause-answer
returns-in-Err-clause-answer g c = λ d s are. fault_of_both d s c.args.readings are c.in-Err.fault (g.M.Maker.refused c.args.maker.now) (sym c.both_of.ensures ∙ c.in-Err.is)

pub returns-in-Err-clause-asked : goal.returns-in-Err-clause-asked
returns-in-Err-clause-asked g c = λ d s are. both_ask s c.args.readings.table c.args.readings.triples c.in-Err.fault (g.M.Maker.asked c.args.maker.now) (sym c.both_of.ensures ∙ c.in-Err.is)

pub returns-in_err-shapes_graph-clause-asked : goal.returns-in_err-shapes_graph-clause-asked
returns-in_err-shapes_graph-clause-asked g c = λ d s are.
    let both = c.in-Ok.both in
    let read = both_were_read c.args.readings.table c.args.readings.triples both (sym c.both_of.ensures ∙ c.in-Ok.is) in
    let p = err_from_is_err_and c.from_residual.result c.from_residual.ensures.1 in
    rw (p.1, p.2) (fault_told s both.1 _ _ _ (shapes_read d s c.args.readings are both.1 read.1) c.in_err-shapes_graph.ensures.asked)

pub returns-in_err-shapes_graph-clause-answer : goal.returns-in_err-shapes_graph-clause-answer
returns-in_err-shapes_graph-clause-answer g c = λ d s are.
    let both = c.in-Ok.both in
    let read = both_were_read c.args.readings.table c.args.readings.triples both (sym c.both_of.ensures ∙ c.in-Ok.is) in
    let has : HasData d = (with_each [] both.0, data_read d s c.args.readings are both.0 read.0) in
    let p = err_from_is_err_and c.from_residual.result c.from_residual.ensures.1 in
    rw (p.1, p.2) (cause_told d s both.1 _ _ _ has (shapes_read d s c.args.readings are both.1 read.1) c.in_err-shapes_graph.ensures.answer)

pub returns-in_err-graph-clause-asked : goal.returns-in_err-graph-clause-asked
returns-in_err-graph-clause-asked g c = λ d s are.
    let both = c.in-Ok.both in
    let read = both_were_read c.args.readings.table c.args.readings.triples both (sym c.both_of.ensures ∙ c.in-Ok.is) in
    let p = err_from_is_err_and c.from_residual-in_err-graph.result c.from_residual-in_err-graph.ensures.1 in
    rw (p.1, p.2) (asked_all s _ _ (both.1, shapes_read d s c.args.readings are both.1 read.1, c.in_ok-shapes_graph.ensures.asked))

pub returns-clause-numbered : goal.returns-clause-numbered
returns-clause-numbered g c = c.in_ok-graph.ensures.numbered
