use Rattle.std.proofs.Common.{◌∙◌, List, [], sym, subst}
use Rattle.std.specs.List.{Contains}
use Rattle.collections.specs.Listings.{IsListing}
use Rattle.rdf_model.specs.declared.ids.Ids.{Ids}
use Rattle.rdf_model.specs.declared.triple.Triple.{Triple}
use Rattle.rdf_model.specs.Graphs.{with_each}
use Rattle.triple_index.specs.Keys.{ids_cmp}
use Rattle.std.proofs.lemmas.Result.{err_from_is_err_and}
use Rattle.shape_reader.specs.Asked.{AsksAll, AsksBeforeFault}
use Rattle.shape_reader.specs.Faults as causes
use Rattle.shape_rules.specs.Broken.{IsWellFormed}
use Rattle.file_validation.specs.Validations.{AreRead, HasData}
use Rattle.file_validation.proofs.Asks.{asked_all, cause_told, fault_told}
use Rattle.file_validation.proofs.Cases.{at_err, at_ok, if_ok}
use Rattle.file_validation.proofs.Members.{each_index}
use Rattle.parallel_validate.proofs.Members.{index_numbered}
use Rattle.file_validation.proofs.NamedTriples.{index_of}
use Rattle.file_validation.proofs.TextReadings.{both_ask, both_were_read, data_read, fault_of_both, shapes_read}
use Rattle.file_validation.proofs.validating.graphs_by_threads.Goals as goal

pub returns-in-Err-clause-answer : goal.returns-in-Err-clause-answer
returns-in-Err-clause-answer g c = λ d s are. fault_of_both d s c.args.readings are c.in-Err.fault (g.M.Maker.refused c.args.maker.now) (sym c.both_of.ensures ∙ c.in-Err.is)

pub returns-in-Err-clause-asked : goal.returns-in-Err-clause-asked
returns-in-Err-clause-asked g c = λ d s are. both_ask s c.args.readings.table c.args.readings.triples c.in-Err.fault (g.M.Maker.asked c.args.maker.now) (sym c.both_of.ensures ∙ c.in-Err.is)

pub new-requires-clause-well_formed : goal.new-requires-clause-well_formed
new-requires-clause-well_formed g c = subst (λ (ts : List Triple). IsWellFormed ts) c.as_slice.ensures (at_ok _ _ _ _ c.in_ok-shapes.was c.index_beside_shapes-index.ensures.answer).0

pub returns-in_err-shapes-clause-answer : goal.returns-in_err-shapes-clause-answer
returns-in_err-shapes-clause-answer g c = λ d s are.
    let both = c.in-Ok.both in
    let read = both_were_read c.args.readings.table c.args.readings.triples both (sym c.both_of.ensures ∙ c.in-Ok.is) in
    let cause = subst (λ (ts : List Triple). causes.IsCause ts c.in_err-shapes.field-0.0 (g.M.Maker.refused c.args.maker.now) (g.M.Maker.refused c.index_beside_shapes-index.new.maker)) c.as_slice.ensures (at_err _ _ _ _ c.in_err-shapes.was c.index_beside_shapes-index.ensures.answer) in
    let has : HasData d = (with_each [] both.0, data_read d s c.args.readings are both.0 read.0) in
    let p = err_from_is_err_and c.from_residual.result c.from_residual.ensures.1 in
    rw (p.1, p.2) (cause_told d s both.1 _ _ _ has (shapes_read d s c.args.readings are both.1 read.1) cause)

pub returns-in_err-shapes-clause-asked : goal.returns-in_err-shapes-clause-asked
returns-in_err-shapes-clause-asked g c = λ d s are.
    let both = c.in-Ok.both in
    let read = both_were_read c.args.readings.table c.args.readings.triples both (sym c.both_of.ensures ∙ c.in-Ok.is) in
    let asked = subst (λ (ts : List Triple). AsksBeforeFault ts c.in_err-shapes.field-0.0 (g.M.Maker.asked c.args.maker.now) (g.M.Maker.asked c.index_beside_shapes-index.new.maker)) c.as_slice.ensures (at_err _ _ _ _ c.in_err-shapes.was c.index_beside_shapes-index.ensures.asked) in
    let p = err_from_is_err_and c.from_residual.result c.from_residual.ensures.1 in
    rw (p.1, p.2) (fault_told s both.1 _ _ _ (shapes_read d s c.args.readings are both.1 read.1) asked)

pub returns-in_err-shapes_graph-clause-asked : goal.returns-in_err-shapes_graph-clause-asked
returns-in_err-shapes_graph-clause-asked g c = λ d s are.
    let both = c.in-Ok.both in
    let read = both_were_read c.args.readings.table c.args.readings.triples both (sym c.both_of.ensures ∙ c.in-Ok.is) in
    let asked = subst (λ (ts : List Triple). AsksAll ts (g.M.Maker.asked c.args.maker.now) (g.M.Maker.asked c.index_beside_shapes-index.new.maker)) c.as_slice.ensures (at_ok _ _ _ _ c.in_ok-shapes.was c.index_beside_shapes-index.ensures.asked) in
    let p = err_from_is_err_and c.from_residual-in_err-shapes_graph.result c.from_residual-in_err-shapes_graph.ensures.1 in
    rw (p.1, p.2) (asked_all s _ _ (both.1, shapes_read d s c.args.readings are both.1 read.1, asked))

pub returns-in_err-index-clause-asked : goal.returns-in_err-index-clause-asked
returns-in_err-index-clause-asked g c = λ d s are.
    let both = c.in-Ok.both in
    let read = both_were_read c.args.readings.table c.args.readings.triples both (sym c.both_of.ensures ∙ c.in-Ok.is) in
    let asked = subst (λ (ts : List Triple). AsksAll ts (g.M.Maker.asked c.args.maker.now) (g.M.Maker.asked c.index_beside_shapes-index.new.maker)) c.as_slice.ensures (at_ok _ _ _ _ c.in_ok-shapes.was c.index_beside_shapes-index.ensures.asked) in
    let p = err_from_is_err_and c.from_residual-in_err-index.result c.from_residual-in_err-index.ensures.1 in
    rw (p.1, p.2) (asked_all s _ _ (both.1, shapes_read d s c.args.readings are both.1 read.1, asked))

pub returns-clause-answer : goal.returns-clause-answer
returns-clause-answer g c = λ d s are.
    let both = c.in-Ok.both in
    let read = both_were_read c.args.readings.table c.args.readings.triples both (sym c.both_of.ensures ∙ c.in-Ok.is) in
    let well_formed = subst (λ (ts : List Triple). IsWellFormed ts) c.as_slice.ensures (at_ok _ _ _ _ c.in_ok-shapes.was c.index_beside_shapes-index.ensures.answer).0 in
    let are_read : AreRead d s (with_each [] both.0) both.1 = record {
      data_read = data_read d s c.args.readings are both.0 read.0;
      shapes_read = shapes_read d s c.args.readings are both.1 read.1;
      well_formed = well_formed;
    } in
    let terms = c.into_terms-names.result.0 in
    let ids = c.into_terms-names.result.1.items in
    let index = c.in_ok-index.index in
    let listed = subst (λ (found : List Ids). IsListing ids_cmp (Contains found) index) c.deref.ensures.value (if_ok _ _ _ c.in_ok-index.was c.index_beside_shapes-index.ensures.index) in (
      with_each [] both.0,
      subst (λ (ts : List Triple). AreRead d s (with_each [] both.0) ts) (sym c.in_ok-shapes_graph.ensures) are_read,
      each_index terms index both.0 (index_of terms both.0 ids index c.into_terms-names.ensures.numbered c.into_terms-names.ensures.graph listed.members),
    )

pub returns-clause-asked : goal.returns-clause-asked
returns-clause-asked g c = λ d s are.
    let both = c.in-Ok.both in
    let read = both_were_read c.args.readings.table c.args.readings.triples both (sym c.both_of.ensures ∙ c.in-Ok.is) in
    let asked = subst (λ (ts : List Triple). AsksAll ts (g.M.Maker.asked c.args.maker.now) (g.M.Maker.asked c.index_beside_shapes-index.new.maker)) c.as_slice.ensures (at_ok _ _ _ _ c.in_ok-shapes.was c.index_beside_shapes-index.ensures.asked) in
    (both.1, shapes_read d s c.args.readings are both.1 read.1, asked)

pub returns-clause-numbered : goal.returns-clause-numbered
returns-clause-numbered g c =
    let ids = c.into_terms-names.result.1.items in
    let listed = subst (λ (found : List Ids). IsListing ids_cmp (Contains found) c.in_ok-index.index) c.deref.ensures.value (if_ok _ _ _ c.in_ok-index.was c.index_beside_shapes-index.ensures.index) in
    index_numbered c.into_terms-names.result.0 ids c.in_ok-index.index c.into_terms-names.ensures.numbered listed.members
