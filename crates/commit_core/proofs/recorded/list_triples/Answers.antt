use Rattle.std.proofs.Common.{◌∙◌, ap, sym, ◌++◌, List}
use Rattle.rdf_model.specs.declared.triple.Triple.{Triple}
use Rattle.commit_core.specs.RestoredParts.{record_triples}
use Rattle.commit_core.proofs.RecordedTriples.{listed_on}
use Rattle.commit_core.proofs.recorded.list_triples.Goals as goal

pub loop-entry-preserved : goal.loop-entry-preserved
loop-entry-preserved c =
    c.in_ok-push_record.ensures ∙ ap (λ (ts : List Triple). ts ++ record_triples c.entry-item.result) c.loop-entry.invariant
    ∙ sym (listed_on c.args.records.now c.loop-entry.entry-index c.entry-item.result c.loop-entry-test.true c.entry-item.is)
