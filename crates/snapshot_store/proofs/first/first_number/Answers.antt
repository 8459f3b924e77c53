use Rattle.std.proofs.Common.{◌+◌, take}
use Rattle.std.proofs.lemmas.List.{take_more}
use Rattle.snapshot_store.proofs.Sooner.{first_more}
use Rattle.snapshot_store.proofs.first.first_number.Goals as goal

pub loop-triple-preserved : goal.loop-triple-preserved
loop-triple-preserved c =
    let k = c.loop-triple.triple-index in
    let ids = c.args.triples.now in
    first_more c.args.names.now.terms (take k ids) (take (k + 1) ids) _ c.loop-triple.first c.sooner_of.result (take_more ids k _ c.loop-triple-test.true) c.loop-triple.invariant c.sooner_of.ensures.numbered c.sooner_of.ensures.sooner
