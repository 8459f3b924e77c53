use Rattle.std.proofs.Common.{refl}
use Rattle.data_graph.proofs.ByPlaces.{one_more}
use Rattle.data_graph.proofs.numbering.number_terms.Goals as goal

pub loop-place-preserved : goal.loop-place-preserved
loop-place-preserved c =
    one_more c.args.names.now.terms c.args.terms.now c.loop-place.numbers.items c.push.new.self.items c.loop-place.place c.index-terms-place.result c.index-terms-place.result c.number_by_hint.result c.loop-place-test.true c.index-terms-place.is refl c.in_ok-push.ensures.items c.loop-place.invariant c.number_by_hint.ensures
