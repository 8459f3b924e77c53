use Rattle.std.proofs.Common.{get_or}
use Rattle.std.proofs.lemmas.List.Elements.{Contains-get_or}
use Rattle.component_rows.specs.Sites.{site_row}
use Rattle.component_rows.proofs.Collecting.{grown, all_grown}
use Rattle.pair_constraints.specs.Focus.{PairRow}
use Rattle.pair_constraints.proofs.order.add_pairs.Goals as goal

pub add_pair-requires-clause-other : goal.add_pair-requires-clause-other
add_pair-requires-clause-other g c =
    c.requires.others (get_or c.args.others.now c.loop-other.other-index 0) (Contains-get_or c.args.others.now c.loop-other.other-index 0 c.loop-other-test.true)

pub loop-other-preserved : goal.loop-other-preserved
loop-other-preserved g c =
    grown (PairRow c.args.site.now.terms (site_row c.args.component c.args.site.now) c.args.comparison c.args.value)
    c.args.others.now c.loop-other.other-index 0 c.args.rows.now.items c.loop-other.rows.items c.add_pair.new.rows.items c.loop-other-test.true c.loop-other.invariant c.in_ok-add_pair.ensures

pub returns : goal.returns
returns g c =
    all_grown (PairRow c.args.site.now.terms (site_row c.args.component c.args.site.now) c.args.comparison c.args.value)
    c.args.others.now c.loop-other.other-index c.args.rows.now.items c.loop-other.rows.items c.loop-other-test.false c.loop-other.invariant
