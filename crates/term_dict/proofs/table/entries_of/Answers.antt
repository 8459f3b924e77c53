use Rattle.std.proofs.Common.{◌<◌, length}
use Rattle.term_dict.proofs.Distinct.{entries_step, terms_step}
use Rattle.term_dict.proofs.table.entries_of.Goals as goal

pub loop-number-preserved : goal.loop-number-preserved
loop-number-preserved c =
    let lt : c.loop-number.number < length c.args.terms.now = c.loop-number-test.true in
    record {
      terms = terms_step c.args.terms.now c.loop-number.number c.index-terms-number.result c.met.inside.term.now c.loop-number.named c.push_entry.new.terms lt c.index-terms-number.is c.met.view_is c.loop-number.invariant.terms c.in_ok-push_entry.ensures.terms;
      entries = entries_step c.args.terms.now c.loop-number.number c.index-terms-number.result c.met.inside.term.now c.loop-number.by_hash.items c.push_entry.new.by_hash.items lt c.index-terms-number.is c.met.view_is c.loop-number.invariant.entries c.in_ok-push_entry.ensures.entries;
    }
