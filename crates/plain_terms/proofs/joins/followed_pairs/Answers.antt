use Rattle.plain_terms.proofs.Made.{follows_of}
use Rattle.plain_terms.proofs.joins.followed_pairs.Goals as goal

pub returns : goal.returns
returns c =
    follows_of c.args.first.now c.args.second.now c.as_slice-before.result.now c.as_slice-after.result.now c.in_ok-pairs.pairs.items c.in_ok-alone.alone.items c.in_ok-others.others.items c.append.new.self.items c.append-2.new.self.items
    c.as_slice-before.ensures c.as_slice-after.ensures c.in_ok-pairs.ensures c.in_ok-alone.ensures c.in_ok-others.ensures c.in_ok-append.ensures.items c.in_ok-append-2.ensures.items
