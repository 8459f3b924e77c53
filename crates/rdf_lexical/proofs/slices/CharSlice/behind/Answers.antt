use Rattle.std.proofs.Common.{◌≤◌, ◌∙◌, ap, sym, length, arith}
use Rattle.std.proofs.lemmas.Str.{chars-nil, IsUtf8-nil}
use Rattle.std.proofs.Math.ListN.{drop_of_length-le}
use Rattle.rdf_lexical.proofs.slices.CharSlice.behind.Goals as goal

pub invariant_of-result : goal.invariant_of-result
invariant_of-result c = (IsUtf8-nil, sym (ap length chars-nil), omega arith)

pub returns-else-count-len-clause-value : goal.returns-else-count-len-clause-value
returns-else-count-len-clause-value c =
    let most : length c.args.self.now ≤ c.args.count = omega (arith, c.len.ensures.value, c.if-count-len.false) in
    chars-nil ∙ sym (drop_of_length-le c.args.self.now most)

pub returns-else-count-len-clause-bound : goal.returns-else-count-len-clause-bound
returns-else-count-len-clause-bound c = omega (arith, ap length chars-nil)
