use Rattle.std.proofs.Common.{arith}
use Rattle.std.proofs.lemmas.Str.{length-le-encodes}
use Rattle.rdf_lexical.proofs.slices.CharSlice.split_at.Goals as goal

pub returns-clause-size : goal.returns-clause-size
returns-clause-size c = omega (arith, length-le-encodes c.args.self.now, c.split_at_byte.ensures.size)
