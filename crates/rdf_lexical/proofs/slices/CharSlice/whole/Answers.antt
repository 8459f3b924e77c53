use Rattle.std.proofs.Common.{ap, length, arith}
use Rattle.rdf_lexical.proofs.Spelled.{few}
use Rattle.rdf_lexical.proofs.slices.CharSlice.whole.Goals as goal

pub returns-clause-size : goal.returns-clause-size
returns-clause-size c = omega (arith, few c.self.inside.text.now c.self.inside.count c.self.invariant, c.self.invariant.1, ap length c.self.view_is)
