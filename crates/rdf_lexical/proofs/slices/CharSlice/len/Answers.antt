use Rattle.rdf_lexical.proofs.Spelled.{few}
use Rattle.rdf_lexical.proofs.slices.CharSlice.len.Goals as goal

pub returns-clause-size : goal.returns-clause-size
returns-clause-size c = few c.self.inside.text.now c.self.inside.count c.self.invariant
