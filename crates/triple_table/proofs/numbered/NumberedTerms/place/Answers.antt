use Rattle.triple_table.proofs.Places.{grown_same}
use Rattle.triple_table.proofs.numbered.NumberedTerms.place.Goals as goal

pub returns-in_err-push-in-None-clause-grown : goal.returns-in_err-push-in-None-clause-grown
returns-in_err-push-in-None-clause-grown c = grown_same c.args.self.now c.push.new.self c.in_err-push-in-None.ensures.err
