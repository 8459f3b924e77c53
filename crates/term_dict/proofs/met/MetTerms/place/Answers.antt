use Rattle.std.proofs.Common.{◌∙◌, List, ap}
use Rattle.rdf_model.specs.declared.term.Term.{Term}
use Rattle.term_dict.specs.Names.{with_term}
use Rattle.term_dict.proofs.Distinct.{met_with, met_number}
use Rattle.term_dict.proofs.met.MetTerms.place.Goals as goal

pub returns-clause-terms : goal.returns-clause-terms
returns-clause-terms c = met_with c.self.inside.seen.keys c.insert_full.new.self.keys c.args.term.now c.in_ok-number.ensures.keys ∙ ap (λ (us : List Term). with_term us c.args.term.now) c.self.view_is

pub returns-clause-number : goal.returns-clause-number
returns-clause-number c = let s = c.in_ok-number.ensures.stored in met_number c.insert_full.new.self.keys c.args.term.now s.0 c.in_ok-number.number s.1 s.2
