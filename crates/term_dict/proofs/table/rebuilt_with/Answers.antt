use Rattle.std.proofs.Common.{◌∙◌, List, ap, subst, sym}
use Rattle.rdf_model.specs.declared.term.Term.{Term}
use Rattle.term_dict.specs.Names.{AreNumbersOf, with_terms}
use Rattle.term_dict.proofs.table.rebuilt_with.Goals as goal

pub returns-clause-table : goal.returns-clause-table
returns-clause-table c = c.in_ok-table_of.ensures ∙ c.terms.ensures.terms ∙ c.in_ok-numbers.ensures.terms ∙ ap (λ (us : List Term). with_terms us c.args.terms.now) c.in_ok-met.ensures

pub returns-clause-numbers : goal.returns-clause-numbers
returns-clause-numbers c =
    subst (λ (us : List Term). AreNumbersOf us c.args.terms.now c.in_ok-numbers.numbers.items) (sym (c.in_ok-table_of.ensures ∙ c.terms.ensures.terms)) c.in_ok-numbers.ensures.numbers
