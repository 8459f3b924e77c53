use Rattle.std.proofs.Common.{◌≡◌, ◌∙◌, [], List, length, ap, arith}
use Rattle.rdf_model.specs.declared.term.Term.{Term}
use Rattle.term_dict.specs.Names.{first_terms, with_terms}
use Rattle.term_dict.proofs.Growing.{first_named, two_first}
use Rattle.term_dict.proofs.dict.Dict.new.Goals as goal

pub invariant_of-result : goal.invariant_of-result
invariant_of-result c =
    let is : c.in_ok-table.table ≡ first_terms = c.in_ok-table.ensures.table ∙ ap (λ (us : List Term). with_terms us c.deref.result.now) c.new.ensures ∙ ap (with_terms []) (c.deref.ensures.value ∙ c.in_ok-terms.ensures) ∙ first_named in
    let two : length c.in_ok-table.table ≡ 2 = ap length is ∙ two_first in
    (omega arith, omega arith, c.requires)

pub returns : goal.returns
returns c =
    let is : c.in_ok-table.table ≡ first_terms = c.in_ok-table.ensures.table ∙ ap (λ (us : List Term). with_terms us c.deref.result.now) c.new.ensures ∙ ap (with_terms []) (c.deref.ensures.value ∙ c.in_ok-terms.ensures) ∙ first_named in
    λ i. record { terms = is i; limit = c.args.limit }
