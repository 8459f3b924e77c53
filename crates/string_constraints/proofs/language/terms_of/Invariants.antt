use Rattle.std.proofs.Common.{◌≡◌, map, take}
use Rattle.rdf_model.specs.Numbers.{term_at}
use Rattle.string_constraints.proofs.language.terms_of.Given as goal

abbrev pub invariant-loop-number : goal.invariant-loop-number
invariant-loop-number g l = map (λ t. t.now) l.terms.items ≡ map (term_at l.site.terms) (take l.number-index l.numbers)
