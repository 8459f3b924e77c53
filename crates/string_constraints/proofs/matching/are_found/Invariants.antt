use Rattle.std.proofs.Common.{◌≡◌, get_or, length}
use Rattle.regex.specs.Patterns.{Re, SameCaptures}
use Rattle.regex.specs.Strings.{matcher_pattern}
use Rattle.rdf_model.specs.Numbers.{term_at}
use Rattle.component_rows.specs.Answers.{Tells}
use Rattle.string_constraints.specs.Matches.{IsFoundIn}
use Rattle.string_constraints.proofs.matching.are_found.Given as goal

abbrev pub invariant-loop-value : goal.invariant-loop-value
invariant-loop-value g l =
    (matcher_pattern l.matcher ≡ matcher_pattern l.fn.matcher)
    × (length l.answers.items ≡ l.value-index)
    × ((re : Re) → SameCaptures (matcher_pattern l.fn.matcher) re → Tells (λ i. IsFoundIn re (term_at l.site.terms (get_or l.values i 0))) l.value-index l.answers.items)
