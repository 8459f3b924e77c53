-- What patterns ask for by the numbers of their terms.
use Rattle.std.specs.Prelude.{◌≡◌, ◌<◌, ℕ, false, Option, List, length}
use Rattle.rdf_model.specs.declared.ids.Ids.{Ids}
use Rattle.rdf_model.specs.declared.pattern.Pattern.{Pattern}
use Rattle.rdf_model.specs.declared.term.Term.{Term}
use Rattle.rdf_model.specs.Matching.{fits, matches}
use Rattle.rdf_model.specs.Numbers.{term_at, triple_at}
use Rattle.triple_index.specs.Changes.{IsNumbered}
use Rattle.triple_index.specs.Patterns.{fits_number, matches_ids}

-- a number that has a term is asked for where its term is; and no term that has a number is asked for
abbrev pub AsksAlike : List Term → Option Term → Option ℕ → Type 0
AsksAlike terms given asked = (n : ℕ) → n < length terms → fits_number asked n ≡ fits given (term_at terms n)

abbrev pub AsksForNone : List Term → Option Term → Type 0
AsksForNone terms given = (n : ℕ) → n < length terms → fits given (term_at terms n) ≡ false

-- the same of triples of numbers
abbrev pub AllAskAlike : List Term → Pattern → Option ℕ → Option ℕ → Option ℕ → Type 0
AllAskAlike terms p x y z = (i : Ids) → IsNumbered terms i → matches_ids x y z i ≡ matches p (triple_at terms i)

abbrev pub NoneIsAsked : List Term → Pattern → Type 0
NoneIsAsked terms p = (i : Ids) → IsNumbered terms i → matches p (triple_at terms i) ≡ false
