-- Terms in the order in which they were met.
use Rattle.std.specs.Prelude.{◌≡◌, ◌<◌, ℕ, List, length, Option, None, Some}
use Rattle.std.proofs.Common.{get_or}
use Rattle.rdf_model.specs.declared.term.Term.{Term}
use Rattle.rdf_model.specs.Numbers.{term_at}
use Rattle.triple_table.specs.Tables.{IsPlaceOf}

-- The term at a number of all stands at its place among those that were met, where it has one, else still at its number.
abbrev pub IsMet : List Term → List Term → List Term → ℕ → Option ℕ → Type 0
IsMet all left met n None = term_at left n ≡ term_at all n
IsMet all left met n (Some p) = IsPlaceOf met p (term_at all n)

abbrev pub AreMet : List Term → List Term → List Term → List (Option ℕ) → Type 0
AreMet all left met places = (n : ℕ) → n < length places → IsMet all left met n (get_or places n None)
