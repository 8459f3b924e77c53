use Rattle.std.proofs.Common.{ℕ, List, Option, ◌<◌, length, sym, subst}
use Rattle.std.specs.List.{Contains}
use Rattle.reference_totals.specs.declared.numbers.NumberedPlace.{NumberedPlace}
use Rattle.reference_totals.specs.Rounds.{AreSettled, Tells}
use Rattle.reference_totals.proofs.Asked.{told}
use Rattle.reference_totals.proofs.Numbered.{numbers_within}
use Rattle.reference_totals.proofs.rounds.totals.Goals as goal

pub known_totals-requires-clause-places : goal.known_totals-requires-clause-places
known_totals-requires-clause-places c =
    subst (λ (qs : List NumberedPlace). (q : NumberedPlace) → Contains qs q → q.node < length qs) (sym c.as_slice.ensures)
    (numbers_within c.args.places.now c.in_ok-numbers.numbers c.in_ok-numbered.numbered (record { indices = c.in_ok-numbers.ensures.indices; each = c.in_ok-numbered.ensures }))

pub returns : goal.returns
returns c =
    let settled = subst (λ (qs : List NumberedPlace). AreSettled qs c.args.most c.in_ok-known.known.items) c.as_slice.ensures c.in_ok-known.ensures in
    let tells = subst (λ (known : List (Option ℕ)). Tells c.in_ok-numbers.numbers known c.in_ok-table.table) c.as_slice-2.ensures.value c.in_ok-table.ensures in
    told c.args.places.now c.args.most c.in_ok-numbers.numbers c.in_ok-numbered.numbered c.in_ok-known.known.items c.in_ok-table.table
    (record { indices = c.in_ok-numbers.ensures.indices; each = c.in_ok-numbered.ensures }) settled tells
