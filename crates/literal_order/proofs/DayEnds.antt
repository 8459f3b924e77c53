-- The end of a day is the start of the next.
use Rattle.std.proofs.Common.{◌≡◌, ◌∙◌, ℕ, ◌+◌, ◌*◌, ◌^◌, ◌-◌, ◌≤◌, true, cond, ◌&&◌, ◌||◌, List, [], ◌∷◌, ◌++◌, length, Option, Some, None, refl, sym, ap, arith}
use Rattle.std.specs.Prelude.{nat_le}
use Rattle.std.proofs.lemmas.Bool.{and_parts, eqb-true}
use Rattle.std.proofs.lemmas.Bool.Decides.{nat_tests}
use Rattle.literal_order.specs.Digits.{are_zeros, number, number_after, fraction_of}
use Rattle.literal_order.specs.Dates.{fraction, time, offset, date, date_time_reading, date_time_form, date_time_value, read_or_ill_typed, nanoseconds, time_of, instant, at_zero, local_seconds, has_offset, EndsAtNext, ◌>>=◌}
use Rattle.literal_order.specs.declared.date_time.Day.{Day}
use Rattle.literal_order.specs.declared.date_time.Day.TheVariants as days
use Rattle.literal_order.specs.declared.date_time.Time.{Time}
use Rattle.literal_order.specs.declared.date_time.Offset.{Offset}
use Rattle.literal_order.specs.declared.literal_value.Instant.{Instant}
use Rattle.literal_order.specs.declared.literal_value.LiteralValue.TheVariants as values
use Rattle.literal_order.specs.declared.literal_value.LiteralReading.TheVariants.{Value}

zeros_from : (zs : List ℕ) → are_zeros zs ≡ true → number_after 0 zs ≡ 0
zeros_from [] h = refl
zeros_from (c ∷ cs) h =
    let p = and_parts _ (are_zeros cs) h in
    let e : c ≡ 48 = eqb-true c 48 p.0 in
    ap (λ d. number_after (10 * 0 + (d - 48)) cs) e ∙ zeros_from cs p.1

no_fraction : (zs : List ℕ) → are_zeros zs ≡ true → fraction_of 9 zs ≡ 0
unfolding fraction_of
no_fraction zs h = let none : number zs ≡ 0 = zeros_from zs h in ap (λ n. n * 10 ^ (9 - length zs)) none ∙ omega arith

no_nanoseconds : (zs : List ℕ) → are_zeros zs ≡ true → length zs ≤ 9 → nanoseconds zs ≡ Some 0
no_nanoseconds zs h most = let few : nat_le (length zs) 9 ≡ true = grind (arith, nat_tests) in ap (λ b. cond b (Some (fraction_of 9 zs)) None) few ∙ ap (λ n. Some n) (no_fraction zs h)

end_time : (rest zs zone : List ℕ) → fraction rest ≡ Some (zs, zone) → are_zeros zs ≡ true → length zs ≤ 9
    → let clock : Time = record { seconds = 86_400; nanoseconds = Some 0 } in time (84 ∷ 50 ∷ 52 ∷ 58 ∷ 48 ∷ 48 ∷ 58 ∷ 48 ∷ 48 ∷ rest) ≡ Some (clock, zone)
unfolding time
end_time rest zs zone is zeros most =
    let after : (List ℕ × List ℕ) → Option (Time × List ℕ) = λ f. (time_of 24 0 0 f.0 >>= λ clock. Some (clock, f.1)) in
    let made : Option ℕ → Option (Time × List ℕ) = λ o. (let clock : Time = record { seconds = 86_400; nanoseconds = o } in Some (clock, zone)) in
    ap (λ o. o >>= after) is
    ∙ ap (λ b. cond b (let clock : Time = record { seconds = 86_400; nanoseconds = nanoseconds zs } in Some clock) None >>= λ clock. Some (clock, zone)) zeros
    ∙ ap made (no_nanoseconds zs zeros most)

day_end : (day nanos : ℕ) (from : Offset) → instant day 86_400 nanos from ≡ instant (day + 1) 0 nanos from
day_end day nanos from =
    let same : local_seconds day 86_400 ≡ local_seconds (day + 1) 0 = omega arith in
    ap (λ s. let at : Instant = record { seconds = at_zero from s; nanoseconds = nanos; has_offset = has_offset from } in at) same

pub ends_at_next : EndsAtNext
unfolding date_time_reading
ends_at_next text rest zs zone day from on part zeros most west =
    ap (λ o. read_or_ill_typed (o >>= λ d. time d.1 >>= λ t. offset t.1 >>= λ from. Some (date_time_value d.0 t.0.nanoseconds t.0.seconds from))) on
    ∙ ap (λ o. read_or_ill_typed (o >>= λ t. offset t.1 >>= λ from. Some (date_time_value (days.Number day) t.0.nanoseconds t.0.seconds from))) (end_time rest zs zone part zeros most)
    ∙ ap (λ o. read_or_ill_typed (o >>= λ from. Some (date_time_value (days.Number day) (Some 0) 86_400 from))) west
    ∙ ap (λ i. Value (values.DateTime i)) (day_end day 0 from)
