-- The parts of a time and of an offset, as they are read and as they are written.
use Rattle.std.proofs.Common.{◌≡◌, ◌≢◌, ◌∙◌, ◌⊎◌, inl, inr, subst, ℕ, ◌+◌, ◌*◌, ◌≤◌, Bool, true, false, cond, ◌&&◌, ◌||◌, nat_eq, List, [], ◌∷◌, ◌++◌, length, Option, Some, None, refl, sym, ap, append_assoc, arith}
use Rattle.std.specs.Prelude.{nat_le, codes, bytes_eq}
use Rattle.std.specs.Char.{is_ascii_digit}
use Rattle.std.proofs.lemmas.Bool.{and_parts, and_from, or_cases, or_left, or_right, cond-true, eqb-true, ne_eqb}
use Rattle.std.proofs.lemmas.Bool.Decides.{Decides-eqb, nat_tests}
use Rattle.std.proofs.lemmas.List.{append-nil}
use Rattle.std.proofs.lemmas.Option.{cond_some, option_and_then_some, some_pair_parts}
use Rattle.std.proofs.lemmas.Slice.Eq.{bytes_eq-Decides}
use Rattle.literal_order.specs.Dates.{field, fraction, nanoseconds, is_time, time_of, time, zone, zone_offset, offset, leading_digits, after_digits, ◌>>=◌}
use Rattle.literal_order.specs.Digits.{is_empty, are_zeros}
use Rattle.literal_order.specs.Forms.{AreDigits}
use Rattle.literal_order.specs.declared.date_time.Time.{Time}
use Rattle.literal_order.specs.declared.date_time.Offset.{Offset}
use Rattle.literal_order.specs.declared.date_time.Offset.TheVariants as offsets
use Rattle.literal_laws.specs.DateForms.{IsTwo, IsFraction, IsTime, IsOffset, IsZone}
use Rattle.literal_laws.proofs.Fields.{field_from, field_to, BeginsOtherwise, leading, after, digits_and_rest, leading_are_digits}

-- tests and what they say
is_at_most : (a b : ℕ) → a ≤ b → nat_le a b ≡ true
is_at_most a b h = grind (arith, nat_tests)

at_most : (a b : ℕ) → nat_le a b ≡ true → a ≤ b
at_most a b h = grind (arith, nat_tests)

is_same : (a b : ℕ) → a ≡ b → nat_eq a b ≡ true
is_same a b h = (Decides-eqb a b).1 h

filled : (b : Bool) (xs : List ℕ) → is_empty xs ≡ b → b ≡ false → (xs ≢ [])
filled b xs e h k = let empty : is_empty xs ≡ true = ap is_empty k in cc

not_empty : (xs : List ℕ) → xs ≢ [] → is_empty xs ≡ false
not_empty [] h = absurd (h refl)
not_empty (x ∷ xs) h = ne_eqb (length (x ∷ xs)) 0 (λ e. omega arith)

empty_only : (xs : List ℕ) → is_empty xs ≡ true → xs ≡ []
empty_only [] h = refl
empty_only (x ∷ xs) h = absurd (let e : length (x ∷ xs) ≡ 0 = eqb-true (length (x ∷ xs)) 0 h in omega (arith, e))

-- the fraction of a second, and what follows
abbrev FractionParts : List ℕ → List ℕ → List ℕ → Type 0
FractionParts text digits rest = (f : List ℕ) × (text ≡ f ++ rest) × IsFraction digits f

point_from : (c : ℕ) (cs digits rest : List ℕ) (point none : Bool) → nat_eq c 46 ≡ point → is_empty (leading_digits cs) ≡ none
    → cond {A = Option (List ℕ × List ℕ)} point (cond none None (Some (leading_digits cs, after_digits cs))) (Some ([], c ∷ cs)) ≡ Some (digits, rest) → FractionParts (c ∷ cs) digits rest
point_from c cs digits rest true true e f h = cc
point_from c cs digits rest true false e f h =
    let parts = some_pair_parts (leading_digits cs) digits (after_digits cs) rest h in
    let written : c ∷ cs ≡ 46 ∷ (digits ++ rest) = ap (λ d. d ∷ cs) (eqb-true c 46 e) ∙ ap (λ t. 46 ∷ t) (digits_and_rest cs) ∙ ap (λ t. 46 ∷ (t ++ after_digits cs)) parts.0 ∙ ap (λ t. 46 ∷ (digits ++ t)) parts.1 in
    (46 ∷ digits, written, inr (refl, subst AreDigits parts.0 (leading_are_digits cs), λ k. filled false (leading_digits cs) f refl (parts.0 ∙ k)))
point_from c cs digits rest false none e f h =
    let parts = some_pair_parts [] digits (c ∷ cs) rest h in
    ([], parts.1, inl (refl, sym parts.0))

fraction_from : (text digits rest : List ℕ) → fraction text ≡ Some (digits, rest) → FractionParts text digits rest
unfolding fraction
fraction_from [] digits rest h = let parts = some_pair_parts [] digits [] rest h in ([], parts.1, inl (refl, sym parts.0))
fraction_from (c ∷ cs) digits rest h = point_from c cs digits rest (nat_eq c 46) (is_empty (leading_digits cs)) refl refl h

-- neither a point nor a digit in front
abbrev EndsTime : List ℕ → Type 0
EndsTime [] = Unit {0}
EndsTime (c ∷ cs) = (nat_eq c 46 ≡ false) × (is_ascii_digit c ≡ false)

otherwise : (rest : List ℕ) → EndsTime rest → BeginsOtherwise rest
otherwise [] h = tt
otherwise (c ∷ cs) h = h.1

no_fraction : (rest : List ℕ) → EndsTime rest → fraction rest ≡ Some ([], rest)
unfolding fraction
no_fraction [] h = refl
no_fraction (c ∷ cs) h = ap (λ b. cond b (cond (is_empty (leading_digits cs)) None (Some (leading_digits cs, after_digits cs))) (Some ([], c ∷ cs))) h.0

fraction_to : (f digits rest : List ℕ) → IsFraction digits f → EndsTime rest → fraction (f ++ rest) ≡ Some (digits, rest)
unfolding fraction
fraction_to f digits rest (inl h) k = ap (λ t. fraction (t ++ rest)) h.0 ∙ no_fraction rest k ∙ ap (λ d. Some (d, rest)) (sym h.1)
fraction_to f digits rest (inr h) k =
    let found = leading digits rest h.1 (otherwise rest k) in
    let left = after digits rest h.1 (otherwise rest k) in
    ap (λ t. fraction (t ++ rest)) h.0
    ∙ ap (λ (t : List ℕ). cond (is_empty t) None (Some (t, after_digits (digits ++ rest)))) found
    ∙ ap (λ b. cond b None (Some (digits, after_digits (digits ++ rest)))) (not_empty digits h.2)
    ∙ ap (λ t. Some (digits, t)) left

-- when hours, minutes and seconds are a time
abbrev InDay : ℕ → ℕ → ℕ → List ℕ → Type 0
InDay h m s digits = ((h ≤ 23) × (m ≤ 59) × (s ≤ 59)) ⊎ ((h ≡ 24) × (m ≡ 0) × (s ≡ 0) × (are_zeros digits ≡ true))

in_day_from : (h m s : ℕ) (digits : List ℕ) → is_time h m s digits ≡ true → InDay h m s digits
in_day_from h m s digits is = elim (or_cases (nat_le h 23 && nat_le m 59 && nat_le s 59) (nat_eq h 24 && nat_eq m 0 && nat_eq s 0 && are_zeros digits) is) [
  | inl e ↦ (let both = and_parts (nat_le h 23 && nat_le m 59) (nat_le s 59) e in let first = and_parts (nat_le h 23) (nat_le m 59) both.0 in inl (at_most h 23 first.0, at_most m 59 first.1, at_most s 59 both.1))
  | inr e ↦ (let all = and_parts (nat_eq h 24 && nat_eq m 0 && nat_eq s 0) (are_zeros digits) e in let both = and_parts (nat_eq h 24 && nat_eq m 0) (nat_eq s 0) all.0 in let first = and_parts (nat_eq h 24) (nat_eq m 0) both.0 in
      inr (eqb-true h 24 first.0, eqb-true m 0 first.1, eqb-true s 0 both.1, all.1))
]

in_day_to : (h m s : ℕ) (digits : List ℕ) → InDay h m s digits → is_time h m s digits ≡ true
in_day_to h m s digits (inl p) = or_left (nat_le h 23 && nat_le m 59 && nat_le s 59) (nat_eq h 24 && nat_eq m 0 && nat_eq s 0 && are_zeros digits)
    (and_from (nat_le h 23 && nat_le m 59) (nat_le s 59) (and_from (nat_le h 23) (nat_le m 59) (is_at_most h 23 p.0) (is_at_most m 59 p.1)) (is_at_most s 59 p.2))
in_day_to h m s digits (inr p) = or_right (nat_le h 23 && nat_le m 59 && nat_le s 59) (nat_eq h 24 && nat_eq m 0 && nat_eq s 0 && are_zeros digits)
    (and_from (nat_eq h 24 && nat_eq m 0 && nat_eq s 0) (are_zeros digits) (and_from (nat_eq h 24 && nat_eq m 0) (nat_eq s 0) (and_from (nat_eq h 24) (nat_eq m 0) (is_same h 24 p.0) (is_same m 0 p.1)) (is_same s 0 p.2)) p.3)

-- a time after its `T`, and what follows
abbrev pub TimeParts : List ℕ → List ℕ → Type 0
TimeParts text rest = (t : List ℕ) × (text ≡ 84 ∷ (t ++ rest)) × IsTime t

joined : (h m s f rest : List ℕ) → h ++ 58 ∷ (m ++ 58 ∷ (s ++ (f ++ rest))) ≡ (h ++ 58 ∷ (m ++ 58 ∷ (s ++ f))) ++ rest
joined h m s f rest =
    sym (append_assoc h (58 ∷ (m ++ 58 ∷ (s ++ f))) rest
    ∙ ap (λ t. h ++ 58 ∷ t) (append_assoc m (58 ∷ (s ++ f)) rest ∙ ap (λ t. m ++ 58 ∷ t) (append_assoc s f rest)))

pub time_from : (text : List ℕ) (clock : Time) (rest : List ℕ) → time text ≡ Some (clock, rest) → TimeParts text rest
unfolding time
time_from text clock rest all =
    option_and_then_some _ (field 84 text) (clock, rest) all λ h at_hour then_minute.
    option_and_then_some _ (field 58 h.1) (clock, rest) then_minute λ m at_minute then_second.
    option_and_then_some _ (field 58 m.1) (clock, rest) then_second λ s at_second then_fraction.
    option_and_then_some _ (fraction s.1) (clock, rest) then_fraction λ f at_fraction then_clock.
    option_and_then_some _ (time_of h.0 m.0 s.0 f.0) (clock, rest) then_clock λ found at_clock last.
    let hour = field_from 84 text h.0 h.1 at_hour in
    let minute = field_from 58 h.1 m.0 m.1 at_minute in
    let second = field_from 58 m.1 s.0 s.1 at_second in
    let part = fraction_from s.1 f.0 f.1 at_fraction in
    let left : f.1 ≡ rest = (some_pair_parts found clock f.1 rest last).1 in
    let in_day = in_day_from h.0 m.0 s.0 f.0 (cond_some (is_time h.0 m.0 s.0 f.0) _ found at_clock).0 in
    let written : text ≡ 84 ∷ (hour.0 ++ 58 ∷ (minute.0 ++ 58 ∷ (second.0 ++ (part.0 ++ rest)))) =
    hour.1 ∙ ap (λ t. 84 ∷ (hour.0 ++ t)) (minute.1 ∙ ap (λ t. 58 ∷ (minute.0 ++ t)) (second.1 ∙ ap (λ t. 58 ∷ (second.0 ++ t)) (part.1 ∙ ap (λ t. part.0 ++ t) left))) in (
      hour.0 ++ 58 ∷ (minute.0 ++ 58 ∷ (second.0 ++ part.0)),
      written ∙ ap (λ t. 84 ∷ t) (joined hour.0 minute.0 second.0 part.0 rest),
      record {
        hour = hour.0;
        minute = minute.0;
        second = second.0;
        fraction = part.0;
        hours = h.0;
        minutes = m.0;
        seconds = s.0;
        digits = f.0;
        written = refl;
        is_hour = hour.2;
        is_minute = minute.2;
        is_second = second.2;
        is_fraction = part.2;
        in_day = in_day;
      },
    )

pub time_to : (t rest : List ℕ) → IsTime t → EndsTime rest → (clock : Time) × (time (84 ∷ (t ++ rest)) ≡ Some (clock, rest))
unfolding time
time_to t rest h ends =
    let clock : Time = record { seconds = 3600 * h.hours + 60 * h.minutes + h.seconds; nanoseconds = nanoseconds h.digits } in
    let written : t ++ rest ≡ h.hour ++ 58 ∷ (h.minute ++ 58 ∷ (h.second ++ (h.fraction ++ rest))) = ap (λ x. x ++ rest) h.written ∙ sym (joined h.hour h.minute h.second h.fraction rest) in
    let from_hour : Option (ℕ × List ℕ) → Option (Time × List ℕ) = λ o. (o >>= λ h. field 58 h.1 >>= λ m. field 58 m.1 >>= λ s. fraction s.1 >>= λ f. time_of h.0 m.0 s.0 f.0 >>= λ clock. Some (clock, f.1)) in
    let from_minute : Option (ℕ × List ℕ) → Option (Time × List ℕ) = λ o. (o >>= λ m. field 58 m.1 >>= λ s. fraction s.1 >>= λ f. time_of h.hours m.0 s.0 f.0 >>= λ clock. Some (clock, f.1)) in
    let from_second : Option (ℕ × List ℕ) → Option (Time × List ℕ) = λ o. (o >>= λ s. fraction s.1 >>= λ f. time_of h.hours h.minutes s.0 f.0 >>= λ clock. Some (clock, f.1)) in
    let from_fraction : Option (List ℕ × List ℕ) → Option (Time × List ℕ) = λ o. (o >>= λ f. time_of h.hours h.minutes h.seconds f.0 >>= λ clock. Some (clock, f.1)) in (
      clock,
      ap (λ x. time (84 ∷ x)) written
          ∙ ap from_hour (field_to 84 h.hours h.hour (58 ∷ (h.minute ++ 58 ∷ (h.second ++ (h.fraction ++ rest)))) h.is_hour)
          ∙ ap from_minute (field_to 58 h.minutes h.minute (58 ∷ (h.second ++ (h.fraction ++ rest))) h.is_minute)
          ∙ ap from_second (field_to 58 h.seconds h.second (h.fraction ++ rest) h.is_second)
          ∙ ap from_fraction (fraction_to h.fraction h.digits rest h.is_fraction ends)
          ∙ ap (λ b. cond b (Some clock) None >>= λ c. Some (c, rest)) (in_day_to h.hours h.minutes h.seconds h.digits h.in_day),
    )

-- an offset of a sign
abbrev InLimit : ℕ → ℕ → Type 0
InLimit h m = ((h ≤ 13) × (m ≤ 59)) ⊎ ((h ≡ 14) × (m ≡ 0))

limit_from : (h m : ℕ) → ((nat_le h 13 && nat_le m 59) || (nat_eq h 14 && nat_eq m 0)) ≡ true → InLimit h m
limit_from h m is = elim (or_cases (nat_le h 13 && nat_le m 59) (nat_eq h 14 && nat_eq m 0) is) [
  | inl e ↦ (let parts = and_parts (nat_le h 13) (nat_le m 59) e in inl (at_most h 13 parts.0, at_most m 59 parts.1))
  | inr e ↦ (let parts = and_parts (nat_eq h 14) (nat_eq m 0) e in inr (eqb-true h 14 parts.0, eqb-true m 0 parts.1))
]

limit_to : (h m : ℕ) → InLimit h m → ((nat_le h 13 && nat_le m 59) || (nat_eq h 14 && nat_eq m 0)) ≡ true
limit_to h m (inl p) = or_left (nat_le h 13 && nat_le m 59) (nat_eq h 14 && nat_eq m 0) (and_from (nat_le h 13) (nat_le m 59) (is_at_most h 13 p.0) (is_at_most m 59 p.1))
limit_to h m (inr p) = or_right (nat_le h 13 && nat_le m 59) (nat_eq h 14 && nat_eq m 0) (and_from (nat_eq h 14) (nat_eq m 0) (is_same h 14 p.0) (is_same m 0 p.1))

zone_from : (sign : ℕ) (text : List ℕ) (minutes : ℕ) → (sign ≡ 43) ⊎ (sign ≡ 45) → zone sign text ≡ Some minutes → IsOffset text
unfolding zone
zone_from sign text minutes signed all =
    option_and_then_some _ (field sign text) minutes all λ h at_hour then_minute.
    option_and_then_some _ (field 58 h.1) minutes then_minute λ m at_minute last.
    let hour = field_from sign text h.0 h.1 at_hour in
    let minute = field_from 58 h.1 m.0 m.1 at_minute in
    let tests = and_parts (is_empty m.1) ((nat_le h.0 13 && nat_le m.0 59) || (nat_eq h.0 14 && nat_eq m.0 0)) (cond_some _ (60 * h.0 + m.0) minutes last).0 in
    let none : m.1 ≡ [] = empty_only m.1 tests.0 in
    record {
      sign = sign;
      hour = hour.0;
      minute = minute.0;
      hours = h.0;
      minutes = m.0;
      written = hour.1 ∙ ap (λ t. sign ∷ (hour.0 ++ t)) (minute.1 ∙ ap (λ t. 58 ∷ (minute.0 ++ t)) none ∙ ap (λ t. 58 ∷ t) (append-nil minute.0));
      signed = signed;
      is_hour = hour.2;
      is_minute = minute.2;
      limit = limit_from h.0 m.0 tests.1;
    }

zone_to : (sign h m : ℕ) (hour minute : List ℕ) → IsTwo h hour → IsTwo m minute → InLimit h m → zone sign (sign ∷ (hour ++ 58 ∷ minute)) ≡ Some (60 * h + m)
unfolding zone
zone_to sign h m hour minute is_hour is_minute limit =
    let from_hour : Option (ℕ × List ℕ) → Option ℕ = λ o. (o >>= λ h. field 58 h.1 >>= λ m. cond (is_empty m.1 && ((nat_le h.0 13 && nat_le m.0 59) || (nat_eq h.0 14 && nat_eq m.0 0))) (Some (60 * h.0 + m.0)) None) in
    let from_minute : Option (ℕ × List ℕ) → Option ℕ = λ o. (o >>= λ m. cond (is_empty m.1 && ((nat_le h 13 && nat_le m.0 59) || (nat_eq h 14 && nat_eq m.0 0))) (Some (60 * h + m.0)) None) in
    ap from_hour (field_to sign h hour (58 ∷ minute) is_hour)
    ∙ ap (λ t. from_minute (field 58 (58 ∷ t))) (sym (append-nil minute))
    ∙ ap from_minute (field_to 58 m minute [] is_minute)
    ∙ cond-true ((nat_le h 13 && nat_le m 59) || (nat_eq h 14 && nat_eq m 0)) (Some (60 * h + m)) None (limit_to h m limit)

-- what a zone is read as
signed_from : (text : List ℕ) (east west : Option ℕ) (from : Offset) → zone 43 text ≡ east → zone 45 text ≡ west → zone_offset east west ≡ Some from → IsOffset text
signed_from text (Some minutes) west from e f h = zone_from 43 text minutes (inl refl) e
signed_from text None (Some minutes) from e f h = zone_from 45 text minutes (inr refl) f
signed_from text None None from e f h = cc

zone_case : (text : List ℕ) (from : Offset) (empty z : Bool) → is_empty text ≡ empty → bytes_eq text (codes "Z") ≡ z
    → cond empty (Some offsets.Absent) (cond z (Some (offsets.East 0)) (zone_offset (zone 43 text) (zone 45 text))) ≡ Some from → IsZone text
zone_case text from true z e f h = inl (empty_only text e)
zone_case text from false true e f h = inr (inl ((bytes_eq-Decides text (codes "Z")).0 f))
zone_case text from false false e f h = inr (inr (signed_from text (zone 43 text) (zone 45 text) from refl refl h))

pub offset_from : (text : List ℕ) (from : Offset) → offset text ≡ Some from → IsZone text
unfolding offset
offset_from text from h = zone_case text from (is_empty text) (bytes_eq text (codes "Z")) refl refl h

-- of a sign and more no other reading is left
either_sign : (east west : Option ℕ) (minutes : ℕ) → (east ≡ Some minutes) ⊎ (west ≡ Some minutes) → (from : Offset) × (zone_offset east west ≡ Some from)
either_sign (Some n) west minutes h = (offsets.East n, refl)
either_sign None (Some n) minutes h = (offsets.West n, refl)
either_sign None None minutes (inl h) = cc
either_sign None None minutes (inr h) = cc

offset_case : (east west : Option ℕ) (minutes : ℕ) (empty z : Bool) → (east ≡ Some minutes) ⊎ (west ≡ Some minutes)
    → (from : Offset) × (cond empty (Some offsets.Absent) (cond z (Some (offsets.East 0)) (zone_offset east west)) ≡ Some from)
offset_case east west minutes true z h = (offsets.Absent, refl)
offset_case east west minutes false true h = (offsets.East 0, refl)
offset_case east west minutes false false h = either_sign east west minutes h

reads_sign : (text : List ℕ) (h : IsOffset text) → (zone 43 text ≡ Some (60 * h.hours + h.minutes)) ⊎ (zone 45 text ≡ Some (60 * h.hours + h.minutes))
reads_sign text h =
    let read : zone h.sign text ≡ Some (60 * h.hours + h.minutes) = ap (zone h.sign) h.written ∙ zone_to h.sign h.hours h.minutes h.hour h.minute h.is_hour h.is_minute h.limit in
    elim h.signed [ inl e ↦ inl (ap (λ s. zone s text) (sym e) ∙ read) | inr e ↦ inr (ap (λ s. zone s text) (sym e) ∙ read) ]

pub offset_to : (text : List ℕ) → IsZone text → (from : Offset) × (offset text ≡ Some from)
unfolding offset
offset_to text (inl e) = (offsets.Absent, ap offset e)
offset_to text (inr (inl e)) = (offsets.East 0, ap offset e)
offset_to text (inr (inr h)) = offset_case (zone 43 text) (zone 45 text) (60 * h.hours + h.minutes) (is_empty text) (bytes_eq text (codes "Z")) (reads_sign text h)

-- a zone begins with neither a point nor a digit
pub zone_ends_time : (text : List ℕ) → IsZone text → EndsTime text
zone_ends_time text (inl e) = subst EndsTime (sym e) tt
zone_ends_time text (inr (inl e)) = subst EndsTime (sym e) (refl, refl)
zone_ends_time text (inr (inr h)) = subst EndsTime (sym h.written) (elim h.signed [
  | inl e ↦ (ap (λ s. nat_eq s 46) e, ap is_ascii_digit e)
  | inr e ↦ (ap (λ s. nat_eq s 46) e, ap is_ascii_digit e)
])
