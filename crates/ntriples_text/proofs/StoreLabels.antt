-- Labels of the store's blank nodes, and the numbers in them.
use Rattle.std.proofs.Common.{◌≡◌, ◌∙◌, ℕ, ◌<◌, ◌≤◌, ◌^◌, true, false, cond, List, [], ◌∷◌, length, get_or, Option, Some, None, Result, Ok, Err, refl, sym, ap, subst, eqb, arith}
use Rattle.std.specs.Prelude.{◌&&◌, ◌≢◌, nat_lt, nat_le, bytes_eq, MatchResult}
use Rattle.std.specs.List.{position_or_len, before_first, after_first}
use Rattle.std.specs.Fmt.{decimal}
use Rattle.std.specs.Str.Parse.{AllDigits, digits_value, ParsesUnsigned}
use Rattle.std.proofs.lemmas.Bool.{and_parts, and_from, false_from_ne_true}
use Rattle.std.proofs.lemmas.Bool.Decides.{nat_tests}
use Rattle.std.proofs.lemmas.Fmt.{decimal_digit, decimal_is_IsNumeral, first_decimal, parse-decimal, decimal-digits_value}
use Rattle.std.proofs.Math.ListN.{drop_of_length-le}
use Rattle.std.proofs.lemmas.Slice.Eq.{bytes_eq-Decides}
use Rattle.std.proofs.lemmas.Str.Parse.{IsNumeralModel, parse_plain}
use Rattle.ntriples_text.specs.StoreLabels.{number_within, node_of_numbers, node_behind_s, stored_node}

-- a text that isn't a number from 1 to the highest
pub no_number : (highest : ℕ) (text : List ℕ) → ((n : ℕ) → text ≡ decimal n → 1 ≤ n → n ≤ highest → ⊥) → number_within highest text ≡ None
no_number highest text never =
    let n = digits_value 10 text in
    ap (λ b. cond b (Some n) None) (false_from_ne_true (bytes_eq text (decimal n) && nat_lt 0 n && nat_le n highest) (λ e.
    let p = and_parts (bytes_eq text (decimal n) && nat_lt 0 n) (nat_le n highest) e in
    let q = and_parts (bytes_eq text (decimal n)) (nat_lt 0 n) p.0 in
    let some : 1 ≤ n = grind (arith, nat_tests, q.1) in
    let most : n ≤ highest = grind (arith, nat_tests, p.1) in
    never n ((bytes_eq-Decides text (decimal n)).0 q.0) some most))

pub a_number : (highest n : ℕ) (text : List ℕ) → n < 2 ^ 64 → text ≡ decimal n → 1 ≤ n → n ≤ highest → number_within highest text ≡ Some n
a_number highest n text small is some most =
    let value : digits_value 10 text ≡ n = ap (digits_value 10) is ∙ (decimal_is_IsNumeral n small).1 in
    let lt : nat_lt 0 n ≡ true = grind (arith, nat_tests) in
    let le : nat_le n highest ≡ true = grind (arith, nat_tests) in
    let all : (bytes_eq text (decimal n) && nat_lt 0 n && nat_le n highest) ≡ true =
    and_from (bytes_eq text (decimal n) && nat_lt 0 n) (nat_le n highest) (and_from (bytes_eq text (decimal n)) (nat_lt 0 n) ((bytes_eq-Decides text (decimal n)).1 is) lt) le in
    ap (λ m. cond (bytes_eq text (decimal m) && nat_lt 0 m && nat_le m highest) (Some m) None) value ∙ ap (λ b. cond b (Some n) None) all

-- a number from 1 on begins with a digit above zero
pub begins_above : (n : ℕ) (text : List ℕ) → n < 2 ^ 64 → text ≡ decimal n → 1 ≤ n → 48 < get_or text 0 0
begins_above n text small is some = subst (λ (t : List ℕ). 48 < get_or t 0 0) (sym is) (first_decimal n some small)

own : IsNumeralModel (AllDigits 10) (digits_value 10)
own = record { to = λ ds p. p; from = λ ds p. p; same = λ ds p. refl }

-- what parsing gives for a text that begins above zero
parsed : {E : Type 0} (text : List ℕ) (r : Result ℕ E) → ParsesUnsigned 32 10 text r → 48 < get_or text 0 0 → MatchResult r (λ n. (n < 2 ^ 32) × (text ≡ decimal n) × (1 ≤ n)) (λ e. (n : ℕ) → n < 2 ^ 32 → text ≡ decimal n → ⊥)
parsed {E} text (Ok n) h above =
    let plus : get_or text 0 0 ≢ 43 = λ e. absurd (omega (arith, e, above)) in
    let p : ((AllDigits 10 text × (0 < length text)) × (digits_value 10 text < 2 ^ 32)) × (n ≡ digits_value 10 text) =
    let q = parse_plain own {E = E} 32 text (Ok n) h plus in (((q.0.0, q.0.1), q.0.2), q.1) in
    let v = digits_value 10 text in
    let lead : get_or text 0 0 ≡ 48 → length text ≡ 1 = λ e. absurd (omega (arith, e, above)) in
    let whole : decimal v ≡ text = decimal-digits_value own text p.0.0.0 p.0.0.1 lead (omega (arith, p.0.1)) in
    let same : n ≡ v = p.1 in
    let some : n ≢ 0 = λ z. let e : get_or text 0 0 ≡ 48 = ap (λ t. get_or t 0 0) (sym whole ∙ ap decimal (sym same ∙ z) ∙ decimal_digit 0 (omega arith)) in absurd (omega (arith, e, above)) in
    (omega (arith, same, p.0.1), sym whole ∙ ap decimal (sym same), omega (arith, some))
parsed {E} text (Err e) h above = λ n small is. let r = parse-decimal 32 n text (Err e) small (omega (arith, small)) is h in cc

pub parsed_within : {E : Type 0} (highest n : ℕ) (text : List ℕ) (r : Result ℕ E) → ParsesUnsigned 32 10 text r → 48 < get_or text 0 0 → r ≡ Ok n → n ≤ highest → number_within highest text ≡ Some n
parsed_within {E} highest n text r h above is most =
    let p = parsed {E = E} text (Ok n) (subst (ParsesUnsigned 32 10 text) is h) above in
    a_number highest n text (omega (arith, p.0)) p.1 p.2 most

pub parsed_above : {E : Type 0} (highest n : ℕ) (text : List ℕ) (r : Result ℕ E) → ParsesUnsigned 32 10 text r → 48 < get_or text 0 0 → r ≡ Ok n → highest < 2 ^ 32 → highest < n → number_within highest text ≡ None
parsed_above {E} highest n text r h above is small more =
    let p = parsed {E = E} text (Ok n) (subst (ParsesUnsigned 32 10 text) is h) above in
    no_number highest text (λ m e some most.
    let other = parse-decimal 32 m text r (omega (arith, most, small)) (omega (arith, most, small)) e h in
    let same : Ok m ≡ Ok n = sym other ∙ is in
    let eq : m ≡ n = cc in
    omega (arith, eq, most, more))

pub not_parsed : {E : Type 0} (highest : ℕ) (text : List ℕ) (r : Result ℕ E) (e : E) → ParsesUnsigned 32 10 text r → 48 < get_or text 0 0 → r ≡ Err e → highest < 2 ^ 32 → number_within highest text ≡ None
not_parsed {E} highest text r e h above is small =
    let p = parsed {E = E} text (Err e) (subst (ParsesUnsigned 32 10 text) is h) above in
    no_number highest text (λ m eq some most. p m (omega (arith, most, small)) eq)

-- a text that begins otherwise is none
pub begins_otherwise : (highest : ℕ) (text : List ℕ) → highest < 2 ^ 32 → nat_lt 48 (get_or text 0 0) ≡ false → number_within highest text ≡ None
begins_otherwise highest text small below = no_number highest text (λ m e some most.
    let above = begins_above m text (omega (arith, most, small)) e some in
    let is_above : nat_lt 48 (get_or text 0 0) ≡ true = grind (arith, nat_tests, above) in
    cc (is_above, below))

no_second : (a : Option ℕ) → node_of_numbers a None ≡ None
no_second None = refl
no_second (Some n) = refl

nothing : number_within 4294967295 [] ≡ None
nothing = begins_otherwise 4294967295 [] (omega arith) refl

-- a label without `x`
pub without_x : (text : List ℕ) → position_or_len (λ c. eqb c 120) text ≡ length text → node_behind_s text ≡ None
without_x text past =
    let rest : after_first (λ c. eqb c 120) text ≡ [] = drop_of_length-le text (omega (arith, past)) in
    ap (λ t. node_of_numbers (number_within 64 (before_first (λ c. eqb c 120) text)) (number_within 4294967295 t)) rest
    ∙ (ap (node_of_numbers (number_within 64 (before_first (λ c. eqb c 120) text))) nothing ∙ no_second _)

other_first : (c : ℕ) (cs : List ℕ) → ((rest : List ℕ) → c ∷ cs ≢ 115 ∷ rest) → eqb c 115 ≡ false
other_first c cs never = false_from_ne_true (eqb c 115) (λ e. let is : c ≡ 115 = grind (arith, nat_tests, e) in never cs (ap (λ x. x ∷ cs) is))

-- a label that doesn't begin with `s`
pub without_s : (label : List ℕ) → ((rest : List ℕ) → label ≢ 115 ∷ rest) → stored_node label ≡ None
without_s [] never = refl
without_s (c ∷ cs) never = ap (λ b. cond b (node_behind_s cs) None) (other_first c cs never)
