-- The limits of a call are within their bounds.
use Rattle.std.proofs.Common.{◌≡◌, ℕ, ◌≤◌, ◌&&◌, Bool, true, false, List, Option, Some, None, refl, ap, subst, arith, nat_le, bytes_eq, codes, if◌then◌else◌}
use Rattle.std.specs.Fmt.{decimal}
use Rattle.std.specs.Str.Parse.{digits_value}
use Rattle.std.proofs.lemmas.Bool.Decides.{nat_tests}
use Rattle.clap.specs.Words.{Row, Text, first_of, subcommand_of}
use Rattle.command_line.specs.CommandLine.{command_line}
use Rattle.command_line.specs.Words.{limit_of, limit_or_default, limits_of_three, limits_in, run_of, replay_of, create_log_of, follow_of, validate_of, explain_of, verify_of, names_of, generate_of, size_of_word, version_of_word, up_to, files_in, history_in, log_in, name_in, order_in, version_in, data_in, shapes_in, evidence_in, size_in, call_in, call_of}
use Rattle.command_line.specs.declared.call.Block.{Block}
use Rattle.command_line.specs.declared.call.LimitOptions.{LimitOptions}
use Rattle.command_line.specs.declared.call.Call.{Call}
use Rattle.command_line.specs.declared.call.Call.TheVariants.{Run, Replay, CreateLog, Follow, Validate, Explain, Verify, Generate}
use Rattle.command_line.proofs.Numbers.{both}

-- a test that gave something held
given : {X : Type 0} (b : Bool) (x : Option X) (y : X) → (if b then x else None) ≡ Some y → (b ≡ true) × (x ≡ Some y)
given true x y e = (refl, e)
given false x y e = cc

limit_bound : (text : List ℕ) (n : ℕ) → limit_of text ≡ Some n → n ≤ 2000000
limit_bound text n e =
    let v = digits_value 10 text in
    let g = given (bytes_eq text (decimal v) && nat_le 1 v && nat_le v 2000000) (Some v) n e in
    let most = (both (bytes_eq text (decimal v) && nat_le 1 v) (nat_le v 2000000) g.0).1 in
    let same : v ≡ n = let s = g.1 in cc in
    grind (arith, nat_tests, most, same)

default_bound : (o : Option (List ℕ)) (n : ℕ) → limit_or_default o ≡ Some n → n ≤ 2000000
default_bound None n e = let same : 1000000 ≡ n = cc in omega (arith, same)
default_bound (Some text) n e = limit_bound text n e

terms_of_three : (a b : Option ℕ) (c : Option Block) (l : LimitOptions) → limits_of_three a b c ≡ Some l → a ≡ Some l.terms
terms_of_three (Some t) (Some u) (Some m) l e = let same : record { terms = t; triples = u; block = m } ≡ l = cc in ap (λ (x : LimitOptions). Some x.terms) same
terms_of_three (Some t) (Some u) None l e = cc
terms_of_three (Some t) None c l e = cc
terms_of_three None b c l e = cc

rows_bound : (rows : List Row) (l : LimitOptions) → limits_in rows ≡ Some l → l.terms ≤ 2000000
rows_bound rows l e = default_bound _ l.terms (terms_of_three _ _ _ l e)

-- The size of a load is within its bounds.

limit_some : (text : List ℕ) (n : ℕ) → limit_of text ≡ Some n → 1 ≤ n
limit_some text n e =
    let v = digits_value 10 text in
    let g = given (bytes_eq text (decimal v) && nat_le 1 v && nat_le v 2000000) (Some v) n e in
    let least = (both (bytes_eq text (decimal v)) (nat_le 1 v) (both (bytes_eq text (decimal v) && nat_le 1 v) (nat_le v 2000000) g.0).0).1 in
    let same : v ≡ n = let s = g.1 in cc in
    grind (arith, nat_tests, least, same)

within : (most : ℕ) (o : Option ℕ) (n : ℕ) → up_to most o ≡ Some n → (o ≡ Some n) × (n ≤ most)
within most None n e = cc
within most (Some m) n e =
    let g = given (nat_le m most) (Some m) n e in
    let same : m ≡ n = let s = g.1 in cc in
    (g.1, grind (arith, nat_tests, g.0, same))

size_bound : (o : Option (List ℕ)) (n : ℕ) → size_of_word o ≡ Some n → (1 ≤ n) × (n ≤ 100000)
size_bound None n e = cc
size_bound (Some text) n e = let w = within 100000 (limit_of text) n e in (limit_some text n w.0, w.1)

-- and so is the number of a version
version_bound : (o : Option (List ℕ)) (n : ℕ) → version_of_word o ≡ Some n → n ≤ 1000000
version_bound None n e = cc
version_bound (Some text) n e = bound (bytes_eq text (codes "0")) e
  where
    bound : (b : Bool) → (if b then Some 0 else up_to 1000000 (limit_of text)) ≡ Some n → n ≤ 1000000
    bound true e = let same : 0 ≡ n = cc in omega (arith, same)
    bound false e = (within 1000000 (limit_of text) n e).1

-- what each call keeps
abbrev IsBounded : Call → Type 0
IsBounded (Run l log fs) = l.terms ≤ 2000000
IsBounded (Replay l h fs) = l.terms ≤ 2000000
IsBounded (CreateLog name) = Unit {0}
IsBounded (Follow log order version) = version ≤ 1000000
IsBounded (Validate graph shapes) = Unit {0}
IsBounded (Explain graph shapes) = Unit {0}
IsBounded (Verify graph shapes evidence) = Unit {0}
IsBounded (Generate n) = (1 ≤ n) × (n ≤ 100000)

abbrev Bounded : Option Call → Type 0
Bounded None = Unit {0}
Bounded (Some c) = IsBounded c

run_bounded : (o : Option LimitOptions) (log : Option (List ℕ)) (f : Option (List (List ℕ))) → ((l : LimitOptions) → o ≡ Some l → l.terms ≤ 2000000) → Bounded (run_of o log f)
run_bounded (Some l) log (Some fs) h = h l refl
run_bounded (Some l) log None h = tt
run_bounded None log f h = tt

replay_bounded : (o : Option LimitOptions) (n : Option (List ℕ)) (f : Option (List (List ℕ))) → ((l : LimitOptions) → o ≡ Some l → l.terms ≤ 2000000) → Bounded (replay_of o n f)
replay_bounded (Some l) (Some n) (Some fs) h = h l refl
replay_bounded (Some l) (Some n) None h = tt
replay_bounded (Some l) None f h = tt
replay_bounded None n f h = tt

create_log_bounded : (o : Option (List ℕ)) → Bounded (create_log_of o)
create_log_bounded None = tt
create_log_bounded (Some name) = tt

follow_bounded : (l o : Option (List ℕ)) (v : Option ℕ) → ((n : ℕ) → v ≡ Some n → n ≤ 1000000) → Bounded (follow_of l o v)
follow_bounded (Some l) (Some o) (Some n) h = h n refl
follow_bounded (Some l) (Some o) None h = tt
follow_bounded (Some l) None v h = tt
follow_bounded None o v h = tt

validate_bounded : (o : Option (List ℕ × List ℕ)) → Bounded (validate_of o)
validate_bounded None = tt
validate_bounded (Some names) = tt

explain_bounded : (o : Option (List ℕ × List ℕ)) → Bounded (explain_of o)
explain_bounded None = tt
explain_bounded (Some names) = tt

verify_bounded : (o : Option (List ℕ × List ℕ)) (v : Option (List ℕ)) → Bounded (verify_of o v)
verify_bounded o None = tt
verify_bounded None (Some v) = tt
verify_bounded (Some names) (Some v) = tt

generate_bounded : (o : Option ℕ) → ((n : ℕ) → o ≡ Some n → (1 ≤ n) × (n ≤ 100000)) → Bounded (generate_of o)
generate_bounded None h = tt
generate_bounded (Some n) h = h n refl

-- the call that the name of a subcommand chooses
abbrev chosen : List Row → Bool → Bool → Bool → Bool → Bool → Bool → Bool → Option Call
chosen rows a b c w d e f =
    if a then run_of (limits_in rows) (log_in rows) (files_in rows) else if b then replay_of (limits_in rows) (history_in rows) (files_in rows) else if c then create_log_of (name_in rows) else if w then follow_of (log_in rows) (order_in rows) (version_in rows) else if d then validate_of (names_of (data_in rows) (shapes_in rows)) else if e then explain_of (names_of (data_in rows) (shapes_in rows)) else if f then verify_of (names_of (data_in rows) (shapes_in rows)) (evidence_in rows) else generate_of (size_in rows)

chosen_bounded : (rows : List Row) (a b c w d e f : Bool) → Bounded (chosen rows a b c w d e f)
chosen_bounded rows true b c w d e f = run_bounded (limits_in rows) (log_in rows) (files_in rows) (rows_bound rows)
chosen_bounded rows false true c w d e f = replay_bounded (limits_in rows) (history_in rows) (files_in rows) (rows_bound rows)
chosen_bounded rows false false true w d e f = create_log_bounded (name_in rows)
chosen_bounded rows false false false true d e f = follow_bounded (log_in rows) (order_in rows) (version_in rows) (version_bound (first_of (codes "number") rows))
chosen_bounded rows false false false false true e f = validate_bounded (names_of (data_in rows) (shapes_in rows))
chosen_bounded rows false false false false false true f = explain_bounded (names_of (data_in rows) (shapes_in rows))
chosen_bounded rows false false false false false false true = verify_bounded (names_of (data_in rows) (shapes_in rows)) (evidence_in rows)
chosen_bounded rows false false false false false false false = generate_bounded (size_in rows) (size_bound _)

call_in_bounded : (o : Option (Text × List Row)) → Bounded (call_in o)
call_in_bounded None = tt
call_in_bounded (Some p) = chosen_bounded p.1 (bytes_eq p.0 (codes "run")) (bytes_eq p.0 (codes "replay")) (bytes_eq p.0 (codes "create-log")) (bytes_eq p.0 (codes "follow")) (bytes_eq p.0 (codes "validate")) (bytes_eq p.0 (codes "explain")) (bytes_eq p.0 (codes "verify"))

bounded : (words : List Text) (c : Call) → call_of words ≡ Some c → IsBounded c
bounded words c e = subst Bounded (given _ _ _ e).1 (call_in_bounded (subcommand_of command_line words))

pub run_bound : (words : List Text) (l : LimitOptions) (log : Option (List ℕ)) (fs : List (List ℕ)) → call_of words ≡ Some (Run l log fs) → l.terms ≤ 2000000
run_bound words l log fs e = bounded words (Run l log fs) e

pub replay_bound : (words : List Text) (l : LimitOptions) (n : List ℕ) (fs : List (List ℕ)) → call_of words ≡ Some (Replay l n fs) → l.terms ≤ 2000000
replay_bound words l n fs e = bounded words (Replay l n fs) e

pub generate_bound : (words : List Text) (n : ℕ) → call_of words ≡ Some (Generate n) → (1 ≤ n) × (n ≤ 100000)
generate_bound words n e = bounded words (Generate n) e

pub follow_bound : (words : List Text) (l o : List ℕ) (v : ℕ) → call_of words ≡ Some (Follow l o v) → v ≤ 1000000
follow_bound words l o v e = bounded words (Follow l o v) e
