use Rattle.std.proofs.Common.{◌≡◌, ◌∙◌, ◌<◌, true, false, nat_lt, get_or, sym, arith}
use Rattle.std.proofs.lemmas.Bool.Decides.{nat_tests}
use Rattle.ntriples_text.proofs.StoreLabels.{parsed_within, not_parsed, begins_otherwise}
use Rattle.ntriples_text.proofs.store_labels.number_within.Goals as goal

pub returns-then-not-begins_above_zero : goal.returns-then-not-begins_above_zero
returns-then-not-begins_above_zero c =
    let other : nat_lt 48 (get_or c.args.text.now 0 0) ≡ false = sym (rw c.as_bytes.ensures.value at c.begins_above_zero.ensures) ∙ c.if-not-begins_above_zero.true in
    sym (begins_otherwise c.args.highest c.args.text.now (omega (arith, c.ranges.highest.fits)) other)

pub returns-then-number-highest : goal.returns-then-number-highest
returns-then-number-highest c =
    let is_above : nat_lt 48 (get_or c.args.text.now 0 0) ≡ true = sym (rw c.as_bytes.ensures.value at c.begins_above_zero.ensures) ∙ c.if-not-begins_above_zero.false in
    let above : 48 < get_or c.args.text.now 0 0 = grind (arith, nat_tests, is_above) in
    sym (parsed_within c.args.highest c.in-Ok.number c.args.text.now c.parse.result c.parse.ensures.value.0 above c.in-Ok.is c.if-number-highest.true)

pub returns-in-Err : goal.returns-in-Err
returns-in-Err c =
    let is_above : nat_lt 48 (get_or c.args.text.now 0 0) ≡ true = sym (rw c.as_bytes.ensures.value at c.begins_above_zero.ensures) ∙ c.if-not-begins_above_zero.false in
    let above : 48 < get_or c.args.text.now 0 0 = grind (arith, nat_tests, is_above) in
    sym (not_parsed c.args.highest c.args.text.now c.parse.result c.in-Err.field-0 c.parse.ensures.value.0 above c.in-Err.is (omega (arith, c.ranges.highest.fits)))
