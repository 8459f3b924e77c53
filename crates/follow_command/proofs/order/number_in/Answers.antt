use Rattle.std.proofs.Common.{◌≡◌, ℕ, List, false, true, inl, inr, ap, ◌∙◌, arith, string_bytes, bytes_eq}
use Rattle.std.proofs.lemmas.Slice.Eq.{bytes_eq-Decides}
use Rattle.std.proofs.lemmas.Bool.Decides.{nat_tests}
use Rattle.follow_command.proofs.Ordering.{other_spelling, outside, unread}
use Rattle.follow_command.proofs.order.number_in.Goals.{then-number-eq0-via-then-number-eq0, then-number-eq0-via-else-number-eq0+then-number-count}
use Rattle.follow_command.proofs.order.number_in.Goals as goal

pub returns-in_default : goal.returns-in_default
returns-in_default c = unread c.args.count c.args.text.now c.ranges.count.fits c.in_default.ensures.value.0

pub returns-then-number-eq0 : goal.returns-then-number-eq0
returns-then-number-eq0 c =
    outside c.args.count c.args.text.now c.ranges.count.fits c.in-Ok.number c.in-Ok.ensures.value.0
    (elim c.then-number-eq0.branch [
      | then-number-eq0-via-then-number-eq0 w ↦ inl (grind (arith, nat_tests, w.if-number-eq0.true))
      | then-number-eq0-via-else-number-eq0+then-number-count w ↦ inr (grind (arith, nat_tests, w.if-number-count.true))
    ])

pub returns : goal.returns
returns c = other_spelling c.args.count c.args.text.now c.ranges.count.fits c.in-Ok.number (string_bytes c.in_ok-written.written) c.in-Ok.ensures.value.0 c.in_ok-written.ensures.ok
    (λ same.
    let t = (bytes_eq-Decides (string_bytes c.in_ok-written.written) c.args.text.now).1 same in
    let no : false ≡ true = c.if-eq.ensures ∙ (ap (λ (xs : List ℕ). bytes_eq xs c.args.text.now) c.as_str.ensures.value ∙ t) in cc)
