use Rattle.std.proofs.Common.{◌+◌, ◌*◌, sym, ap, ◌∙◌}
use Rattle.rdf_lexical.specs.Escapes.{scalar_of}
use Rattle.rdf_lexical.proofs.Numbers.{stays_too_large, next_digit}
use Rattle.rdf_lexical.proofs.escapes.numbered_char.Goals as goal

pub returns-then-number-gt-LARGEST : goal.returns-then-number-gt-LARGEST
returns-then-number-gt-LARGEST c =
    let n = c.loop-digit.number in
    let v = c.in_ok-number.field-0 in
    let step = sym c.loop-digit.invariant.number ∙ next_digit c.loop-digit.left c.in-Some.after n c.in-Some.digit v c.in-Some.ensures c.in_ok-number.ensures in
    sym (ap scalar_of step ∙ stays_too_large c.in-Some.after (16 * n + v) c.if-number-gt-LARGEST.true)
