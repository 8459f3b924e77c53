use Rattle.std.proofs.Common.{sym, arith}
use Rattle.std.proofs.lemmas.Bool.{eqb-true, eqb-false}
use Rattle.iri_ref.proofs.Prefixes.{begins-without, after-end, after-slash, after-other}
use Rattle.iri_ref.proofs.dot_segments.after_segment.Goals as goal

pub returns-in_err-rest : goal.returns-in_err-rest
returns-in_err-rest c = rw c.from_residual.ensures (begins-without c.args.input.now c.args.segment.now c.in_err-rest.ensures.cases)

pub returns-then-is_empty : goal.returns-then-is_empty
returns-then-is_empty c = after-end c.args.input.now c.args.segment.now c.in_ok-rest.rest.now c.in_ok-rest.ensures.cases (eqb-true _ 0 (sym c.if-is_empty.ensures))

pub returns-then-starts_with : goal.returns-then-starts_with
returns-then-starts_with c =
    after-slash c.args.input.now c.args.segment.now c.in_ok-rest.rest.now c.in_ok-rest.ensures.cases (eqb-false _ 0 (sym c.if-is_empty.ensures))
    (eqb-true _ 47 (sym (c.if-starts_with.ensures.byte (omega arith) (omega arith) (λ w o h. h))))

pub returns-else-starts_with : goal.returns-else-starts_with
returns-else-starts_with c =
    after-other c.args.input.now c.args.segment.now c.in_ok-rest.rest.now c.in_ok-rest.ensures.cases (eqb-false _ 0 (sym c.if-is_empty.ensures))
    (eqb-false _ 47 (sym (c.if-starts_with.ensures.byte (omega arith) (omega arith) (λ w o h. h))))
