use Rattle.component_rows.proofs.Answering.{never_falls, absent}
use Rattle.component_rows.proofs.answered.is_among.Goals as goal

pub returns-in-Err : goal.returns-in-Err
returns-in-Err c = (
  λ h. cc h,
  λ k. absurd (absent c.args.number c.args.numbers.now c.in-Err.field-0 (c.in-Err.ensures.position (never_falls c.args.number c.args.numbers.now c.requires)) k),
)
