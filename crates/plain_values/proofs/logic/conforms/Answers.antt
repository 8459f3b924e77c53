use Rattle.std.proofs.Common.{◌≡◌, refl, subst, arith}
use Rattle.std.specs.List.{Contains}
use Rattle.shape_syntax.proofs.Scans.{in_all, none_more, read_in}
use Rattle.plain_values.specs.declared.site.ToldRow.{ToldRow}
use Rattle.plain_values.proofs.logic.conforms.Goals as goal

pub returns-then-is_about : goal.returns-then-is_about
returns-then-is_about c = (
  λ t. cc,
  λ none. absurd (
      let h = c.is_about.ensures.0 c.if-is_about.true in
      none c.entry-item.result.row (subst (λ (t : ToldRow). Contains c.args.told.now t) (λ i. record { shape = h.0 i; node = h.1 i; row = c.entry-item.result.row })
      (read_in c.args.told.now c.loop-entry.entry-index c.entry-item.result (omega arith) c.entry-item.is))),
)

pub loop-entry-preserved : goal.loop-entry-preserved
loop-entry-preserved c =
    none_more (λ (t : ToldRow). (t.shape ≡ c.args.shape.now) × (t.node ≡ c.args.node.now)) c.args.told.now c.loop-entry.entry-index c.entry-item.result (omega arith) c.entry-item.is c.loop-entry.invariant
    (λ h. let k = c.is_about.ensures.1 h in cc (k, c.if-is_about.false))

pub returns : goal.returns
returns c = (
  λ t r told. c.loop-entry.invariant (record { shape = c.args.shape.now; node = c.args.node.now; row = r }) (in_all c.args.told.now c.loop-entry.entry-index (omega arith) _ told) (refl, refl),
  λ none. refl,
)
