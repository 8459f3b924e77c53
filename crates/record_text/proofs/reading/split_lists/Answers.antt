use Rattle.std.proofs.Common.{arith}
use Rattle.record_text.proofs.Sections.{lists_split}
use Rattle.record_text.proofs.reading.split_lists.Goals as goal

pub returns-clause-sections : goal.returns-clause-sections
returns-clause-sections c r good e =
    lists_split r c.args.text.now _ c.in_ok-removed.rest.now _ c.in_ok-added.rest.now c.behind_first_line-shapes.result good e (omega (arith, c.requires))
    (omega (arith, c.in_ok-removed.ensures.size.1, c.in_ok-added.ensures.size.1)) c.in_ok-removed.ensures.lines c.in_ok-added.ensures.lines c.behind_first_line-shapes.ensures.line
