use Rattle.std.proofs.Common.{length, take}
use Rattle.focus_affected.specs.Plans.{AreBoundRows}
use Rattle.shape_plans.proofs.Numbering.{RowsAre}
use Rattle.shape_plans.proofs.looks.number_looks.Given as goal

-- the rows so far by number
abbrev pub invariant-loop-look : goal.invariant-loop-look
invariant-loop-look g l = record {
  bound : AreBoundRows (length (g.N.Names.terms l.names)) l.numbered;
  rows : RowsAre (g.N.Names.terms l.names) l.numbered (take l.look-index l.looks);
}
