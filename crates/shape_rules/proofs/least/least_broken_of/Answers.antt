use Rattle.std.proofs.Common.{Some, None}
use Rattle.shape_rules.specs.Broken.{BreaksFirst}
use Rattle.shape_rules.specs.Steps.{IsLimitRow}
use Rattle.shape_rules.proofs.LeastRows.{least_of, limit_known, least_known}
use Rattle.shape_rules.proofs.least.least_broken_of.Goals as goal

pub returns-in-Some : goal.returns-in-Some
returns-in-Some c =
    let s = c.args.graph.now in
    least_known s c.in-Some.row (least_of (BreaksFirst s) c.in_ok-first.first (Some c.in-Some.row) (rw c.new-surveyed.ensures at c.in_ok-first.ensures) (rw c.in-Some.is at (rw c.as_slice.ensures at c.in_ok-row.ensures)))

pub returns : goal.returns
returns c =
    let s = c.args.graph.now in
    let keeps = least_of (BreaksFirst s) c.in_ok-first.first None (rw c.new-surveyed.ensures at c.in_ok-first.ensures) (rw c.in-None.is at (rw c.as_slice.ensures at c.in_ok-row.ensures)) in
    let least = least_of (IsLimitRow s) c.in_ok-past-in-None.past c.in_ok-found-in-None.found (rw c.new-surveyed.ensures at c.in_ok-past-in-None.ensures) (rw c.as_slice-in-None.ensures at c.in_ok-found-in-None.ensures) in
    limit_known s c.in_ok-found-in-None.found keeps least
