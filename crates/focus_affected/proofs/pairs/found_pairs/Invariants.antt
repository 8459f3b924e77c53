use Rattle.std.proofs.Common.{take}
use Rattle.collections.specs.Listings.{Keeps}
use Rattle.focus_affected.specs.Finding.{FindsAtSome, WherePlans}
use Rattle.focus_affected.proofs.pairs.found_pairs.Given as goal

-- what was found by the rows so far
abbrev pub invariant-loop-place : goal.invariant-loop-place
invariant-loop-place g l = record {
  found : WherePlans (g.R.Triples.triples l.graph) l.plans l.changed (λ terms. FindsAtSome terms (g.R.Triples.triples l.graph) l.changed l.plans (take l.place-index l.places) l.pairs.items l.fn.footprint l.footprint);
  kept : Keeps l.fn.footprint l.footprint;
}
