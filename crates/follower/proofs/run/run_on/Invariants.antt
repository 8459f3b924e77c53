use Rattle.std.proofs.Common.{◌≡◌, ◌+◌, List, take}
use Rattle.collections.specs.Ordered.{IsAscending}
use Rattle.rdf_model.specs.declared.triple.Triple.{Triple}
use Rattle.rdf_model.specs.Numbers.{AreNumbered}
use Rattle.rdf_model.specs.Terms.{triple_cmp}
use Rattle.follower.specs.Numbered.{IsIndexOf}
use Rattle.follower.specs.Versions.{IsRunSoFar}
use Rattle.follower.proofs.run.run_on.Given as goal

abbrev pub invariant-loop-next : goal.invariant-loop-next
invariant-loop-next l = record {
  numbered : AreNumbered l.names.terms l.current.graph;
  newest : l.newest ≡ l.fn.number + l.next-index;
  far : (g : List Triple) → IsAscending triple_cmp g → IsIndexOf l.names.terms l.fn.first.graph g → IsRunSoFar l.names.terms l.fn.number g l.fn.first (take l.next-index l.kept) l.versions l.current;
}
