use Rattle.std.proofs.Common.{ℕ, List, subst}
use Rattle.std.specs.List.{Contains}
use Rattle.std.specs.Ordering.{nat_cmp}
use Rattle.collections.specs.Listings.{IsListing}
use Rattle.path_eval.specs.Relations.{IsFollowed, Repeated}
use Rattle.path_eval.specs.NumberedWalks.{Reaches}
use Rattle.path_eval.specs.NumberedLooks.{AtRepeated, Reads}
use Rattle.path_eval.proofs.Repeating.{followed_again}
use Rattle.path_eval.proofs.walk.repeated.Goals as goal

pub returns-clause-followed : goal.returns-clause-followed
returns-clause-followed g c =
    let ids = g.R.Triples.triples c.args.graph.now in
    let R = Reaches ids c.args.reversed c.args.path.now in
    let L = Reads ids c.args.reversed c.args.path.now in
    let mid = c.step.new.footprint in
    let new = c.repeated_by_walker.new.footprint in
    let further = c.in_ok-ends.ends.items in
    let ends = c.in_ok-sorted_once.field-0.items in
    followed_again R L c.args.starts.now c.args.footprint.now mid new c.in_ok-once.once.items further ends c.in_ok-once.ensures.followed
    (subst (λ (l : List ℕ). IsFollowed l (Repeated R) (AtRepeated R L) mid new further) c.deref.ensures.value c.in_ok-ends.ensures.followed)
    (subst (λ (l : List ℕ). IsListing nat_cmp (Contains l) ends) c.in_ok-extend_from_slice.ensures.items c.in_ok-sorted_once.ensures)
