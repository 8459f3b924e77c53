use Rattle.std.proofs.Common.{List, map, sym, subst}
use Rattle.std.specs.Prelude.{◌↔◌}
use Rattle.std.specs.List.{Contains}
use Rattle.change_laws.proofs.Checked.{mapped_to}
use Rattle.shape_plans.specs.declared.planned.PlannedShapes.{PlannedShapes}
use Rattle.parallel_validate.specs.PairsResults.{ArePlacedPairs, pair_of}
use Rattle.kept_rows.specs.declared.pair_rows.PairRows.{PairRows}
use Rattle.data_graph.specs.Changes.{IsCheckByNumber, WhereIndexed}
use Rattle.data_graph.specs.Pairs.{numbered}
use Rattle.data_graph.proofs.Checking.{changed_check, changed_count}
use Rattle.std.proofs.Crossing.{crosses}
use denote.Param.Send.{sendable}
use Rattle.data_graph.proofs.Crossing.{names_sync, by_hash_sync, keys_sync}
use Rattle.data_graph.proofs.changes.check_by_number.Goals as goal

pub check_by_threads-requires-clause-planned : goal.check_by_threads-requires-clause-planned
check_by_threads-requires-clause-planned g c κs within = rw c.planned-planned.ensures c.requires.shapes.planned

pub numbered_pairs-requires : goal.numbered_pairs-requires
numbered_pairs-requires g c = λ k i. (c.in_ok-checked.ensures.placed (pair_of k) (mapped_to pair_of c.in_ok-checked.checked.pairs k i)).0

pub returns-clause-checked : goal.returns-clause-checked
returns-clause-checked g c =
    let terms = c.args.names.now.terms in
    let b = c.args.shapes.now in
    let shapes = b.planned.bound.shapes in
    let pairs = c.in_ok-checked.checked.pairs in
    let looked = c.in_ok-checked.checked.looks in
    let made = c.in_ok-numbered.numbered.items in
    let same = subst (λ (p : PlannedShapes). (q : PairRows) → Contains (map (numbered p.bound.shapes) pairs) q ↔ Contains made q) c.planned-planned.ensures c.in_ok-numbered.ensures in
    let placed = subst (λ (p : PlannedShapes). ArePlacedPairs terms p.bound.shapes (map pair_of pairs)) c.planned-planned.ensures c.in_ok-checked.ensures.placed in
    λ net numbers. subst (λ (ps : List PairRows). WhereIndexed terms c.args.before.now (g.S.Triples.triples c.args.later.now) net (λ g. IsCheckByNumber terms g b.graph net ps looked)) (sym c.from_vec.ensures)
    (changed_check terms shapes c.args.before.now (g.S.Triples.triples c.args.later.now) c.args.changed.now b.graph net
    c.requires.shapes.stand c.requires.shapes.acyclic c.requires.shapes.shallow numbers pairs made looked same c.requires.shapes.planned.bound placed (rw c.planned-planned.ensures at c.in_ok-checked.ensures.checked) (rw c.planned-planned.ensures at c.in_ok-checked.ensures.looks)
    (rw c.planned-planned.ensures at c.in_ok-checked.ensures.bound))

pub returns-clause-steps : goal.returns-clause-steps
returns-clause-steps g c =
    let terms = c.args.names.now.terms in
    let b = c.args.shapes.now in
    λ net numbers. changed_count terms b.planned.bound.shapes c.args.before.now (g.S.Triples.triples c.args.later.now) c.args.changed.now b.graph net
    c.requires.shapes.stand c.requires.shapes.acyclic c.requires.shapes.shallow numbers c.args.steps.now c.check_by_threads.new.steps (rw c.planned-planned.ensures at c.in_ok-checked.ensures.steps)

pub check_by_threads-requires-sync-R : goal.check_by_threads-requires-sync-R
check_by_threads-requires-sync-R g c κs within = search (keys_sync, crosses, sendable) depth 60 fits 20000

pub check_by_threads-requires-sync-N : goal.check_by_threads-requires-sync-N
check_by_threads-requires-sync-N g c κs within = search (names_sync, by_hash_sync, crosses, sendable) depth 60 fits 20000
