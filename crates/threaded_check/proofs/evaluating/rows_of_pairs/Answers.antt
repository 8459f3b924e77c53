use Rattle.std.proofs.Common.{ℕ, List, [], ◌++◌, subst, sym}
use Rattle.std.specs.List.{flat_map}
use Rattle.rdf_model.specs.declared.look.Look.{Look}
use Rattle.rdf_model.specs.Numbers.{graph_of}
use Rattle.parallel_validate.specs.declared.pairs.CheckedRows.{CheckedRows}
use Rattle.parallel_validate.specs.PairsResults.{AddsLooksOfPairs, HaveRows}
use Rattle.threaded_check.specs.Findings.{AddsRowLooks, RowLook}
use Rattle.threaded_check.specs.declared.pairs.Found.{Found}
use Rattle.threaded_check.proofs.Joining.{all_looks, later_looks}
use Rattle.threaded_check.proofs.Parts.{all_found, each_share}
use Rattle.threaded_check.proofs.evaluating.rows_of_pairs.Goals as goal

pub found_in_shares-requires-clause-shares : goal.found_in_shares-requires-clause-shares
found_in_shares-requires-clause-shares g c κs within =
    let e = c.args.evaluation.now in
    each_share e.terms e.ids e.shapes c.in_ok-shares.shares.items c.in_ok-shares.ensures.permitted.allowed

pub returns-clause-rows : goal.returns-clause-rows
returns-clause-rows g c =
    let e = c.args.evaluation.now in
    let parts = c.in_ok-found.found.items in
    let all = all_found e.terms e.ids e.shapes c.in_ok-shares.shares.items parts c.in_ok-found.ensures in
    subst (λ (q : List (ℕ × ℕ) × List CheckedRows). HaveRows e.terms e.ids e.shapes q.0 q.1)
    (λ j. (c.in_ok-shares.ensures.permitted.same j, sym c.in_ok-joined.ensures.pairs j)) all.rows

pub returns-clause-looks : goal.returns-clause-looks
returns-clause-looks g c =
    let e = c.args.evaluation.now in
    let pairs = c.args.pairs.now in
    let parts = c.in_ok-found.found.items in
    let own = flat_map (λ (part : Found). part.looks) parts in
    let mid = c.shares_of.new.footprint in
    let all = all_found e.terms e.ids e.shapes c.in_ok-shares.shares.items parts c.in_ok-found.ensures in
    let found = subst (λ (es : List (ℕ × ℕ)). AddsRowLooks e.terms e.ids e.shapes es [] own) c.in_ok-shares.ensures.permitted.same all.looks in
    subst (λ (ls : List (Look ℕ)). AddsLooksOfPairs e.terms e.ids e.shapes pairs c.args.footprint.now ls) (sym c.in_ok-joined.ensures.looks)
    (all_looks e.terms e.ids e.shapes pairs c.args.footprint.now mid (mid ++ own) c.in_ok-shares.ensures.looks (later_looks (RowLook (graph_of e.terms e.ids)) e.terms e.shapes pairs mid own found))
