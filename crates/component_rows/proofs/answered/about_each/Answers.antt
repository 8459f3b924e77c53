use Rattle.std.proofs.Common.{◌≡◌, get_or}
use Rattle.std.proofs.lemmas.List.Elements.{Contains-get_or}
use Rattle.rdf_model.specs.Numbers.{term_at}
use Rattle.shape_model.specs.Components.{found_at}
use Rattle.component_rows.specs.Sites.{site_row}
use Rattle.component_rows.proofs.Collecting.{FromSome, lists_sorted, loop_more, loop_all, without_test}
use Rattle.component_rows.proofs.answered.about_each.Goals as goal

pub add_refused-requires : goal.add_refused-requires
add_refused-requires g c =
    c.requires (get_or c.args.nodes.now c.loop-node.node-index 0) (Contains-get_or c.args.nodes.now c.loop-node.node-index 0 c.loop-node-test.true)

pub loop-node-preserved : goal.loop-node-preserved
loop-node-preserved g c =
    let s = c.args.site.now in
    loop_more (λ n r. r ≡ site_row c.args.component s (found_at (term_at s.terms n)))
    c.args.nodes.now c.loop-node.node-index 0 c.loop-node.rows.items c.add_refused.new.rows.items c.loop-node-test.true c.loop-node.invariant
    (without_test (site_row c.args.component s (found_at (term_at s.terms (get_or c.args.nodes.now c.loop-node.node-index 0))))
    c.loop-node.rows.items c.add_refused.new.rows.items c.in_ok-add_refused.ensures)

pub returns : goal.returns
returns g c =
    let s = c.args.site.now in
    lists_sorted (FromSome c.args.nodes.now (λ n r. r ≡ site_row c.args.component s (found_at (term_at s.terms n)))) c.loop-node.rows.items c.in_ok-sorted_once.field-0.items
    (loop_all (λ n r. r ≡ site_row c.args.component s (found_at (term_at s.terms n)))
    c.args.nodes.now c.loop-node.node-index c.loop-node.rows.items c.loop-node-test.false c.loop-node.invariant)
    c.in_ok-sorted_once.ensures
