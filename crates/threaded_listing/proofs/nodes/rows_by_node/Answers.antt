use Rattle.std.proofs.Common.{◌≡◌, ◌<◌, ℕ, List, Vec, Global, length, subst, sym}
use Rattle.std.specs.List.{All, flat_map}
use Rattle.std.proofs.lemmas.Result.{IfOk-weaker}
use Rattle.threaded_listing.specs.declared.visit.NodeRows.{NodeRows}
use Rattle.threaded_listing.specs.ByNode.{HaveResults}
use Rattle.threaded_listing.specs.Shares.{nodes_of_shares}
use Rattle.threaded_listing.proofs.Gathering.{all_in_shares, have_in_shares}
use Rattle.threaded_listing.proofs.nodes.rows_by_node.Goals as goal

pub rows_at_shares-requires-clause-nodes : goal.rows_at_shares-requires-clause-nodes
rows_at_shares-requires-clause-nodes g c κs within =
    all_in_shares (λ n. n < length c.args.evaluation.now.terms) c.in_ok-shares.shares.items
    (subst (λ (ns : List ℕ). All (λ n. n < length c.args.evaluation.now.terms) ns) (sym c.in_ok-shares.ensures.nodes) c.requires.nodes)

pub returns-clause-rows : goal.returns-clause-rows
returns-clause-rows g c =
    let e = c.args.evaluation.now in
    IfOk-weaker c.joined.result (λ found. found.items ≡ flat_map (λ (list : Vec NodeRows Global). list.items) c.in_ok-lists.lists.items) (λ found. HaveResults e.terms e.ids e.shapes c.args.shape c.args.nodes.now found.items)
    (λ found h. subst (λ (ns : List ℕ). HaveResults e.terms e.ids e.shapes c.args.shape ns found.items) c.in_ok-shares.ensures.nodes
    (subst (λ (fs : List NodeRows). HaveResults e.terms e.ids e.shapes c.args.shape (nodes_of_shares c.in_ok-shares.shares.items) fs) (sym h)
    (have_in_shares e.terms e.ids e.shapes c.args.shape c.in_ok-shares.shares.items c.in_ok-lists.lists.items c.in_ok-lists.ensures)))
    c.joined.ensures
