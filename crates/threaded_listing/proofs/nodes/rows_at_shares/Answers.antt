use Rattle.std.proofs.Common.{◌∙◌, List, Vec, Global, ap, subst, sym}
use Rattle.std.specs.List.{AllZip}
use Rattle.rayon.specs.Lists.{vec_items}
use Rattle.threaded_listing.specs.declared.visit.NodeRows.{NodeRows}
use Rattle.threaded_listing.specs.declared.visit.Share.{Share}
use Rattle.threaded_listing.specs.ByNode.{HaveResults}
use Rattle.threaded_listing.specs.Shares.{nodes_of}
use Rattle.threaded_listing.proofs.Crossing.{chain_send, closure_send, closure_sync}
use Rattle.threaded_listing.proofs.Gathering.{each_given, when_ok}
use Rattle.threaded_listing.proofs.nodes.rows_at_shares.Goals as goal

pub map-requires-send-F : goal.map-requires-send-F
map-requires-send-F g c κs within = closure_send _ _ _ _ _ _ _ _ _ c.type_bounds.sync-R c.type_bounds.sync-N

pub map-requires-sync-F : goal.map-requires-sync-F
map-requires-sync-F g c κs within = closure_sync _ _ _ _ _ _ _ _ _ c.type_bounds.sync-R c.type_bounds.sync-N

pub collect-requires-send-Self : goal.collect-requires-send-Self
collect-requires-send-Self g c κs within = chain_send _ _ _ _ _ _ _ _ _ c.type_bounds.sync-R c.type_bounds.sync-N

pub returns : goal.returns
returns g c =
    let w = c.in_ok-lists.ensures in
    let e = c.args.evaluation.now in
    let lists : Share → Vec NodeRows Global → Type 0 = λ share found. HaveResults e.terms e.ids e.shapes c.args.shape (nodes_of share.visits.items) found.items in
    let zip = rw c.map.ensures.f at w.1.2 in
    let source = w.1.1 ∙ (ap (λ it. vec_items it.base) c.map.ensures.base ∙ (ap vec_items c.with_min_len.ensures.base ∙ c.into_par_iter.ensures)) in
    when_ok c.in_ok-lists.lists _ _ _ w.2 (λ v h.
    subst (λ (xs : List Share). AllZip lists xs v.items) source
    (subst (λ (ys : List (Vec NodeRows Global)). AllZip lists w.1.0 ys) (sym h.2)
    (each_given _ lists (λ a r k. k) w.1.0 w.0 h.0 zip h.1)))
