use Rattle.std.proofs.Common.{◌∙◌, List, ap, subst, sym}
use Rattle.std.specs.List.{All, AllZip}
use Rattle.rayon.specs.Lists.{vec_items}
use Rattle.threaded_listing.proofs.Gathering.{each_given, when_ok}
use Rattle.threaded_check.specs.Findings.{IsFoundOf}
use Rattle.threaded_check.specs.PermittedPairs.{AreAllowed}
use Rattle.threaded_check.specs.declared.pairs.Found.{Found}
use Rattle.threaded_check.specs.declared.pairs.Share.{Share}
use Rattle.threaded_check.proofs.Crossing.{chain_send, closure_send, closure_sync, held_send}
use Rattle.threaded_check.proofs.evaluating.found_in_shares.Goals as goal

pub map-requires-send-F : goal.map-requires-send-F
map-requires-send-F g c κs within = closure_send _ _ _ _ _ _ _ c.type_bounds.sync-R c.type_bounds.sync-N _

pub map-requires-sync-F : goal.map-requires-sync-F
map-requires-sync-F g c κs within = closure_sync _ _ _ _ _ _ _ c.type_bounds.sync-R c.type_bounds.sync-N _

pub collect-requires-send-Self : goal.collect-requires-send-Self
collect-requires-send-Self g c κs within = chain_send _ _ (held_send _ _ _ _ _ _ _ c.type_bounds.sync-R c.type_bounds.sync-N)

pub collect-requires-clause-ready : goal.collect-requires-clause-ready
collect-requires-clause-ready g c κs within =
    let e = c.args.evaluation.now in
    let source = ap (λ it. vec_items it.base) c.map.ensures.base ∙ (ap vec_items c.with_min_len.ensures.base ∙ c.into_par_iter.ensures) in
    let allowed = subst (λ (xs : List Share). All (λ share. AreAllowed e.terms e.ids e.shapes share.pairs.items) xs) (sym source) c.requires.shares in
    rw c.map.ensures.f (λ k d lt. (allowed k d lt, λ y p. tt))

pub returns : goal.returns
returns g c =
    let w = c.in_ok-found.ensures in
    let e = c.args.evaluation.now in
    let parts : Share → Found → Type 0 = IsFoundOf e.terms e.ids e.shapes in
    let zip = rw c.map.ensures.f at w.1.2 in
    let source = w.1.1 ∙ (ap (λ it. vec_items it.base) c.map.ensures.base ∙ (ap vec_items c.with_min_len.ensures.base ∙ c.into_par_iter.ensures)) in
    when_ok c.in_ok-found.found _ _ _ w.2 (λ v h.
    subst (λ (xs : List Share). AllZip parts xs v.items) source
    (subst (λ (ys : List Found). AllZip parts w.1.0 ys) (sym h.2)
    (each_given _ parts (λ a r k. k) w.1.0 w.0 h.0 zip h.1)))
