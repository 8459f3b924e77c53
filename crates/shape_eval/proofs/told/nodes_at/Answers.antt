use Rattle.std.proofs.Common.{◌∙◌, [], ◌∷◌, ◌++◌, get_or, map, take, ap, sym}
use Rattle.std.proofs.lemmas.List.{take_more, map-append}
use Rattle.shape_eval.specs.Told.{node_at}
use Rattle.shape_eval.proofs.Lookups.{node_got}
use Rattle.shape_eval.proofs.told.nodes_at.Goals as goal

pub loop-place-preserved : goal.loop-place-preserved
loop-place-preserved c =
    let places = c.args.places.now in
    let i = c.loop-place.place-index in
    let place = get_or places i 0 in
    let before = c.loop-place.invariant in
    let node = node_got c.args.shapes.now place c.index-shapes-place.result (c.requires i 0 c.loop-place-test.true) in
    c.in_ok-push.ensures.items ∙ (λ j. before j ++ node j ∷ [])
    ∙ sym (ap (map (node_at c.args.shapes.now)) (take_more places i 0 c.loop-place-test.true) ∙ map-append (node_at c.args.shapes.now) (take i places) (place ∷ []))
