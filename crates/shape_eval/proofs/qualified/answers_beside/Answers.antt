use Rattle.std.proofs.Common.{◌∙◌, ◌++◌, ap}
use Rattle.std.specs.Prelude.{map}
use Rattle.std.proofs.lemmas.List.{map-append}
use Rattle.shape_eval.proofs.qualified.answers_beside.Goals as goal

pub returns : goal.returns
returns c =
    let first = c.in_ok-lists.ensures in
    let more = c.in_ok-more.ensures in
    ap (map (λ a. a.items)) c.in_ok-append.ensures.items ∙ map-append (λ a. a.items) c.in_ok-lists.lists.items c.in_ok-more.more.items ∙ (λ j. first j ++ more j)
