use Rattle.std.proofs.Common.{◌∙◌, ◌≤◌, List, ◌∷◌, [], ◌++◌, length, slice_get, ap, arith}
use Rattle.std.proofs.lemmas.List.{take_all}
use Rattle.collections.proofs.Kept.{always_on_err}
use Rattle.string_constraints.specs.Matches.{Searched}
use Rattle.string_constraints.proofs.Kept.{last_of}
use Rattle.string_constraints.proofs.matchers.Matchers.keep.Goals as goal

pub returns-in_err-push-clause-same : goal.returns-in_err-push-clause-same
returns-in_err-push-clause-same c =
    let old = c.args.self.now.kept in
    let few : length old.items ≤ 63 = omega (arith, old.ok.0, old.ok.1, c.truncate.ensures.len, c.truncate.ensures.capacity, c.in_err-push.ensures.full) in
    always_on_err c.from_residual.result (c.in_err-push.ensures.items ∙ c.truncate.ensures.items ∙ take_all 63 old.items few)

pub returns-clause-place : goal.returns-clause-place
returns-clause-place c =
    let kept = c.truncate.new.self in
    ap (λ (items : List Searched). slice_get items c.len-place.result) c.in_ok-push.ensures.items
    ∙ ap (λ place. slice_get (kept.items ++ c.args.matcher ∷ []) place) (c.len-place.ensures ∙ kept.ok.0)
    ∙ last_of kept.items c.args.matcher
