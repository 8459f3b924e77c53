use Rattle.std.proofs.Common.{◌≡◌, ◌∙◌, ◌<◌, ℕ, sym, subst}
use Rattle.std.proofs.lemmas.Bool.{lt-ltb, ltb-true}
use Rattle.shape_model.specs.Limits.{looks_limit}
use Rattle.shape_sizes.proofs.LookWeights.{looks_over, looks_under}
use Rattle.shape_sizes.proofs.looks.has_too_many_looks.Goals as goal

pub returns-in_ok-looks-in-Some : goal.returns-in_ok-looks-in-Some
returns-in_ok-looks-in-Some c =
    let looks = c.in_ok-looks-in-Some.looks in
    let over = looks_over c.args.graph.now c.args.node.now c.args.table.now c.in-Some.total looks c.requires.table c.requires.node (sym c.total_of.ensures ∙ c.in-Some.is) c.in_ok-looks-in-Some.ensures in
    let limit : c.most_looks.result ≡ looks_limit = c.most_looks.ensures.limit in
    let up : c.most_looks.result < looks → looks_limit < looks = subst (λ (m : ℕ). m < looks) limit in
    let down : looks_limit < looks → c.most_looks.result < looks = subst (λ (m : ℕ). m < looks) (sym limit) in (
      λ h. over.0 (up (ltb-true c.most_looks.result looks h)),
      λ h. lt-ltb c.most_looks.result looks (down (over.1 h)),
    )

pub returns-in-None : goal.returns-in-None
returns-in-None c = (
  λ h. cc,
  λ h. absurd (looks_under c.args.graph.now c.args.node.now c.args.table.now c.requires.table c.requires.node (sym c.total_of.ensures ∙ c.in-None.is) h),
)
