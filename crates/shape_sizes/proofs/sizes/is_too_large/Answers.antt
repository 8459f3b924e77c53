use Rattle.std.proofs.Common.{◌≡◌, ◌∙◌, ◌<◌, ℕ, sym, subst}
use Rattle.std.proofs.lemmas.Bool.{lt-ltb, ltb-true}
use Rattle.shape_sizes.specs.Sizes.{size_limit}
use Rattle.shape_sizes.proofs.Weights.{none_over, over_limit}
use Rattle.shape_sizes.proofs.sizes.is_too_large.Goals as goal

pub returns-in-Some : goal.returns-in-Some
returns-in-Some c =
    let over = over_limit c.args.graph.now (λ m w. w ≡ 1) (λ n a b e f. e ∙ sym f) size_limit c.args.table.now c.requires.table c.args.node.now c.requires.node c.in-Some.total (sym c.total_of.ensures ∙ c.in-Some.is) in
    let limit : c.most.result ≡ size_limit = c.most.ensures.limit in
    let up : c.most.result < c.in-Some.total → size_limit < c.in-Some.total = subst (λ (m : ℕ). m < c.in-Some.total) limit in
    let down : size_limit < c.in-Some.total → c.most.result < c.in-Some.total = subst (λ (m : ℕ). m < c.in-Some.total) (sym limit) in (
      λ h. over.0 (up (ltb-true c.most.result c.in-Some.total h)),
      λ h. lt-ltb c.most.result c.in-Some.total (down (over.1 h)),
    )

pub returns-in-None : goal.returns-in-None
returns-in-None c = (
  λ h. cc,
  λ h. absurd (none_over c.args.graph.now (λ m w. w ≡ 1) (λ n a b e f. e ∙ sym f) size_limit c.args.table.now c.requires.table c.args.node.now c.requires.node (sym c.total_of.ensures ∙ c.in-None.is) h),
)
