use Rattle.std.proofs.Common.{ℕ, List, refl, subst}
use Rattle.shape_model.specs.TermTests.{HasTag}
use Rattle.plain_values.proofs.Languages.{no_tag, one_tag, tag_found}
use Rattle.plain_components.proofs.pairs.has_tag.Goals as goal

pub returns-in-Some : goal.returns-in-Some
returns-in-Some c =
    let has = tag_found c.args.term.now _ c.in-Some.tag.now c.in-Some.ensures refl in (
      λ t. subst (λ (tag : List ℕ). HasTag tag c.args.term.now) (c.is_same_text.ensures.0 t) has,
      λ h. c.is_same_text.ensures.1 (one_tag c.args.term.now c.in-Some.tag.now c.args.wanted.now has h),
    )

pub returns-in-None : goal.returns-in-None
returns-in-None c = (λ t. cc, λ h. absurd (no_tag c.args.term.now c.in-None.ensures c.args.wanted.now h))
