use Rattle.string_constraints.proofs.Tags.{key_from, key_to}
use Rattle.std.proofs.Common.{◌∙◌, sym}
use Rattle.string_constraints.proofs.shared_tag.is_kept.Goals as goal

pub returns : goal.returns
returns c = (
  λ h. key_from c.args.tag.now c.args.tags.now.keys (sym c.contains.ensures ∙ h),
  λ h. c.contains.ensures ∙ key_to c.args.tag.now c.args.tags.now.keys h,
)
