use Rattle.std.proofs.Common.{◌∙◌, sym}
use Rattle.shape_syntax.proofs.Keys.{key_from, key_to}
use Rattle.shape_rules.proofs.limits.is_in.Goals as goal

pub returns : goal.returns
returns c = (
  λ h. key_from c.args.node.now c.args.nodes.now.keys (sym c.contains.ensures ∙ h),
  λ h. c.contains.ensures ∙ key_to c.args.node.now c.args.nodes.now.keys h,
)
