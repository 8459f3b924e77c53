use Rattle.std.proofs.Common.{◌∙◌, sym, subst, ap, IsTrue}
use Rattle.shape_properties.specs.declared.property.ShapeProperty.{ShapeProperty}
use Rattle.shape_properties.specs.Params.{is_param}
use Rattle.shape_properties.specs.Table.{role}
use Rattle.shape_properties.proofs.Names.{one_property}
use Rattle.shape_properties.proofs.nodes.has_param.Goals as goal

pub returns-in-Some : goal.returns-in-Some
returns-in-Some c =
    let made = c.is_param_by.ensures ∙ ap is_param c.role.ensures in (
      λ h. (c.in-Some.property, c.in-Some.ensures, sym made ∙ h),
      λ h. made ∙ subst (λ (p : ShapeProperty). IsTrue (is_param (role p))) (one_property h.0 c.in-Some.property (sym h.1 ∙ c.in-Some.ensures)) h.2,
    )
