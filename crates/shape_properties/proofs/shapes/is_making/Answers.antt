use Rattle.std.proofs.Common.{◌∙◌, sym, subst, ap, IsTrue}
use Rattle.shape_properties.specs.declared.property.ShapeProperty.{ShapeProperty}
use Rattle.shape_properties.specs.Table.{role}
use Rattle.shape_properties.specs.Syntax.{makes_shape}
use Rattle.shape_properties.proofs.Names.{one_property}
use Rattle.shape_properties.proofs.shapes.is_making.Goals as goal

pub returns-in-Some : goal.returns-in-Some
returns-in-Some c =
    let made = c.makes_shape_by.ensures ∙ ap makes_shape c.role.ensures in (
      λ h. (c.in-Some.property, c.in-Some.ensures, sym made ∙ h),
      λ h. made ∙ subst (λ (p : ShapeProperty). IsTrue (makes_shape (role p))) (one_property h.0 c.in-Some.property (sym h.1 ∙ c.in-Some.ensures)) h.2,
    )
