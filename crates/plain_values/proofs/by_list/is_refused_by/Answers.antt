use Rattle.std.proofs.Common.{not, sym, subst, IsTrue}
use Rattle.std.specs.Prelude.{◌↔◌}
use Rattle.shape_model.specs.declared.component.Component.{Component}
use Rattle.plain_values.specs.Tests.{IsRefusedBy}
use Rattle.plain_values.proofs.Made.{not_member}
use Rattle.plain_values.proofs.by_list.is_refused_by.Goals as goal

pub returns-in-In : goal.returns-in-In
returns-in-In c =
    subst (λ (k : Component). IsTrue (not c.is_among.result) ↔ IsRefusedBy k c.args.told.now c.args.members.now c.args.value.now) (sym c.in-In.is)
    (not_member c.is_among.result c.args.members.now c.args.value.now c.is_among.ensures)
