use Rattle.std.proofs.Common.{◌∙◌, ap, sym}
use Rattle.std.specs.List.{list_all}
use Rattle.commit_core.specs.Conditions.{change_named}
use Rattle.commit_core.proofs.Conditions.{not_all_named}
use Rattle.commit_core.proofs.asking.are_changes_named.Goals as goal

pub returns-then-not-is_change_named : goal.returns-then-not-is_change_named
returns-then-not-is_change_named c =
    let named = c.args.named.now.terms in
    sym (not_all_named named c.parts.result.0.now c.parts.result.1.now c.loop-change.change-index _ c.loop-change-test.true (sym c.if-not-is_change_named.ensures)) ∙ ap (list_all (change_named named)) c.parts.ensures.changes
