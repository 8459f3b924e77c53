use Rattle.std.proofs.Common.{◌<◌, List, get_or, length, subst, ◌≡◌}
use Rattle.triple_index.specs.declared.change.NumberedChange.{NumberedChange}
use Rattle.triple_index.specs.declared.change.NumberedChange.TheVariants.{Add, Remove}
use Rattle.data_graph.proofs.AtOnce.{not_added}
use Rattle.data_graph.proofs.at_once.all_added.Goals as goal

pub returns-in-Remove : goal.returns-in-Remove
returns-in-Remove c = λ ids e.
    let k = c.loop-change.change-index in
    not_added ids k c.in-Remove.field-0 (subst (λ (cs : List NumberedChange). k < length cs) e c.loop-change-test.true) (subst (λ (cs : List NumberedChange). get_or cs k (Add (record { subject = 0; predicate = 0; object = 0 })) ≡ Remove c.in-Remove.field-0) e c.in-Remove.is)
