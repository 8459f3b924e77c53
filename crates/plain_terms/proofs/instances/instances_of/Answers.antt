use Rattle.plain_terms.proofs.Classes.{typed_below}
use Rattle.plain_terms.proofs.instances.instances_of.Goals as goal

pub returns : goal.returns
returns c =
    typed_below c.args.graph.now c.args.class.now c.in_ok-above.above c.in_ok-typed.typed c.in_ok-above.ensures c.in_ok-typed.ensures c.in_ok-classes.classes c.as_slice.result.now c.as_slice.ensures
    c.in_ok-found.found.items c.from_vec.result c.from_vec.ensures c.in_ok-classes.ensures c.in_ok-found.ensures
