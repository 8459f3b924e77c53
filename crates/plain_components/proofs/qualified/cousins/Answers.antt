use Rattle.plain_components.proofs.Closings.{cousins_found}
use Rattle.plain_components.proofs.qualified.cousins.Goals as goal

pub returns : goal.returns
returns c =
    cousins_found c.args.shapes.now c.args.shape.now c.in_ok-parents.parents c.as_slice.result.now c.in_ok-others.others.items c.as_slice-2.result.now c.in_ok-all.all.items c.as_slice-3.result.now c.in_ok-own.own c.in_ok-found.found
    c.in_ok-parents.ensures c.as_slice.ensures c.in_ok-others.ensures c.as_slice-2.ensures.value c.in_ok-all.ensures c.as_slice-3.ensures.value c.in_ok-own.ensures c.in_ok-found.ensures
