use Rattle.rdf_model.specs.Numbers.{graph_of}
use Rattle.follower.specs.Records.{Fits, IsLeastMisfit}
use Rattle.follower.proofs.Misfits.{fits_in, least_in}
use Rattle.follower.proofs.version.version_after.Goals as goal

pub returns-in-Some-clause-outcome : goal.returns-in-Some-clause-outcome
returns-in-Some-clause-outcome c = λ g a x.
    let h = graph_of c.args.names.now.terms c.args.version.now.graph in
    let least : IsLeastMisfit h c.args.next.now c.in-Some.triple = rw c.in-Some.is at c.in_ok-triple.ensures in
    least_in h g c.args.next.now c.in-Some.triple x.members least

pub returns-in_ok-shapes-in-None-clause-outcome : goal.returns-in_ok-shapes-in-None-clause-outcome
returns-in_ok-shapes-in-None-clause-outcome c = λ g a x.
    let h = graph_of c.args.names.now.terms c.args.version.now.graph in
    let fits : Fits h c.args.next.now = rw c.in-None.is at c.in_ok-triple.ensures in
    (fits_in h g c.args.next.now x.members fits, (c.in_ok-graph-in-None.ensures.index g a x, c.in_ok-shapes-in-None.ensures))
