use Rattle.std.proofs.Common.{◌≡◌, ◌∙◌, ◌<◌, length, sym, rules}
use Rattle.rdf_model.specs.Numbers.{graph_of}
use Rattle.follower.proofs.Misfits.{least_listed, none_listed}
use Rattle.follower.proofs.misfit.least_misfit.Goals as goal

pub returns-then-is_empty : goal.returns-then-is_empty
returns-then-is_empty c =
    let empty : length c.in_ok-sorted.sorted.items ≡ 0 = search rules in
    sym c.in_ok-found.ensures ∙ none_listed c.in_ok-found.found.items c.in_ok-sorted.sorted.items c.in_ok-sorted.ensures empty

pub returns : goal.returns
returns c =
    let some : 0 < length c.in_ok-sorted.sorted.items = search rules in
    least_listed (graph_of c.args.names.now.terms c.args.graph.now) c.args.next.now c.in_ok-found.found.items c.in_ok-sorted.sorted.items c.remove.result c.in_ok-found.ensures c.in_ok-sorted.ensures some c.remove.ensures.value
