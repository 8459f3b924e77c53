use Rattle.std.specs.List.{filter_map}
use Rattle.shape_model.specs.Triples.{Has}
use Rattle.plain_terms.specs.Finds.{object_in}
use Rattle.plain_terms.proofs.Finding.{objects_are}
use Rattle.plain_terms.proofs.FoundItems.{finds_at}
use Rattle.plain_terms.proofs.graph.objects.Goals as goal

pub returns : goal.returns
returns c =
    let x = c.args.subject.now in
    let p = c.args.predicate.now in
    finds_at (Has c.args.graph.now x p) (filter_map (object_in x p) c.args.graph.now) c.in_ok-found.found c.in_ok-found.ensures (objects_are c.args.graph.now x p)
