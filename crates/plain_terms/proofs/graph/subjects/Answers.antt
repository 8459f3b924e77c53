use Rattle.std.specs.List.{filter_map}
use Rattle.plain_terms.specs.Finds.{HasSome, subject_in}
use Rattle.plain_terms.proofs.Finding.{subjects_are}
use Rattle.plain_terms.proofs.FoundItems.{finds_at}
use Rattle.plain_terms.proofs.graph.subjects.Goals as goal

pub returns : goal.returns
returns c =
    let p = c.args.predicate.now in
    finds_at (HasSome c.args.graph.now p) (filter_map (subject_in p) c.args.graph.now) c.in_ok-found.found c.in_ok-found.ensures (subjects_are c.args.graph.now p)
