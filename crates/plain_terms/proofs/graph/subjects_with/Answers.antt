use Rattle.std.specs.List.{filter_map}
use Rattle.rdf_model.specs.declared.term.Term.{Term}
use Rattle.shape_model.specs.Triples.{Has}
use Rattle.plain_terms.specs.Finds.{subject_with}
use Rattle.plain_terms.proofs.Finding.{owners_are}
use Rattle.plain_terms.proofs.FoundItems.{finds_at}
use Rattle.plain_terms.proofs.graph.subjects_with.Goals as goal

pub returns : goal.returns
returns c =
    let p = c.args.predicate.now in
    let o = c.args.object.now in
    finds_at (λ (x : Term). Has c.args.graph.now x p o) (filter_map (subject_with p o) c.args.graph.now) c.in_ok-found.found c.in_ok-found.ensures (owners_are c.args.graph.now p o)
