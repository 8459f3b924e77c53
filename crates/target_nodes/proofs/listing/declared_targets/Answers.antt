use Rattle.rdf_model.specs.Numbers.{graph_of, term_at}
use Rattle.shape_model.specs.Targets.{TargetOf}
use Rattle.target_nodes.specs.Declarations.{IsTargetBySome, declared_reading}
use Rattle.target_nodes.proofs.Laws.{target_law}
use Rattle.target_nodes.proofs.Members.{listed_every, listed_members, members_same}
use Rattle.target_nodes.proofs.listing.declared_targets.Goals as goal

pub returns : goal.returns
returns g c = λ terms numbering numbered named bound lt.
    let graph = graph_of terms (g.R.Triples.triples c.args.graph.now) in
    let shape = term_at terms c.args.shape in
    let ts = c.args.declared.now in
    let P = TargetOf graph (declared_reading terms ts) shape in
    let found = c.in_ok-found.found.items in
    let sorted = c.in_ok-sorted_once.field-0.items in
    let m = members_same terms (IsTargetBySome terms graph shape ts) P found (λ f. let k = target_law terms graph ts shape f in (k.1, k.0)) (c.in_ok-found.ensures terms numbering numbered named bound lt) in
    record { listed = listed_members terms P found sorted m c.in_ok-sorted_once.ensures; every = listed_every terms P found sorted m c.in_ok-sorted_once.ensures }
