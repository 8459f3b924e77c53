use Rattle.std.proofs.Common.{true}
use Rattle.path_eval.proofs.FromSome.{are_values_of_some, adds_reads_of_some}
use Rattle.path_eval.proofs.queries.back_from.Goals as goal

pub returns : goal.returns
returns g c =
    let ids = g.R.Triples.triples c.args.graph.now in
    let path = c.args.path.now in
    let xs = c.args.nodes.now in
    let ends = c.in_ok-step.field-0.items in
    record {
      values = are_values_of_some ids true path xs ends c.in_ok-step.ensures.followed.listed;
      looks = adds_reads_of_some ids true path xs c.args.footprint.now c.step.new.footprint c.in_ok-step.ensures.followed.looks;
      kept = c.step.ensures.kept;
    }
