use Rattle.std.proofs.Common.{ℕ, List, [], subst}
use Rattle.rdf_model.specs.declared.look.Look.{Look}
use Rattle.rdf_model.specs.Numbers.{graph_of, term_at}
use Rattle.shape_model.specs.NodeLooks.{IsLook}
use Rattle.shape_model.specs.Readings.{reading}
use Rattle.shape_model.specs.ShapeLooks.{TargetLook}
use Rattle.path_eval.specs.Naming.{AddsLooks}
use Rattle.target_nodes.specs.ShapeTargets.{AtShape}
use Rattle.result_evidence.proofs.Looked.{all_looks}
use Rattle.result_evidence.proofs.looks.looks_at.Goals as goal

pub returns : goal.returns
returns g c =
    let e = c.args.evaluation.now in
    let mid = c.target_looks.new.looks in
    let target = subst (λ (old : List (Look ℕ)). AtShape e.terms e.shapes c.args.place (λ s own. AddsLooks e.terms (IsLook (graph_of e.terms e.ids) (TargetLook (reading s own)) (term_at e.terms c.args.focus)) old mid))
    c.new-looks.ensures c.in_ok-target_looks.ensures in
    all_looks e.terms e.ids e.shapes c.args.place c.args.focus [] mid c.eval.new.footprint target c.in_ok-eval.ensures.looks
