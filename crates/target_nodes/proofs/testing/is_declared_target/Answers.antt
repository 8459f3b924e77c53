use Rattle.rdf_model.specs.Numbers.{graph_of, term_at}
use Rattle.shape_model.specs.ShapeLooks.{TargetLook}
use Rattle.shape_model.specs.NodeLooks.{IsLook}
use Rattle.target_nodes.specs.Declarations.{DecidesBySome, declared_reading}
use Rattle.target_nodes.proofs.Laws.{look_law, target_law}
use Rattle.path_eval.proofs.Footprints.{looks_same}
use Rattle.target_nodes.proofs.testing.is_declared_target.Goals as goal

pub returns : goal.returns
returns g c =
    let ids = g.R.Triples.triples c.args.graph.now in
    let ts = c.args.declared.now in
    record {
      answer = λ terms numbering numbered named bound lt at.
          let d = c.in_ok-is_target_by_some.ensures.decided terms numbering numbered named bound lt at in
          let k = target_law terms (graph_of terms ids) ts (term_at terms c.args.shape) (term_at terms c.args.node) in
          (λ t. k.1 (d.answered.0 t), λ h. d.answered.1 (k.0 h));
      looks = λ terms numbering numbered named bound lt at.
          let d = c.in_ok-is_target_by_some.ensures.decided terms numbering numbered named bound lt at in
          let f = term_at terms c.args.node in
          looks_same terms (DecidesBySome terms (graph_of terms ids) ts f) (IsLook (graph_of terms ids) (TargetLook (declared_reading terms ts)) f)
          (λ l. let k = look_law terms (graph_of terms ids) ts f l in (k.1, k.0)) c.args.footprint.now c.is_target_by_some.new.footprint d.looks;
      kept = c.is_target_by_some.ensures.kept;
    }
