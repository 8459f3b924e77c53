use Rattle.std.proofs.Common.{ℕ, true}
use Rattle.std.specs.Prelude.{◌⊎◌}
use Rattle.rdf_model.specs.declared.look.Look.{Look}
use Rattle.rdf_model.specs.declared.term.Term.{Term}
use Rattle.rdf_model.specs.Numbers.{graph_of}
use Rattle.shape_model.specs.Walks.{Walk}
use Rattle.shape_model.specs.Instances.{class_path}
use Rattle.shape_model.specs.NodeLooks.{PathReads}
use Rattle.path_ast.specs.declared.path.Path.{Predicate}
use Rattle.path_eval.specs.Relations.{Repeated}
use Rattle.path_eval.specs.NumberedWalks.{Reaches}
use Rattle.path_eval.specs.NumberedLooks.{AtRepeated, Reads}
use Rattle.path_eval.proofs.ClassPaths.{reversed_mirrors, reversed_shows}
use Rattle.path_eval.proofs.FromOne.{ends_named, every_end, every_look, looks_named, one_listed, one_read}
use Rattle.path_eval.proofs.instances.class_instances.Goals as goal

pub returns : goal.returns
returns g c =
    let ids = g.R.Triples.triples c.args.graph.now in
    let words = c.args.words in
    let x = c.args.class in
    let R = λ (x y : ℕ). (z : ℕ) × Repeated (Reaches ids true (Predicate words.sub_class_of)) x z × Reaches ids true (Predicate words.rdf_type) z y in
    let L = λ (x : ℕ) (look : Look ℕ). AtRepeated (Reaches ids true (Predicate words.sub_class_of)) (Reads ids true (Predicate words.sub_class_of)) x look
    ⊎ ((z : ℕ) × Repeated (Reaches ids true (Predicate words.sub_class_of)) x z × Reads ids true (Predicate words.rdf_type) z look) in
    let old = c.args.footprint.now in
    let new = c.found_instances.new.footprint in
    let nodes = c.in_ok-found_instances.field-0.items in
    record {
      instances = λ terms numbering numbered named lt.
          let W = λ (x y : Term). Walk (graph_of terms ids) class_path y x in
          let m = reversed_mirrors terms numbering ids numbered words named in
          let l = one_listed R L x old new nodes c.in_ok-found_instances.ensures.followed in
          record { listed = ends_named terms numbering x lt R W m nodes l; every = every_end terms numbering x lt R W m nodes l };
      looks = λ terms numbering numbered named lt.
          let a = one_read R L x old new nodes c.in_ok-found_instances.ensures.followed in
          let s = reversed_shows terms numbering ids numbered words named in
          let M = PathReads (graph_of terms ids) true class_path in
          record { added = looks_named terms numbering x lt L M s old new a; every = every_look terms numbering x lt L M s old new a };
      kept = c.found_instances.ensures.kept;
    }
