use Rattle.std.proofs.Common.{ℕ, List, false, subst}
use Rattle.std.specs.Prelude.{◌⊎◌, ◌↔◌, IsTrue}
use Rattle.std.specs.List.{Contains}
use Rattle.rdf_model.specs.declared.look.Look.{Look}
use Rattle.rdf_model.specs.Numbers.{graph_of}
use Rattle.shape_model.specs.Walks.{Walk}
use Rattle.shape_model.specs.Instances.{class_path}
use Rattle.shape_model.specs.NodeLooks.{PathReads}
use Rattle.path_ast.specs.declared.path.Path.{Predicate}
use Rattle.path_eval.specs.Relations.{Repeated}
use Rattle.path_eval.specs.NumberedWalks.{Reaches}
use Rattle.path_eval.specs.NumberedLooks.{AtRepeated, Reads}
use Rattle.path_eval.proofs.ClassPaths.{class_mirrors, class_shows}
use Rattle.path_eval.proofs.FromOne.{ends_named, every_look, looks_named, one_listed, one_read}
use Rattle.path_eval.proofs.instances.is_instance.Goals as goal

pub returns : goal.returns
returns g c =
    let ids = g.R.Triples.triples c.args.graph.now in
    let words = c.args.words in
    let x = c.args.node in
    let R = λ (x y : ℕ). (z : ℕ) × Reaches ids false (Predicate words.rdf_type) x z × Repeated (Reaches ids false (Predicate words.sub_class_of)) z y in
    let L = λ (x : ℕ) (look : Look ℕ). Reads ids false (Predicate words.rdf_type) x look ⊎ ((z : ℕ) × Reaches ids false (Predicate words.rdf_type) x z × AtRepeated (Reaches ids false (Predicate words.sub_class_of)) (Reads ids false (Predicate words.sub_class_of)) z look) in
    let old = c.args.footprint.now in
    let new = c.classes_of.new.footprint in
    let classes = c.in_ok-classes.classes.items in
    let has = subst (λ (l : List ℕ). IsTrue c.has.result ↔ Contains l c.args.class) c.deref.ensures.value c.has.ensures in
    record {
      answer = λ terms numbering numbered named lt class_lt.
          let l = ends_named terms numbering x lt R (Walk (graph_of terms ids) class_path) (class_mirrors terms numbering ids numbered words named) classes (one_listed R L x old new classes c.in_ok-classes.ensures.followed) in
          (λ t. ((l.members c.args.class).0 (has.0 t)).1, λ i. has.1 ((l.members c.args.class).1 (class_lt, i)));
      looks = λ terms numbering numbered named lt.
          let a = one_read R L x old new classes c.in_ok-classes.ensures.followed in
          let s = class_shows terms numbering ids numbered words named in
          let M = PathReads (graph_of terms ids) false class_path in
          record { added = looks_named terms numbering x lt L M s old new a; every = every_look terms numbering x lt L M s old new a };
      kept = c.classes_of.ensures.kept;
    }
