-- The class path, by number.
use Rattle.std.proofs.Common.{ℕ, List, false, true, subst}
use Rattle.std.specs.Prelude.{◌⊎◌}
use Rattle.rdf_model.specs.declared.term.Term.{Term}
use Rattle.rdf_model.specs.declared.ids.Ids.{Ids}
use Rattle.rdf_model.specs.declared.look.Look.{Look}
use Rattle.rdf_model.specs.Numbers.{term_at, graph_of, IsNumbering, AreNumbered}
use Rattle.shape_model.specs.Vocabulary.{sub_class_of}
use Rattle.shape_model.specs.Paths as defined
use Rattle.shape_model.specs.Walks.{Chain, Walk}
use Rattle.shape_model.specs.Instances.{class_path}
use Rattle.shape_model.specs.NodeLooks.{PathReads}
use Rattle.path_ast.specs.declared.path.Path.{Predicate}
use Rattle.path_eval.specs.declared.instances.ClassWords.{ClassWords}
use Rattle.path_eval.specs.Instances.{AreClassWords}
use Rattle.path_eval.specs.Relations.{Repeated}
use Rattle.path_eval.specs.NumberedWalks.{Reaches}
use Rattle.path_eval.specs.NumberedLooks.{AtRepeated, Reads}
use Rattle.path_eval.proofs.Mirrors.{Mirrors, many_reversed, mirrors, mirrors_repeated, mirrors_same, mirrors_then}
use Rattle.path_eval.proofs.MirroredLooks.{Shows, repeated, shows, shows_either, shows_then}

module _ (terms : List Term) (numbering : IsNumbering terms) (ids : List Ids) (numbered : AreNumbered terms ids) (words : ClassWords) (named : AreClassWords terms words) where
  pub class_mirrors : Mirrors terms (λ x y. (z : ℕ) × Reaches ids false (Predicate words.rdf_type) x z × Repeated (Reaches ids false (Predicate words.sub_class_of)) z y) (Walk (graph_of terms ids) class_path)
  class_mirrors =
      subst (λ (t : Term). Mirrors terms (λ x y. (z : ℕ) × Reaches ids false (Predicate words.rdf_type) x z × Repeated (Reaches ids false (Predicate words.sub_class_of)) z y)
      (Walk (graph_of terms ids) (defined.Sequence (defined.Also (defined.Predicate t) (defined.Last (defined.ZeroOrMore (defined.Predicate sub_class_of))))))) named.types
      (subst (λ (s : Term). Mirrors terms (λ x y. (z : ℕ) × Reaches ids false (Predicate words.rdf_type) x z × Repeated (Reaches ids false (Predicate words.sub_class_of)) z y)
      (Walk (graph_of terms ids) (defined.Sequence (defined.Also (defined.Predicate (term_at terms words.rdf_type)) (defined.Last (defined.ZeroOrMore (defined.Predicate s))))))) named.above
      (mirrors_then terms (Reaches ids false (Predicate words.rdf_type)) (Repeated (Reaches ids false (Predicate words.sub_class_of)))
      (Walk (graph_of terms ids) (defined.Predicate (term_at terms words.rdf_type))) (Walk (graph_of terms ids) (defined.ZeroOrMore (defined.Predicate (term_at terms words.sub_class_of))))
      (mirrors terms numbering ids numbered (Predicate words.rdf_type) false named.types_bound)
      (mirrors_repeated terms (Reaches ids false (Predicate words.sub_class_of)) (Walk (graph_of terms ids) (defined.Predicate (term_at terms words.sub_class_of))) (mirrors terms numbering ids numbered (Predicate words.sub_class_of) false named.above_bound))))

  pub class_shows : Shows terms (λ x look. Reads ids false (Predicate words.rdf_type) x look ⊎ ((z : ℕ) × Reaches ids false (Predicate words.rdf_type) x z
      × AtRepeated (Reaches ids false (Predicate words.sub_class_of)) (Reads ids false (Predicate words.sub_class_of)) z look)) (PathReads (graph_of terms ids) false class_path)
  class_shows =
      let L = λ (x : ℕ) (look : Look ℕ). Reads ids false (Predicate words.rdf_type) x look ⊎ ((z : ℕ) × Reaches ids false (Predicate words.rdf_type) x z × AtRepeated (Reaches ids false (Predicate words.sub_class_of)) (Reads ids false (Predicate words.sub_class_of)) z look) in
      let at = λ (t s : Term). PathReads (graph_of terms ids) false (defined.Sequence (defined.Also (defined.Predicate t) (defined.Last (defined.ZeroOrMore (defined.Predicate s))))) in
      let own = term_at terms words.rdf_type in
      let up = term_at terms words.sub_class_of in
      subst (λ (t : Term). Shows terms L (at t sub_class_of)) named.types
      (subst (λ (s : Term). Shows terms L (at own s)) named.above
      (shows_either terms (Reads ids false (Predicate words.rdf_type)) (λ x look. (z : ℕ) × Reaches ids false (Predicate words.rdf_type) x z × AtRepeated (Reaches ids false (Predicate words.sub_class_of)) (Reads ids false (Predicate words.sub_class_of)) z look)
      (PathReads (graph_of terms ids) false (defined.Predicate own)) (λ x l. (z : Term) × Walk (graph_of terms ids) (defined.Predicate own) x z × PathReads (graph_of terms ids) false (defined.ZeroOrMore (defined.Predicate up)) z l)
      (shows terms numbering ids numbered (Predicate words.rdf_type) false named.types_bound)
      (shows_then terms (Reaches ids false (Predicate words.rdf_type)) (Walk (graph_of terms ids) (defined.Predicate own)) (AtRepeated (Reaches ids false (Predicate words.sub_class_of)) (Reads ids false (Predicate words.sub_class_of))) (PathReads (graph_of terms ids) false (defined.ZeroOrMore (defined.Predicate up)))
      (mirrors terms numbering ids numbered (Predicate words.rdf_type) false named.types_bound)
      (repeated terms numbering ids numbered (Predicate words.sub_class_of) false named.above_bound (shows terms numbering ids numbered (Predicate words.sub_class_of) false named.above_bound)))))

  -- the same along the way back
  above_reversed : Mirrors terms (Repeated (Reaches ids true (Predicate words.sub_class_of))) (λ x y. Walk (graph_of terms ids) (defined.ZeroOrMore (defined.Predicate (term_at terms words.sub_class_of))) y x)
  above_reversed =
      let W = Walk (graph_of terms ids) (defined.Predicate (term_at terms words.sub_class_of)) in
      mirrors_same terms (Repeated (Reaches ids true (Predicate words.sub_class_of))) (λ x y. (zs : List Term) × Chain (λ a b. W b a) x zs y) (λ x y. (zs : List Term) × Chain W y zs x) (many_reversed terms W)
      (mirrors_repeated terms (Reaches ids true (Predicate words.sub_class_of)) (λ a b. W b a) (mirrors terms numbering ids numbered (Predicate words.sub_class_of) true named.above_bound))

  pub reversed_mirrors : Mirrors terms (λ x y. (z : ℕ) × Repeated (Reaches ids true (Predicate words.sub_class_of)) x z × Reaches ids true (Predicate words.rdf_type) z y) (λ x y. Walk (graph_of terms ids) class_path y x)
  reversed_mirrors =
      let R = λ (x y : ℕ). (z : ℕ) × Repeated (Reaches ids true (Predicate words.sub_class_of)) x z × Reaches ids true (Predicate words.rdf_type) z y in
      let own = term_at terms words.rdf_type in
      let up = term_at terms words.sub_class_of in
      let V = Walk (graph_of terms ids) (defined.ZeroOrMore (defined.Predicate up)) in
      let W = Walk (graph_of terms ids) (defined.Predicate own) in
      subst (λ (t : Term). Mirrors terms R (λ x y. Walk (graph_of terms ids) (defined.Sequence (defined.Also (defined.Predicate t) (defined.Last (defined.ZeroOrMore (defined.Predicate sub_class_of))))) y x)) named.types
      (subst (λ (s : Term). Mirrors terms R (λ x y. Walk (graph_of terms ids) (defined.Sequence (defined.Also (defined.Predicate own) (defined.Last (defined.ZeroOrMore (defined.Predicate s))))) y x)) named.above
      (mirrors_same terms R (λ x y. (z : Term) × V z x × W y z) (λ x y. (z : Term) × W y z × V z x) (λ x y. (λ c. (c.0, c.2, c.1), λ c. (c.0, c.2, c.1)))
      (mirrors_then terms (Repeated (Reaches ids true (Predicate words.sub_class_of))) (Reaches ids true (Predicate words.rdf_type)) (λ x y. V y x) (λ x y. W y x)
      above_reversed (mirrors terms numbering ids numbered (Predicate words.rdf_type) true named.types_bound))))

  pub reversed_shows : Shows terms (λ x look. AtRepeated (Reaches ids true (Predicate words.sub_class_of)) (Reads ids true (Predicate words.sub_class_of)) x look
      ⊎ ((z : ℕ) × Repeated (Reaches ids true (Predicate words.sub_class_of)) x z × Reads ids true (Predicate words.rdf_type) z look)) (PathReads (graph_of terms ids) true class_path)
  reversed_shows =
      let K = AtRepeated (Reaches ids true (Predicate words.sub_class_of)) (Reads ids true (Predicate words.sub_class_of)) in
      let R = Repeated (Reaches ids true (Predicate words.sub_class_of)) in
      let L = λ (x : ℕ) (look : Look ℕ). K x look ⊎ ((z : ℕ) × R x z × Reads ids true (Predicate words.rdf_type) z look) in
      let at = λ (t s : Term). PathReads (graph_of terms ids) true (defined.Sequence (defined.Also (defined.Predicate t) (defined.Last (defined.ZeroOrMore (defined.Predicate s))))) in
      let own = term_at terms words.rdf_type in
      let up = term_at terms words.sub_class_of in
      let V = Walk (graph_of terms ids) (defined.ZeroOrMore (defined.Predicate up)) in
      subst (λ (t : Term). Shows terms L (at t sub_class_of)) named.types
      (subst (λ (s : Term). Shows terms L (at own s)) named.above
      (shows_either terms K (λ x look. (z : ℕ) × R x z × Reads ids true (Predicate words.rdf_type) z look)
      (PathReads (graph_of terms ids) true (defined.ZeroOrMore (defined.Predicate up))) (λ x l. (z : Term) × V z x × PathReads (graph_of terms ids) true (defined.Predicate own) z l)
      (repeated terms numbering ids numbered (Predicate words.sub_class_of) true named.above_bound (shows terms numbering ids numbered (Predicate words.sub_class_of) true named.above_bound))
      (shows_then terms R (λ x y. V y x) (Reads ids true (Predicate words.rdf_type)) (PathReads (graph_of terms ids) true (defined.Predicate own)) above_reversed
      (shows terms numbering ids numbered (Predicate words.rdf_type) true named.types_bound))))
