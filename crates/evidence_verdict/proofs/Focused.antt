-- Each target has a number where the graph's terms and those of the shapes have.
use Rattle.std.proofs.Common.{◌≡◌, ◌<◌, ℕ, List, length, sym, subst, inl, inr}
use Rattle.std.specs.List.{Contains}
use Rattle.std.proofs.lemmas.List.Elements.{All-contains, Contains-get_or}
use Rattle.rdf_model.specs.declared.term.Term.{Term}
use Rattle.rdf_model.specs.declared.triple.Triple.{Triple}
use Rattle.rdf_model.specs.Numbers.{term_at}
use Rattle.shape_model.specs.Instances.{Instance}
use Rattle.shape_model.specs.Readings.{reading}
use Rattle.shape_model.specs.Targets.{Target}
use Rattle.shape_model.specs.Triples.{Has}
use Rattle.shape_model.specs.Vocabulary.{ShTargetNode}
use Rattle.shape_model.proofs.Bridges.{makes_shape}
use Rattle.shape_ast.specs.declared.shape.Shape.{Shape}
use Rattle.shape_ast.specs.declared.target.Target.{Target as Declaration}
use Rattle.shape_ast.specs.declared.target.Target.TheVariants.{Node, Class, ImplicitClass, SubjectsOf, ObjectsOf}
use Rattle.shape_ast.specs.Readings.{AreBound, HoldsOfShape, HoldsOfTarget, ReadShape, read_shape, read_target}
use Rattle.path_eval.proofs.Mirrors.{mapped_from}
use Rattle.parallel_validate.specs.Named.{AreNamedTriples, IsNamedTriple}
use Rattle.result_evidence.specs.Standing.{AreOf}

-- the number of a declared node
declared_node : (terms : List Term) (d : Declaration ℕ) (f : Term) → HoldsOfTarget (λ n. n < length terms) d → read_target (term_at terms) d ≡ Node f → Contains terms f
declared_node terms (Node n) f lt e = let same : term_at terms n ≡ f = cc in subst (λ (t : Term). Contains terms t) same (Contains-get_or terms n _ lt)
declared_node terms (Class n) f lt e = absurd (cc)
declared_node terms ImplicitClass f lt e = absurd (cc)
declared_node terms (SubjectsOf n) f lt e = absurd (cc)
declared_node terms (ObjectsOf n) f lt e = absurd (cc)

module _ (terms : List Term) (shapes : List (Shape ℕ)) (bound : AreBound terms shapes) (s : List Triple) (of : AreOf terms shapes s) where
  node_named : (shape f : Term) → (reading s shape).has ShTargetNode f → Contains terms f
  node_named shape f has =
      let k = of.stand.all shape (makes_shape s shape (inl (f, has))) in
      let own = subst (λ (t : Term). (reading s t).has ShTargetNode f) (sym k.2) has in
      let declared : Contains k.0.targets (Node f) = ((of.stand.each k.0 k.1).has ShTargetNode f tt).0 own in
      let m = mapped_from (read_shape (term_at terms)) shapes k.0 k.1 in
      let d = mapped_from (read_target (term_at terms)) m.0.targets (Node f) (subst (λ (c : ReadShape). Contains c.targets (Node f)) (sym m.2) declared) in
      let holds = All-contains (HoldsOfShape (λ n. n < length terms) (length shapes)) shapes m.0 bound m.1 in
      declared_node terms d.0 f (All-contains (HoldsOfTarget (λ n. n < length terms)) m.0.targets d.0 holds.targets d.1) d.2

  module _ (h : List Triple) (named : AreNamedTriples terms h) where
    subject_named : (x p y : Term) → Has h x p y → Contains terms x
    subject_named x p y c = (All-contains (IsNamedTriple terms) h _ named c).0

    object_named : (x p y : Term) → Has h x p y → Contains terms y
    object_named x p y c = (All-contains (IsNamedTriple terms) h _ named c).2

    instance_named : (x c : Term) → Instance h x c → Contains terms x
    instance_named x c i = subject_named x _ i.0 i.1

    pub focus_named : (shape f : Term) → Target h s shape f → Contains terms f
    focus_named shape f target = elim target [
      | inl n ↦ node_named shape f n
      | inr (inl c) ↦ instance_named f c.0 c.2
      | inr (inr (inl i)) ↦ instance_named f shape i.1
      | inr (inr (inr (inl p))) ↦ subject_named f p.0 p.2.0 p.2.1
      | inr (inr (inr (inr p))) ↦ object_named p.2.0 p.0 f p.2.1
    ]
