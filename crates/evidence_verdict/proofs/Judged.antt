-- Whether the shape of a block gives its result by the triples that it lists.
use Rattle.std.proofs.Common.{◌≡◌, ◌∙◌, ◌&&◌, ℕ, Bool, true, false, List, [], map, get_or, refl, sym, ap, subst, arith, inl, inr}
use Rattle.std.specs.Prelude.{◌↔◌, IsTrue, Some, slice_get}
use Rattle.std.specs.List.{All, Contains}
use Rattle.collections.specs.Ordered.{IsAscending}
use Rattle.std.proofs.lemmas.List.Elements.{All-contains, Contains-get_or}
use Rattle.rdf_model.specs.declared.look.Look.{Look}
use Rattle.rdf_model.specs.declared.term.Term.{Term}
use Rattle.rdf_model.specs.declared.triple.Triple.{Triple}
use Rattle.shape_model.specs.ShapeLooks.{Looks}
use Rattle.shape_model.specs.Targets.{Target}
use Rattle.shape_model.proofs.Bridges.{makes_shape}
use Rattle.shape_model.proofs.Covers.{has_target}
use Rattle.shape_ast.specs.declared.shape.Shape.{Shape}
use Rattle.shape_ast.specs.Readings.{ReadShape, named_shapes}
use Rattle.path_eval.specs.Naming.{AddsLooks, look_of}
use Rattle.path_eval.proofs.Mirrors.{mapped_from}
use Rattle.shape_eval.proofs.Lookups.{got_at}
use Rattle.evidence_blocks.specs.declared.block.Block.{Block}
use Rattle.evidence_blocks.specs.Blocks.{HasTriples, looks_in}
use Rattle.evidence_blocks.specs.LookOrder.{look_cmp}
use Rattle.evidence_blocks.specs.Shown.{IsShown, triples_in}
use Rattle.evidence_laws.proofs.Holding.{gives_same, look_more}
use Rattle.result_evidence.specs.Standing.{AreOf}
use Rattle.evidence_verdict.specs.Judging.{HoldsIn, ShowsByItself}

-- both tests
pub both_tests : (P Q : Type 0) (a b : Bool) → (IsTrue a ↔ P) → (IsTrue b ↔ Q) → IsTrue (a && b) ↔ (P × Q)
both_tests P Q true b p q = (λ h. (p.0 refl, q.0 h), λ h. q.1 h.1)
both_tests P Q false b p q = (λ h. cc, λ h. absurd (let bad : false ≡ true = p.1 h.0 in cc))

-- what isn't so
pub not_so : (P : Type 0) → (P → ⊥) → IsTrue false ↔ P
not_so P never = (λ h. cc, λ p. absurd (never p))

pub so_where : (A P Q : Type 0) → A ↔ P → P ↔ Q → A ↔ Q
so_where A P Q k l = (λ a. l.0 (k.0 a), λ q. k.1 (l.1 q))

-- a shape that gives a result has a place
module _ (terms : List Term) (shapes : List (Shape ℕ)) (s : List Triple) (of : AreOf terms shapes s) where
  pub place_of_shape : (h : List Triple) (shape f : Term) → Target h s shape f → (j : ℕ) × (c : ReadShape) × (slice_get (named_shapes terms shapes) j ≡ Some c) × (c.node ≡ shape)
  place_of_shape h shape f target =
      let k = of.stand.all shape (makes_shape s shape (has_target h s shape f target)) in
      (k.1.0, k.0, got_at (named_shapes terms shapes) k.1.0 k.0 k.1.1 ∙ ap Some k.1.2, k.2)

-- the looks of the shape, as they were listed by their terms
pub all_listed : (terms : List Term) (P : Look Term → Type 0) (looks : List (Look ℕ)) (listed : List (Look Term)) (known : List (Look Term)) → AddsLooks terms P [] looks → listed ≡ map (look_of terms) looks
    → All (Contains known) listed ↔ ((look : Look Term) → P look → Contains known look)
all_listed terms P looks listed known adds is = (
  λ a look p. All-contains (Contains known) listed look a (subst (λ (ls : List (Look Term)). Contains ls look) (sym is) (adds.every look p)),
  λ f k d lt. (let look = get_or listed k d in
      let m = mapped_from (look_of terms) looks look (subst (λ (ls : List (Look Term)). Contains ls look) is (Contains-get_or listed k d lt)) in
      elim ((adds.added m.0).0 m.1) [
        | inl c ↦ absurd (omega (arith, c.1))
        | inr i ↦ f look (subst (λ (l : Look Term). P l) m.2 i.1)
      ]),
)

-- the same in a graph with the same triples
pub holds_same : (g h s : List Triple) → ((t : Triple) → Contains g t ↔ Contains h t) → (shape f : Term) (b : Block) → HoldsIn g s shape f b ↔ HoldsIn h s shape f b
holds_same g h s same shape f b =
    let k = gives_same g h s same b.row shape f in (
      λ i. (k.0 i.0, λ look l. i.1 look (look_more g h (λ t c. (same t).1 c) (Looks s shape) f look l)),
      λ i. (k.1 i.0, λ look l. i.1 look (look_more h g (λ t c. (same t).0 c) (Looks s shape) f look l)),
    )

-- what a block shows is what it lists, with what follows from that
pub shown_where : (g s : List Triple) (b : Block) → IsAscending look_cmp (looks_in b.looks) → All (HasTriples g) b.looks → ShowsByItself s b ↔ IsShown g s b
shown_where g s b ascending triples = (
  λ i. record { ascending = ascending; triples = triples; listed = i.1; gives = i.0 },
  λ i. (i.gives, i.listed),
)

-- by the numbers of the shape and the focus node
pub by_numbers : (s : List Triple) (b : Block) (h : List Triple) (shape f : Term) → shape ≡ b.shape → f ≡ b.focus → ((t : Triple) → Contains h t ↔ Contains (triples_in b.looks) t) → HoldsIn h s shape f b ↔ ShowsByItself s b
by_numbers s b h shape f is at same =
    let k = holds_same h (triples_in b.looks) s same b.shape b.focus b in
    subst (λ (p : Term × Term). HoldsIn h s p.0 p.1 b ↔ ShowsByItself s b) (λ i. (sym is i, sym at i)) k
