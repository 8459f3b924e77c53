-- Results among listed triples are those of the whole graph.
use Rattle.std.proofs.Common.{◌≡◌, List, [], ◌∷◌, ◌++◌, refl, sym, subst, arith, inl, inr}
use Rattle.std.specs.Prelude.{◌⊎◌, ◌↔◌}
use Rattle.std.specs.List.{All, Contains, flat_map}
use Rattle.std.proofs.lemmas.List.Elements.{All-contains, Contains-append_cases, Contains-append_left, Contains-append_right}
use Rattle.collections.proofs.Members.{has_cases, has_equal, has_tail}
use Rattle.rdf_model.specs.declared.term.Term.{Term}
use Rattle.rdf_model.specs.declared.triple.Triple.{Triple}
use Rattle.rdf_model.specs.declared.look.Look.{Look}
use Rattle.shape_model.specs.Agreement.{AgreesAt}
use Rattle.shape_model.specs.Looks.{LookRow, Matches, look_at}
use Rattle.shape_model.specs.NodeLooks.{IsLook}
use Rattle.shape_model.specs.Paths.{Path, Predicate, Inverse, Sequence, Alternative, ZeroOrMore, OneOrMore, ZeroOrOne, Paths, Last, Also}
use Rattle.shape_model.specs.ShapeLooks.{Looks}
use Rattle.shape_model.specs.Walks.{Chain, Walk, WalkSome, WalkThrough, Walks}
use Rattle.shape_model.specs.declared.result_row.ResultRow.{ResultRow}
use Rattle.shape_model.proofs.Covers.{cover_law}
use Rattle.path_eval.proofs.Mirrors.{mapped_from}
use Rattle.evidence_blocks.specs.declared.block.ShownLook.{ShownLook}
use Rattle.evidence_blocks.specs.Blocks.{Gives, HasTriples, looks_in}
use Rattle.evidence_blocks.specs.Shown.{triples_in}
use Rattle.evidence_laws.specs.Shown.{EvidenceIsShown, LooksAloneDecide, ShownBlocksHold}

-- what stands under some look
from_looks : (xs : List ShownLook) (t : Triple) → Contains (triples_in xs) t → (x : ShownLook) × Contains xs x × Contains x.triples t
from_looks [] t c = absurd (omega (arith, c.1))
from_looks (x ∷ xs) t c = elim (Contains-append_cases x.triples (triples_in xs) t c) [
  | inl d ↦ (x, has_equal x xs x refl, d)
  | inr d ↦ let k = from_looks xs t d in (k.0, has_tail x xs k.0 k.1, k.2)
]

pub to_looks : (xs : List ShownLook) (t : Triple) (x : ShownLook) → Contains xs x → Contains x.triples t → Contains (triples_in xs) t
to_looks [] t x c d = absurd (omega (arith, c.1))
to_looks (y ∷ ys) t x c d = elim (has_cases y ys x c) [
  | inl e ↦ Contains-append_left y.triples (triples_in ys) t (subst (λ (z : ShownLook). Contains z.triples t) (sym e) d)
  | inr k ↦ Contains-append_right y.triples (triples_in ys) t (to_looks ys t x k d)
]

-- a graph with more triples has more walks
module _ (g h : List Triple) (more : (t : Triple) → Contains h t → Contains g t) where
  chain_more : (R S : Term → Term → Type 0) → ((x y : Term) → R x y → S x y) → (x : Term) (zs : List Term) (y : Term) → Chain R x zs y → Chain S x zs y
  chain_more R S f x [] y c = c
  chain_more R S f x (z ∷ zs) y c = (f x z c.0, chain_more R S f z zs y c.1)

  mutual
    walk_more : (p : Path) (x y : Term) → Walk h p x y → Walk g p x y
    walk_more (Predicate p) x y w = more (record { subject = x; predicate = p; object = y }) w
    walk_more (Inverse p) x y w = walk_more p y x w
    walk_more (Sequence ps) x y w = through_more ps x y w
    walk_more (Alternative ps) x y w = some_more ps x y w
    walk_more (ZeroOrMore p) x y w = (w.0, chain_more (Walk h p) (Walk g p) (λ a b k. walk_more p a b k) x w.0 y w.1)
    walk_more (OneOrMore p) x y w = (w.0, w.1, chain_more (Walk h p) (Walk g p) (λ a b k. walk_more p a b k) x w.0 y w.2)
    walk_more (ZeroOrOne p) x y w = elim w [ inl e ↦ inl e | inr k ↦ inr (walk_more p x y k) ]

    through_more : (ps : Paths) (x y : Term) → WalkThrough h ps x y → WalkThrough g ps x y
    through_more (Last p) x y w = walk_more p x y w
    through_more (Also p ps) x y w = (w.0, walk_more p x w.0 w.1, through_more ps w.0 y w.2)

    some_more : (ps : Paths) (x y : Term) → WalkSome h ps x y → WalkSome g ps x y
    some_more (Last p) x y w = walk_more p x y w
    some_more (Also p ps) x y w = elim w [ inl k ↦ inl (walk_more p x y k) | inr k ↦ inr (some_more ps x y k) ]

  walks_more : (ps : List Path) (x y : Term) → Walks h ps x y → Walks g ps x y
  walks_more [] x y w = w
  walks_more (p ∷ ps) x y w = (w.0, walk_more p x w.0 w.1, walks_more ps w.0 y w.2)

  -- and more looks
  pub look_more : (rows : LookRow → Type 0) (f : Term) (look : Look Term) → IsLook h rows f look → IsLook g rows f look
  look_more rows f look l = (l.0, l.1, (l.2.0, walks_more l.0.way f l.2.0 l.2.1, l.2.2))

-- graphs with the same triples have the same results
pub gives_same : (g h s : List Triple) → ((t : Triple) → Contains g t ↔ Contains h t) → (r : ResultRow) (shape f : Term) → Gives g s r shape f ↔ Gives h s r shape f
gives_same g h s same r shape f =
    let law = cover_law g h s shape f (λ row k z w t m. same t) in
    (λ i. (law.0.0 i.0, (law.1 r).0 i.1), λ i. (law.0.1 i.0, (law.1 r).1 i.1))

-- under the looks stand just the triples of the graph that match one of them
module _ (g : List Triple) (xs : List ShownLook) (each : All (HasTriples g) xs) where
  pub within : (t : Triple) → Contains (triples_in xs) t → Contains g t
  within t c =
      let k = from_looks xs t c in
      let m = ((All-contains (HasTriples g) xs k.0 each k.1).members t).0 k.2 in m.0

  listed_triple : (look : Look Term) → Contains (looks_in xs) look → (t : Triple) → Matches look t → Contains g t → Contains (triples_in xs) t
  listed_triple look c t m d =
      let k = mapped_from (λ (x : ShownLook). x.look) xs look c in
      to_looks xs t k.0 k.1 (((All-contains (HasTriples g) xs k.0 each k.1).members t).1 (d, subst (λ (l : Look Term). Matches l t) (sym k.2) m))

pub shown_blocks_hold : ShownBlocksHold
shown_blocks_hold g s b i =
    let h = triples_in b.looks in
    let agree : (row : LookRow) → Looks s b.shape row → AgreesAt h g b.focus row = λ row r z w t m. (
      λ c. within g b.looks i.triples t c,
      λ c. listed_triple g b.looks i.triples (look_at row.kind z) (i.listed (look_at row.kind z) (row, r, (z, w, refl))) t m c,
    ) in
    let k = cover_law h g s b.shape b.focus agree in
    let gives : Gives g s b.row b.shape b.focus = (k.0.0 i.gives.0, (k.1 b.row).0 i.gives.1) in
    (gives, (b.shape, b.focus, gives.0, gives.1))

pub evidence_is_shown : EvidenceIsShown
evidence_is_shown g s b e =
    let h = triples_in b.looks in
    let agree : (row : LookRow) → Looks s b.shape row → AgreesAt g h b.focus row = λ row r z w t m. (
      λ c. listed_triple g b.looks e.triples (look_at row.kind z) ((e.looks.members (look_at row.kind z)).1 (row, r, (z, w, refl))) t m c,
      λ c. within g b.looks e.triples t c,
    ) in
    let k = cover_law g h s b.shape b.focus agree in
    record {
      ascending = e.looks.ascending;
      triples = e.triples;
      listed = λ look l. (e.looks.members look).1 (l.0, l.1, (l.2.0, walks_more g h (λ t c. within g b.looks e.triples t c) l.0.way b.focus l.2.0 l.2.1, l.2.2));
      gives = (k.0.0 e.aim.gives.0, (k.1 b.row).0 e.aim.gives.1);
    }

pub looks_alone_decide : LooksAloneDecide
looks_alone_decide g k s b i same =
    let h = triples_in b.looks in
    let agree : (row : LookRow) → Looks s b.shape row → AgreesAt h k b.focus row = λ row r z w t m.
    let c = i.listed (look_at row.kind z) (row, r, (z, w, refl)) in (
      λ d. (same (look_at row.kind z) c t m).0 (within g b.looks i.triples t d),
      λ d. listed_triple g b.looks i.triples (look_at row.kind z) c t m ((same (look_at row.kind z) c t m).1 d),
    ) in
    let cover = cover_law h k s b.shape b.focus agree in
    (b.shape, b.focus, cover.0.0 i.gives.0, (cover.1 b.row).0 i.gives.1)
