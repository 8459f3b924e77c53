-- The results of a graph with their pairs, shape by shape and target by target.
use Rattle.std.proofs.Common.{◌≡◌, ◌∙◌, ℕ, ◌+◌, ◌<◌, ◌≤◌, List, [], ◌∷◌, ◌++◌, length, map, take, get_or, refl, sym, ap, arith, subst, inl, inr}
use Rattle.std.specs.Prelude.{◌↔◌, ◌⊎◌, Some, slice_get}
use Rattle.std.specs.List.{All, AllZip, Contains}
use Rattle.std.proofs.lemmas.List.{length-map, map-append, take_all}
use Rattle.std.proofs.lemmas.List.Elements.{All-contains, Contains-append_cases, Contains-append_left, Contains-append_right}
use Rattle.collections.proofs.Members.{has_cases, has_head, has_tail}
use Rattle.rdf_model.specs.declared.term.Term.{Term}
use Rattle.rdf_model.specs.declared.ids.Ids.{Ids}
use Rattle.rdf_model.specs.Numbers.{graph_of, term_at}
use Rattle.shape_model.specs.declared.result_row.ResultRow.{ResultRow}
use Rattle.shape_model.specs.Targets.{Target}
use Rattle.shape_model.specs.Validation.{At}
use Rattle.shape_model.proofs.Bridges.{makes_shape}
use Rattle.shape_model.proofs.Covers.{has_target}
use Rattle.component_rows.proofs.Collecting.{mapped_from, mapped_to}
use Rattle.shape_ast.specs.declared.shape.Shape.{Shape}
use Rattle.shape_ast.specs.Readings.{AreBound, ReadShape, named_shapes, read_shape}
use Rattle.target_nodes.specs.ShapeTargets.{AreTargets, AtShape}
use Rattle.shape_eval.specs.Told.{node_at}
use Rattle.shape_eval.proofs.Asking.{node_bound}
use Rattle.shape_eval.proofs.Growing.{joined}
use Rattle.shape_eval.proofs.Lookups.{at_place, got_at, is_at, only_some}
use Rattle.change_laws.specs.Pairs.{PairRow, PairedRow}
use Rattle.kept_rows.specs.declared.kept_row.KeptRow.{KeptRow}
use Rattle.kept_rows.specs.Laws.{paired_row, paired_rows}
use Rattle.threaded_listing.specs.declared.visit.NodeRows.{NodeRows}
use Rattle.threaded_listing.specs.ByNode.{HasResults, HaveResults}
use Rattle.kept_validation.specs.Keeping.{IsAtNodes, IsOfPair, IsOfShape, IsOfSome, IsOfSomeNode, KeepsAtNodes, KeepsGraph, KeepsOfFirst, KeepsOfShape, KeepsWhere}

-- results that are given their pair one after another, from the end
abbrev pub AreGiven : ℕ → ℕ → List ResultRow → List KeptRow → List ResultRow → Type 0
AreGiven shape focus all kept rest = (k : KeptRow) → IsOfPair shape focus all k ↔ (Contains kept k ⊎ IsOfPair shape focus rest k)

one_only : {X : Type 0} → (x y : X) → Contains (x ∷ []) y → x ≡ y
one_only x y i = elim (has_cases x [] y i) [
  | inl e ↦ e
  | inr d ↦ absurd (omega (arith, d.1))
]

module _ (shape focus : ℕ) (all : List ResultRow) where
  pub none_given : (kept : List KeptRow) → kept ≡ [] → AreGiven shape focus all kept all
  none_given kept e k = (
    λ o. inr o,
    elim [
      | inl c ↦ let d : Contains [] k = subst (λ (ks : List KeptRow). Contains ks k) e c in absurd (omega (arith, d.1))
      | inr o ↦ o
    ],
  )

  given_on : (kept : List KeptRow) (front : List ResultRow) (r : ResultRow) (new : KeptRow) → new ≡ record { shape = shape; focus = focus; row = r } → AreGiven shape focus all kept (front ++ r ∷ []) → AreGiven shape focus all (kept ++ new ∷ []) front
  given_on kept front r new own given k = (
    λ o. elim ((given k).0 o) [
      | inl c ↦ inl (Contains-append_left kept (new ∷ []) k c)
      | inr h ↦ elim (Contains-append_cases front (r ∷ []) k.row h.2) [
        | inl d ↦ inr (h.0, h.1, d)
        | inr d ↦
            let row = one_only r k.row d in
            let s = h.0 in
            let f = h.1 in
            let same : new ≡ k = own ∙ (λ i. record { shape = sym s i; focus = sym f i; row = row i }) in
            inl (Contains-append_right kept (new ∷ []) k (subst (λ (w : KeptRow). Contains (new ∷ []) w) same (has_head new [])))
      ]
    ],
    λ h. (given k).1 (elim h [
      | inl c ↦ elim (Contains-append_cases kept (new ∷ []) k c) [
        | inl d ↦ inl d
        | inr d ↦
            let same : record { shape = shape; focus = focus; row = r } ≡ k = sym own ∙ one_only new k d in
            inr (sym (ap (λ (w : KeptRow). w.shape) same), sym (ap (λ (w : KeptRow). w.focus) same), Contains-append_right front (r ∷ []) k.row (subst (λ (w : ResultRow). Contains (r ∷ []) w) (ap (λ (w : KeptRow). w.row) same) (has_head r [])))
      ]
      | inr o ↦ inr (o.0, o.1, Contains-append_left front (r ∷ []) k.row o.2)
    ]),
  )

  pub next_given : (kept more : List KeptRow) (rest front : List ResultRow) (r : ResultRow) (new : KeptRow) → rest ≡ front ++ r ∷ [] → new ≡ record { shape = shape; focus = focus; row = r } → more ≡ kept ++ new ∷ []
      → AreGiven shape focus all kept rest → AreGiven shape focus all more front
  next_given kept more rest front r new e own m given =
      subst (λ (ks : List KeptRow). AreGiven shape focus all ks front) (sym m) (given_on kept front r new own (subst (λ (rs : List ResultRow). AreGiven shape focus all kept rs) e given))

  pub all_given : (kept : List KeptRow) (rest : List ResultRow) → rest ≡ [] → AreGiven shape focus all kept rest → (k : KeptRow) → IsOfPair shape focus all k ↔ Contains kept k
  all_given kept rest e given k = (
    λ o. elim ((given k).0 o) [
      | inl c ↦ c
      | inr h ↦ let d : Contains [] k.row = subst (λ (rs : List ResultRow). Contains rs k.row) e h.2 in absurd (omega (arith, d.1))
    ],
    λ c. (given k).1 (inl c),
  )

-- the results at the nodes so far have their pairs
abbrev pub HavePairs : ℕ → List NodeRows → List KeptRow → Type 0
HavePairs shape found kept = (k : KeptRow) → IsOfSomeNode shape found k ↔ Contains kept k

module _ (shape : ℕ) where
  pub none_paired : (kept : List KeptRow) → kept ≡ [] → HavePairs shape [] kept
  none_paired kept e k = (
    λ h. let c = h.1 in absurd (omega (arith, c.1)),
    λ c. let d : Contains [] k = subst (λ (ks : List KeptRow). Contains ks k) e c in absurd (omega (arith, d.1)),
  )

  -- those at one node more
  pub node_paired : (done : List NodeRows) (node : NodeRows) (kept more new : List KeptRow) → new ≡ kept ++ more → HavePairs shape done kept
      → ((k : KeptRow) → IsOfPair shape node.node node.rows k ↔ Contains more k) → HavePairs shape (done ++ node ∷ []) new
  node_paired done node kept more new e before own k = (
    λ h. subst (λ (ks : List KeptRow). Contains ks k) (sym e) (elim (Contains-append_cases done (node ∷ []) h.0 h.1) [
      | inl d ↦ Contains-append_left kept more k ((before k).0 (h.0, d, h.2))
      | inr d ↦ Contains-append_right kept more k ((own k).0 (subst (λ (n : NodeRows). IsOfPair shape n.node n.rows k) (sym (one_only node h.0 d)) h.2))
    ]),
    λ c. elim (Contains-append_cases kept more k (subst (λ (ks : List KeptRow). Contains ks k) e c)) [
      | inl d ↦ let h = (before k).1 d in (h.0, Contains-append_left done (node ∷ []) h.0 h.1, h.2)
      | inr d ↦ (node, Contains-append_right done (node ∷ []) node (has_head node []), (own k).1 d)
    ],
  )

-- what holds of two lists place by place leads from an item of the one to one of the other
zip_from : {A B : Type 0} → (P : A → B → Type 0) (xs : List A) (ys : List B) → AllZip P xs ys → (x : A) → Contains xs x → (y : B) × Contains ys y × P x y
zip_from P [] ys z x c = absurd (omega (arith, c.1))
zip_from P (w ∷ xs) [] z x c = absurd z
zip_from P (w ∷ xs) (y ∷ ys) z x c = elim (has_cases w xs x c) [
  | inl e ↦ (y, has_head y ys, subst (λ v. P v y) e z.0)
  | inr d ↦ let h = zip_from P xs ys z.1 x d in (h.0, has_tail y ys h.0 h.1, h.2)
]

zip_back : {A B : Type 0} → (P : A → B → Type 0) (xs : List A) (ys : List B) → AllZip P xs ys → (y : B) → Contains ys y → (x : A) × Contains xs x × P x y
zip_back P xs [] z y c = absurd (omega (arith, c.1))
zip_back P [] (w ∷ ys) z y c = absurd z
zip_back P (x ∷ xs) (w ∷ ys) z y c = elim (has_cases w ys y c) [
  | inl e ↦ (x, has_head x xs, subst (λ v. P x v) e z.0)
  | inr d ↦ let h = zip_back P xs ys z.1 y d in (h.0, has_tail x xs h.0 h.1, h.2)
]

module _ (terms : List Term) where
  keeps_none : (P : PairedRow → Type 0) → ((p : PairedRow) → P p → ⊥) → KeepsWhere terms [] P
  keeps_none P none = record {
    bound = λ k c. absurd (omega (arith, c.1));
    rows = λ p. (λ c. absurd (omega (arith, c.1)), λ h. absurd (none p h));
  }

  keeps_same : (P Q : PairedRow → Type 0) (kept : List KeptRow) → ((p : PairedRow) → P p ↔ Q p) → KeepsWhere terms kept P → KeepsWhere terms kept Q
  keeps_same P Q kept e h = record {
    bound = h.bound;
    rows = λ p. (λ c. (e p).0 ((h.rows p).0 c), λ q. (h.rows p).1 ((e p).1 q));
  }

  keeps_more : (P Q : PairedRow → Type 0) (a b : List KeptRow) → KeepsWhere terms a P → KeepsWhere terms b Q → KeepsWhere terms (a ++ b) (λ p. P p ⊎ Q p)
  keeps_more P Q a b h k =
      let both : paired_rows terms (a ++ b) ≡ paired_rows terms a ++ paired_rows terms b = map-append (paired_row terms) a b in
      record {
        bound = λ r c. elim (Contains-append_cases a b r c) [ inl d ↦ h.bound r d | inr d ↦ k.bound r d ];
        rows = λ p. (
          λ c. elim (Contains-append_cases (paired_rows terms a) (paired_rows terms b) p (subst (λ (ps : List PairedRow). Contains ps p) both c)) [
            | inl d ↦ inl ((h.rows p).0 d)
            | inr d ↦ inr ((k.rows p).0 d)
          ],
          λ q. subst (λ (ps : List PairedRow). Contains ps p) (sym both) (elim q [
            | inl i ↦ Contains-append_left (paired_rows terms a) (paired_rows terms b) p ((h.rows p).1 i)
            | inr i ↦ Contains-append_right (paired_rows terms a) (paired_rows terms b) p ((k.rows p).1 i)
          ]),
        );
      }

  -- the results of one item more
  next : (P Q R : PairedRow → Type 0) (kept more new : List KeptRow) → new ≡ kept ++ more → ((p : PairedRow) → (P p ⊎ Q p) ↔ R p) → KeepsWhere terms kept P → KeepsWhere terms more Q → KeepsWhere terms new R
  next P Q R kept more new e same h k =
      keeps_same (λ p. P p ⊎ Q p) R new same (subst (λ (ks : List KeptRow). KeepsWhere terms ks (λ p. P p ⊎ Q p)) (sym e) (keeps_more P Q kept more h k))

  module _ (ids : List Ids) (shapes : List (Shape ℕ)) where
    -- the results of a shape at some nodes, with its number and theirs
    pub at_nodes : (k m : ℕ) (nodes : List ℕ) (found : List NodeRows) (kept : List KeptRow) → AreBound terms shapes → k < length shapes → m ≡ node_at shapes k → All (λ n. n < length terms) nodes
        → HavePairs m found kept → HaveResults terms ids shapes k nodes found → KeepsAtNodes terms ids shapes k nodes kept
    at_nodes k m nodes found kept bound lt number within only have s c stand at acyclic shallow =
        let g = graph_of terms ids in
        let here = is_at terms shapes k lt in
        let node : c.node ≡ term_at terms m =
        ap (λ (r : ReadShape). r.node) (only_some (slice_get (named_shapes terms shapes) k) c here.0 at here.1) ∙ here.2 ∙ sym (ap (term_at terms) number) in
        let own : m < length terms = subst (λ (w : ℕ). w < length terms) (sym number) (node_bound terms shapes bound k lt) in
        record {
          bound = λ q i.
              let o = (only q).1 i in
              let n = zip_back (HasResults terms ids shapes k) nodes found have o.0 o.1 in
              (subst (λ (w : ℕ). w < length terms) (sym o.2.0) own, subst (λ (w : ℕ). w < length terms) (sym (o.2.1 ∙ n.2.0)) (All-contains (λ (w : ℕ). w < length terms) nodes n.0 within n.1));
          rows = λ p. (
            λ i.
                let f = mapped_from (paired_row terms) kept p i in
                let o = (only f.0).1 f.1 in
                let n = zip_back (HasResults terms ids shapes k) nodes found have o.0 o.1 in
                let shape : p.shape ≡ c.node = sym (ap (λ (w : PairedRow). w.shape) f.2) ∙ ap (term_at terms) o.2.0 ∙ sym node in
                let focus : p.focus ≡ term_at terms n.0 = sym (ap (λ (w : PairedRow). w.focus) f.2) ∙ ap (term_at terms) (o.2.1 ∙ n.2.0) in
                let row : f.0.row ≡ p.row = ap (λ (w : PairedRow). w.row) f.2 in
                let is : At g s c.node (term_at terms n.0) f.0.row = ((n.2.1 s c stand at acyclic shallow).members f.0.row).0 o.2.2 in
                (shape, (n.0, n.1, focus), subst (λ (v : Term). At g s c.node v p.row) (sym focus) (subst (λ (r : ResultRow). At g s c.node (term_at terms n.0) r) row is)),
            λ h.
                let f = zip_from (HasResults terms ids shapes k) nodes found have h.1.0 h.1.1 in
                let q : KeptRow = record { shape = m; focus = f.0.node; row = p.row } in
                let there : Contains f.0.rows p.row = ((f.2.1 s c stand at acyclic shallow).members p.row).1 (subst (λ (v : Term). At g s c.node v p.row) h.1.2 h.2) in
                let is : Contains kept q = (only q).0 (f.0, f.1, (refl, refl, there)) in
                let shape : term_at terms m ≡ p.shape = sym node ∙ sym h.0 in
                let focus : term_at terms f.0.node ≡ p.focus = ap (term_at terms) f.2.0 ∙ sym h.1.2 in
                let same : paired_row terms q ≡ p = λ i. record { shape = shape i; focus = focus i; row = p.row } in
                subst (λ (w : PairedRow). Contains (paired_rows terms kept) w) same (mapped_to (paired_row terms) kept q is),
          );
        }

    -- the nodes are the targets of the shape
    pub at_targets : (k : ℕ) (nodes : List ℕ) (kept : List KeptRow) → AtShape terms shapes k (λ s own. AreTargets terms ids s own nodes) → KeepsAtNodes terms ids shapes k nodes kept → KeepsOfShape terms ids shapes k kept
    at_targets k nodes kept targets gathered s c stand at acyclic shallow =
        let g = graph_of terms ids in
        let t = targets s c stand at in
        keeps_same (IsAtNodes terms g s c.node nodes) (IsOfShape g s c.node) kept (λ p. (
          λ h. (h.0, (subst (λ (v : Term). Target g s c.node v) (sym h.1.2) ((t.listed.members h.1.0).0 h.1.1).1, h.2)),
          λ h. let m = mapped_from (term_at terms) nodes p.focus (t.every p.focus h.1.0) in (h.0, (m.0, m.1, sym m.2), h.1.1),
        )) (gathered s c stand at acyclic shallow)

    pub no_shape : KeepsOfFirst terms ids shapes 0 []
    no_shape s stand acyclic shallow = keeps_none (IsOfSome (graph_of terms ids) s []) (λ p h. let d = h.0.1 in absurd (omega (arith, d.1)))

    -- one shape more
    pub more_shape : (k : ℕ) (kept more new : List KeptRow) → k < length shapes → new ≡ kept ++ more → KeepsOfFirst terms ids shapes k kept → KeepsOfShape terms ids shapes k more → KeepsOfFirst terms ids shapes (k + 1) new
    more_shape k kept more new lt e before own s stand acyclic shallow =
        let g = graph_of terms ids in
        let named = named_shapes terms shapes in
        let inside : k < length named = omega (arith, lt, length-map shapes (read_shape (term_at terms))) in
        let h = at_place named k inside in
        let c = get_or named k h.0 in
        next (IsOfSome g s (take k named)) (IsOfShape g s c.node) (IsOfSome g s (take (k + 1) named)) kept more new e (λ p. (
          elim [
            | inl i ↦ ((i.0.0, (joined named k h.0 inside i.0.0).1 (inl i.0.1), i.0.2), i.1)
            | inr i ↦ ((c, (joined named k h.0 inside c).1 (inr refl), sym i.0), subst (λ (t : Term). PairRow g s t p.focus p.row) (sym i.0) i.1)
          ],
          λ i. elim ((joined named k h.0 inside i.0.0).0 i.0.1) [
            | inl d ↦ inl ((i.0.0, d, i.0.2), i.1)
            | inr d ↦ let same : c.node ≡ p.shape = ap (λ (w : ReadShape). w.node) d ∙ i.0.2 in inr (sym same, subst (λ (t : Term). PairRow g s t p.focus p.row) (sym same) i.1)
          ],
        )) (before s stand acyclic shallow) (own s c stand (got_at named k h.0 inside) acyclic shallow)

    -- all shapes
    pub all_shapes : (k : ℕ) (rows kept : List KeptRow) → length shapes ≤ k → KeepsOfFirst terms ids shapes k rows → ((q : KeptRow) → Contains kept q ↔ Contains rows q) → KeepsGraph terms ids shapes kept
    all_shapes k rows kept le before same s stand acyclic shallow =
        let g = graph_of terms ids in
        let named = named_shapes terms shapes in
        let inside : length named ≤ k = omega (arith, le, length-map shapes (read_shape (term_at terms))) in
        let all : KeepsWhere terms rows (IsOfSome g s named) = subst (λ (cs : List ReadShape). KeepsWhere terms rows (IsOfSome g s cs)) (take_all k named inside) (before s stand acyclic shallow) in
        record {
          bound = λ q i. all.bound q ((same q).0 i);
          results = λ p. (
            λ i. let f = mapped_from (paired_row terms) kept p i in
                ((all.rows p).0 (subst (λ (w : PairedRow). Contains (paired_rows terms rows) w) f.2 (mapped_to (paired_row terms) rows f.0 ((same f.0).0 f.1)))).1,
            λ h.
                let c = stand.all p.shape (makes_shape s p.shape (has_target g s p.shape p.focus h.0)) in
                let there = (all.rows p).1 ((c.0, c.1, c.2), h) in
                let f = mapped_from (paired_row terms) rows p there in
                subst (λ (w : PairedRow). Contains (paired_rows terms kept) w) f.2 (mapped_to (paired_row terms) kept f.0 ((same f.0).1 f.1)),
          );
        }
