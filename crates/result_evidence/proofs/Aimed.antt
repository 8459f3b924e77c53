-- All results with their aims, shape by shape and target by target; and that the first with its row has the least aim.
use Rattle.std.proofs.Common.{◌≡◌, ◌∙◌, ℕ, ◌+◌, ◌<◌, ◌≤◌, List, [], ◌∷◌, ◌++◌, length, map, take, get_or, refl, sym, ap, subst, arith, inl, inr, zero, suc}
use Rattle.std.specs.Prelude.{◌⊎◌, ◌≢◌, Some, slice_get}
use Rattle.std.specs.List.{Contains}
use Rattle.std.proofs.lemmas.List.{take_all, take_more}
use Rattle.std.proofs.lemmas.List.Elements.{Contains-append_cases, Contains-append_left, Contains-append_right, Contains-get_or}
use Rattle.std.specs.declared.cmp.Ordering.{Ordering}
use Rattle.std.specs.declared.cmp.Ordering.TheVariants.{Less, Equal, Greater}
use Rattle.std.specs.Ordering.{nat_cmp, ordering_then}
use Rattle.std.specs.Cmp.{IsTotalOrder, nat_cmp_is, tied_itself}
use Rattle.collections.specs.Listings.{IsListing}
use Rattle.collections.specs.Ordered.{IsAscending}
use Rattle.collections.proofs.Members.{below, has_cases, has_equal, has_head, has_tail}
use Rattle.rdf_model.specs.declared.ids.Ids.{Ids}
use Rattle.rdf_model.specs.declared.term.Term.{Term}
use Rattle.rdf_model.specs.declared.triple.Triple.{Triple}
use Rattle.rdf_model.specs.Numbers.{graph_of, term_at}
use Rattle.rdf_model.specs.Terms.{term_cmp}
use Rattle.shape_model.specs.declared.result_row.ResultRow.{ResultRow}
use Rattle.shape_model.specs.Orders.{result_row_total}
use Rattle.shape_model.specs.Rows.{result_row_cmp}
use Rattle.shape_model.specs.Validation.{At}
use Rattle.path_eval.proofs.Mirrors.{mapped_from, mapped_to}
use Rattle.shape_ast.specs.declared.shape.Shape.{Shape}
use Rattle.shape_ast.specs.Readings.{ReadShape, named_shapes, read_shape}
use Rattle.shape_ast.specs.Standing.{shape_cmp}
use Rattle.shape_eval.proofs.Lookups.{at_place, named_place, only_some}
use Rattle.target_nodes.specs.ShapeTargets.{AreTargets}
use Rattle.result_evidence.specs.declared.aimed_row.AimedRow.{AimedRow}
use Rattle.result_evidence.specs.AimedOrder.{aimed_cmp, aimed_total}
use Rattle.result_evidence.specs.AimedRows.{AreAimedRows, AreAimsBelow, AreAimsOf, FindsAt, FindsAtSome, HasAim, IsFoundAt, IsLeastAimed, aimed_at}
use Rattle.evidence_blocks.specs.Blocks.{Gives, IsLeastAim, aim_cmp}
use Rattle.result_evidence.specs.Standing.{AreOf, ForEach, ForShape, HaveGraph}
use Rattle.result_evidence.proofs.LeastAims.{above_at, equal_terms, shape_place, three_ways, two_ways}

module _ (terms : List Term) (ids : List Ids) where
  -- the results at one node
  pub at_node : (s : List Triple) (shape : Term) (place n : ℕ) (rows : List ResultRow) (found : List AimedRow) → found ≡ map (aimed_at place (term_at terms n) n) rows
      → IsListing result_row_cmp (At (graph_of terms ids) s shape (term_at terms n)) rows → FindsAt terms ids s shape place n found
  at_node s shape place n rows found is l x =
      let P = At (graph_of terms ids) s shape (term_at terms n) in
      let mk = aimed_at place (term_at terms n) n in (
        λ c. let k = mapped_from mk rows x (subst (λ (fs : List AimedRow). Contains fs x) is c) in
            subst (λ (y : AimedRow). IsFoundAt terms place n P y) k.2 (refl, refl, refl, (l.members k.0).0 k.1),
        λ h. let same : mk x.row ≡ x = λ i. record { row = x.row; place = sym h.0 i; focus = sym h.2 i; number = sym h.1 i } in
            let made = mapped_to mk rows x.row ((l.members x.row).1 h.3) in
            subst (λ (fs : List AimedRow). Contains fs x) (sym is) (subst (λ (y : AimedRow). Contains (map mk rows) y) same made),
      )

  -- the results at some nodes
  pub no_nodes : (s : List Triple) (shape : Term) (place : ℕ) → FindsAtSome terms ids s shape place [] []
  no_nodes s shape place x = (λ c. absurd (omega (arith, c.1)), λ h. let c = h.1 in absurd (omega (arith, c.1)))

  one_more : (s : List Triple) (shape : Term) (place : ℕ) (nodes : List ℕ) (n : ℕ) (old more : List AimedRow) → FindsAtSome terms ids s shape place nodes old → FindsAt terms ids s shape place n more
      → FindsAtSome terms ids s shape place (nodes ++ n ∷ []) (old ++ more)
  one_more s shape place nodes n old more before own x = (
    λ c. elim (Contains-append_cases old more x c) [
      | inl d ↦ let h = (before x).0 d in (h.0, Contains-append_left nodes (n ∷ []) h.0 h.1, h.2)
      | inr d ↦ (n, Contains-append_right nodes (n ∷ []) n (has_head n []), (own x).0 d)
    ],
    λ h. elim (Contains-append_cases nodes (n ∷ []) h.0 h.1) [
      | inl d ↦ Contains-append_left old more x ((before x).1 (h.0, d, h.2))
      | inr d ↦ elim (has_cases n [] h.0 d) [
        | inl e ↦ Contains-append_right old more x ((own x).1 (subst (λ (m : ℕ). IsFoundAt terms place m (At (graph_of terms ids) s shape (term_at terms m)) x) (sym e) h.2))
        | inr never ↦ absurd (omega (arith, never.1))
      ]
    ],
  )

  pub more_node : (s : List Triple) (shape : Term) (place : ℕ) (nodes : List ℕ) (i : ℕ) (old more new : List AimedRow) → i < length nodes → new ≡ old ++ more
      → FindsAtSome terms ids s shape place (take i nodes) old → FindsAt terms ids s shape place (get_or nodes i 0) more → FindsAtSome terms ids s shape place (take (i + 1) nodes) new
  more_node s shape place nodes i old more new lt joined before own =
      subst (λ (p : List ℕ × List AimedRow). FindsAtSome terms ids s shape place p.0 p.1) (λ k. (sym (take_more nodes i 0 lt) k, sym joined k)) (one_more s shape place (take i nodes) (get_or nodes i 0) old more before own)

  pub every_node : (s : List Triple) (shape : Term) (place : ℕ) (nodes : List ℕ) (i : ℕ) (found : List AimedRow) → length nodes ≤ i → FindsAtSome terms ids s shape place (take i nodes) found → FindsAtSome terms ids s shape place nodes found
  every_node s shape place nodes i found le h = subst (λ (ns : List ℕ). FindsAtSome terms ids s shape place ns found) (take_all i nodes le) h

  -- the nodes are the targets of the shape
  pub at_targets : (s : List Triple) (shape : Term) (place : ℕ) (nodes : List ℕ) (found : List AimedRow) → AreTargets terms ids s shape nodes → FindsAtSome terms ids s shape place nodes found → AreAimsOf terms ids s shape place found
  at_targets s shape place nodes found t h = record {
    sound = λ x c.
        let k = (h x).0 c in
        let b = (t.listed.members k.0).0 k.1 in (
          k.2.0,
          (
            subst (λ (m : ℕ). m < length terms) (sym k.2.1) b.0,
            k.2.2 ∙ ap (term_at terms) (sym k.2.1),
            subst (λ (f : Term). Gives (graph_of terms ids) s x.row shape f) (sym k.2.2) (b.1, k.2.3),
          ),
        );
    every = λ r f gives.
        let m = mapped_from (term_at terms) nodes f (t.every f gives.0) in
        let x = aimed_at place (term_at terms m.0) m.0 r in
        (x, (h x).1 (m.0, m.1, (refl, refl, refl, subst (λ (v : Term). At (graph_of terms ids) s shape v r) (sym m.2) gives.1)), refl, refl, m.2);
  }

  -- a list with more has the aims that stood in a part of it
  aim_left : (old more : List AimedRow) (r : ResultRow) (j : ℕ) (f : Term) → HasAim old r j f → HasAim (old ++ more) r j f
  aim_left old more r j f h = (h.0, Contains-append_left old more h.0 h.1, h.2, h.3, h.4)

  aim_right : (old more : List AimedRow) (r : ResultRow) (j k : ℕ) (f : Term) → j ≡ k → HasAim more r k f → HasAim (old ++ more) r j f
  aim_right old more r j k f e h = (h.0, Contains-append_right old more h.0 h.1, h.2, h.3 ∙ sym e, h.4)

  module _ (shapes : List (Shape ℕ)) where
    pub no_shape : (s : List Triple) → AreAimsBelow terms ids shapes 0 s []
    no_shape s = record { sound = λ x c. absurd (omega (arith, c.1)); every = λ j c r f lt. absurd (omega (arith, lt)) }

    shape_more : (s : List Triple) (k : ℕ) (c : ReadShape) (old more : List AimedRow) → slice_get (named_shapes terms shapes) k ≡ Some c → AreAimsBelow terms ids shapes k s old → AreAimsOf terms ids s c.node k more
        → AreAimsBelow terms ids shapes (k + 1) s (old ++ more)
    shape_more s k c old more at before own = record {
      sound = λ x i. elim (Contains-append_cases old more x i) [
        | inl d ↦ let h = before.sound x d in (omega (arith, h.0), h.1)
        | inr d ↦ let h = own.sound x d in (omega (arith, h.0), (c, subst (λ (j : ℕ). slice_get (named_shapes terms shapes) j ≡ Some c) (sym h.0) at, h.1))
      ];
      every = λ j d r f lt stands gives. elim (two_ways j k lt) [
        | inl under ↦ aim_left old more r j f (before.every j d r f under stands gives)
        | inr e ↦ (let same : d ≡ c = only_some (slice_get (named_shapes terms shapes) k) d c (subst (λ (n : ℕ). slice_get (named_shapes terms shapes) n ≡ Some d) e stands) at in
            aim_right old more r j k f e (own.every r f (subst (λ (b : ReadShape). Gives (graph_of terms ids) s r b.node f) same gives)))
      ];
    }

    pub more_shape : (k : ℕ) (old more new : List AimedRow) → k < length shapes → new ≡ old ++ more → ForEach terms shapes (λ s. AreAimsBelow terms ids shapes k s old)
        → ForShape terms shapes k (λ s shape. AreAimsOf terms ids s shape k more) → ForEach terms shapes (λ s. AreAimsBelow terms ids shapes (k + 1) s new)
    more_shape k old more new lt joined before own s of =
        let p = at_place shapes k lt in
        let c = read_shape (term_at terms) p.0 in
        let at = named_place terms shapes k p.0 p.1 in
        subst (λ (all : List AimedRow). AreAimsBelow terms ids shapes (k + 1) s all) (sym joined) (shape_more s k c old more at (before s of) (own s c of at))

    -- the same in order
    pub in_order : (all sorted : List AimedRow) → ForEach terms shapes (λ s. AreAimsBelow terms ids shapes (length shapes) s all) → IsListing aimed_cmp (Contains all) sorted → AreAimedRows terms ids shapes sorted
    in_order all sorted h l = (
      l.ascending,
      λ s of. record {
        sound = λ x c. (h s of).sound x ((l.members x).0 c);
        every = λ j c r f lt at gives. let k = (h s of).every j c r f lt at gives in (k.0, (l.members k.0).1 k.1, k.2, k.3, k.4);
      },
    )

-- An item of an ascending list stands before a place of it, or isn't below the item there.
pub before_or_not_below : {X : Type 0} → (R : X → X → Ordering) → IsTotalOrder R → (xs : List X) → IsAscending R xs → (i : ℕ) (y x : X) → i < length xs → y ≡ get_or xs i y → Contains xs x → Contains (take i xs) x ⊎ (R y x ≢ Greater)
before_or_not_below R total [] a i y x lt e c = absurd (omega (arith, lt))
before_or_not_below R total (z ∷ zs) a zero y x lt e c = inr (elim (has_cases z zs x c) [
  | inl f ↦ let k = tied_itself total x in let m = subst (λ w. R w x ≡ Equal) (sym (e ∙ f)) k in λ gt. cc (m, gt)
  | inr d ↦ let m = subst (λ w. R w x ≡ Less) (sym e) (below R z zs x a.0 d) in λ gt. cc (m, gt)
])
before_or_not_below R total (z ∷ zs) a (suc i) y x lt e c = elim (has_cases z zs x c) [
  | inl f ↦ inl (has_equal z (take i zs) x f)
  | inr d ↦ elim (before_or_not_below R total zs a.1 i y x (omega (arith, lt)) e d) [ inl h ↦ inl (has_tail z (take i zs) x h) | inr n ↦ inr n ]
]

-- what comes later for its shape, or at one shape for its focus node, comes later
module _ (y : AimedRow) (j : ℕ) (h : Term) (m : ℕ) where
  abbrev other_at : AimedRow
  other_at = record { row = y.row; place = j; focus = h; number = m }

  same_row : (o : Ordering) → ordering_then (nat_cmp y.place j) (ordering_then (term_cmp y.focus h) (nat_cmp y.number m)) ≡ o → aimed_cmp y other_at ≡ o
  same_row o e = let k = tied_itself result_row_total y.row in ap (λ (p : Ordering). ordering_then p (ordering_then (nat_cmp y.place j) (ordering_then (term_cmp y.focus h) (nat_cmp y.number m)))) k ∙ e

  later_place : j < y.place → aimed_cmp y other_at ≡ Greater
  later_place lt = same_row Greater (ap (λ (p : Ordering). ordering_then p (ordering_then (term_cmp y.focus h) (nat_cmp y.number m))) (sym (nat_cmp_is y.place j Greater lt)))

  later_focus : j ≡ y.place → term_cmp y.focus h ≡ Greater → aimed_cmp y other_at ≡ Greater
  later_focus e gt = same_row Greater (
      ap (λ (p : Ordering). ordering_then p (ordering_then (term_cmp y.focus h) (nat_cmp y.number m))) (sym (nat_cmp_is y.place j Equal (sym e)))
      ∙ ap (λ (p : Ordering). ordering_then p (nat_cmp y.number m)) gt
      )

module _ (terms : List Term) (ids : List Ids) (shapes : List (Shape ℕ)) (rows : List AimedRow) (all : AreAimedRows terms ids shapes rows) where
  module _ (i : ℕ) (y : AimedRow) (lt : i < length rows) (is : y ≡ get_or rows i y) (first : (x : AimedRow) → Contains (take i rows) x → x.row ≡ y.row → ⊥) where
    inside : Contains rows y
    inside = subst (λ (x : AimedRow). Contains rows x) (sym is) (Contains-get_or rows i y lt)

    -- no aim of the row is before its own
    not_later : (s : List Triple) → AreOf terms shapes s → (j : ℕ) (c : ReadShape) (h : Term) → j < length shapes → slice_get (named_shapes terms shapes) j ≡ Some c → Gives (graph_of terms ids) s y.row c.node h
        → (m : ℕ) × (aimed_cmp y (other_at y j h m) ≢ Greater)
    not_later s of j c h under at gives =
        let x = (all.1 s of).every j c y.row h under at gives in
        let same : x.0 ≡ other_at y j h x.0.number = λ k. record { row = x.2 k; place = x.3 k; focus = x.4 k; number = x.0.number } in (
          x.0.number,
          elim (before_or_not_below aimed_cmp aimed_total rows all.0 i y x.0 lt is x.1) [
            | inl before ↦ absurd (first x.0 before x.2)
            | inr never ↦ subst (λ (z : AimedRow). aimed_cmp y z ≢ Greater) same never
          ],
        )

    least_by : (s : List Triple) (c : ReadShape) → AreOf terms shapes s → slice_get (named_shapes terms shapes) y.place ≡ Some c → (other h : Term) → Gives (graph_of terms ids) s y.row other h → aim_cmp c.node y.focus other h ≢ Greater
    least_by s c of at other h gives gt =
        let named = named_shapes terms shapes in
        let p = shape_place terms ids shapes y.row s of other h gives in
        let own = subst (λ (t : Term). Gives (graph_of terms ids) s y.row t h) (sym p.4) gives in
        let n = not_later s of p.0 p.1 h p.2 p.3 own in
        elim (three_ways p.0 y.place) [
          | inl under ↦ n.1 (later_place y p.0 h n.0 under)
          | inr (inl e) ↦ (let same : c ≡ p.1 = only_some (slice_get named y.place) c p.1 at (subst (λ (k : ℕ). slice_get named k ≡ Some p.1) e p.3) in
              let tied = equal_terms c.node other (ap (λ (d : ReadShape). d.node) same ∙ p.4) in
              n.1 (later_focus y p.0 h n.0 e (sym (ap (λ (o : Ordering). ordering_then o (term_cmp y.focus h)) tied) ∙ gt)))
          | inr (inr over) ↦ (let less : term_cmp c.node p.1.node ≡ Less = above_at shape_cmp named y.place p.0 c p.1 of.stand.ascending over at p.3 in
              let e = subst (λ (t : Term). term_cmp c.node t ≡ Less) p.4 less in
              let k : Less ≡ Greater = sym (ap (λ (o : Ordering). ordering_then o (term_cmp y.focus h)) e) ∙ gt in cc)
        ]

    gives_here : (s : List Triple) (c : ReadShape) → AreOf terms shapes s → slice_get (named_shapes terms shapes) y.place ≡ Some c → Gives (graph_of terms ids) s y.row c.node y.focus
    gives_here s c of at =
        let k = (all.1 s of).sound y inside in
        let same : k.1.0 ≡ c = only_some (slice_get (named_shapes terms shapes) y.place) k.1.0 c k.1.1 at in
        subst (λ (b : ReadShape). Gives (graph_of terms ids) s y.row b.node y.focus) same k.1.2.2

    pub first_is_least : HaveGraph terms shapes → IsLeastAimed terms ids shapes y
    first_is_least some =
        let k = (all.1 some.0 some.1).sound y inside in
        record {
          place = k.0;
          number = k.1.2.0;
          least = λ s c of at. subst (λ (f : Term). IsLeastAim (graph_of terms ids) s y.row c.node f) k.1.2.1 (record { gives = gives_here s c of at; least = least_by s c of at });
        }
