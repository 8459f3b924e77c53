-- Results of triples that a closed shape doesn't allow, edge by edge and value node by value node.
use Rattle.std.proofs.Common.{◌≡◌, ◌∙◌, ℕ, ◌<◌, List, [], ◌∷◌, ◌++◌, length, sym, ap, arith, subst, inl, inr}
use Rattle.std.specs.List.{Contains}
use Rattle.collections.specs.Listings.{IsListing}
use Rattle.collections.specs.Pairs.{pair_cmp}
use Rattle.collections.proofs.Members.{has_cases}
use Rattle.rdf_model.specs.declared.term.Term.{Term}
use Rattle.rdf_model.specs.declared.triple.Triple.{Triple}
use Rattle.rdf_model.specs.declared.ids.Ids.{Ids}
use Rattle.rdf_model.specs.Numbers.{term_at, triple_at, IsNumbering, AreNumbered, IsEdge}
use Rattle.shape_model.specs.Vocabulary.{true_literal}
use Rattle.shape_model.specs.declared.component.Component.TheVariants as components
use Rattle.shape_model.specs.declared.result_row.ResultRow.{ResultRow}
use Rattle.shape_model.specs.Components.{Finding, RowsOf}
use Rattle.component_rows.specs.Listed.{Collects, Lists, found_with, with_allowed}
use Rattle.component_rows.specs.Nodes.{AreNodes, HasNode}
use Rattle.component_rows.proofs.Collecting.{collects_same, lists_none, mapped_from, mapped_to}
use Rattle.value_constraints.specs.Closing.{in_graph, ForbiddenAt, ForbiddenOf, ForbiddenOfSome}

module _ (terms : List Term) (numbering : IsNumbering terms) (ids : List Ids) (numbered : AreNumbered terms ids) where
  all_in : (is : List Ids) → AreNumbered terms is → (i : Ids) → Contains is i → (i.subject < length terms) × (i.predicate < length terms) × (i.object < length terms)
  all_in [] a i c = absurd (omega arith)
  all_in (j ∷ js) a i c = elim (has_cases j js i c) [
    | inl e ↦ subst (λ (k : Ids). (k.subject < length terms) × (k.predicate < length terms) × (k.object < length terms)) e a.0
    | inr d ↦ all_in js a.1 i d
  ]

  -- the edges that a graph lists have terms
  pub edges_named : (n : ℕ) (edges : List (ℕ × ℕ)) → IsListing pair_cmp (IsEdge ids n) edges → (e : ℕ × ℕ) → Contains edges e → (e.0 < length terms) × (e.1 < length terms)
  edges_named n edges listing e c =
      let in_range = all_in ids numbered (record { subject = n; predicate = e.0; object = e.1 }) ((listing.members e).0 c) in
      (in_range.1, in_range.2)

  module _ (row : Finding → ResultRow) (allowed values : List ℕ) (named : AreNodes terms allowed) (nodes : AreNodes terms values) where
    -- the results of the listed edges are those of all
    pub of_listed : (n : ℕ) (edges : List (ℕ × ℕ)) (old new : List ResultRow) → IsListing pair_cmp (IsEdge ids n) edges
        → ((more : List ResultRow) × (new ≡ old ++ more) × Collects (ForbiddenAt terms row allowed n edges) more)
        → (more : List ResultRow) × (new ≡ old ++ more) × Collects (ForbiddenOf terms ids row allowed n) more
    of_listed n edges old new listing h = (
      h.0,
      h.1,
      collects_same (ForbiddenAt terms row allowed n edges) (ForbiddenOf terms ids row allowed n) h.0
          (λ r. (λ k. (k.0, (listing.members k.0).0 k.1, k.2), λ k. (k.0, (listing.members k.0).1 k.1, k.2))) h.2,
    )

    -- an allowed predicate is one whose number is allowed
    allowed_number : (p : ℕ) → p < length terms → HasNode terms allowed (term_at terms p) → Contains allowed p
    allowed_number p lt h =
        let k = mapped_from (term_at terms) allowed (term_at terms p) h in
        subst (λ (m : ℕ). Contains allowed m) (numbering k.0 p (named.named k.0 k.1) lt k.2) k.1

    abbrev ClosedRow : Term → ResultRow → Type 0
    ClosedRow q = RowsOf components.Closed (in_graph terms ids values) (with_allowed (HasNode terms allowed)) q row

    from_numbers : (q : Term) → q ≡ true_literal → (r : ResultRow) → ForbiddenOfSome terms ids row allowed values r → ClosedRow q r
    from_numbers q is r h =
        let n = h.0 in
        let edge = h.2.0 in
        let forbidden = h.2.2 in
        let in_range = all_in ids numbered (record { subject = n; predicate = edge.0; object = edge.1 }) h.2.1 in (
          is,
          (
            term_at terms n,
            term_at terms edge.0,
            term_at terms edge.1,
            mapped_to (term_at terms) values n h.1,
            mapped_to (triple_at terms) ids (record { subject = n; predicate = edge.0; object = edge.1 }) h.2.1,
            (λ a. forbidden.0 (allowed_number edge.0 in_range.1 a)),
            forbidden.1,
          ),
        )

    to_numbers : (q : Term) (r : ResultRow) → ClosedRow q r → ForbiddenOfSome terms ids row allowed values r
    to_numbers q r h =
        let t = h.1 in
        let n = mapped_from (term_at terms) values t.0 t.3 in
        let i = mapped_from (triple_at terms) ids (record { subject = t.0; predicate = t.1; object = t.2 }) t.4 in
        let in_range = all_in ids numbered i.0 i.1 in
        let subject : term_at terms i.0.subject ≡ t.0 = ap (λ (x : Triple). x.subject) i.2 in
        let predicate : term_at terms i.0.predicate ≡ t.1 = ap (λ (x : Triple). x.predicate) i.2 in
        let object : term_at terms i.0.object ≡ t.2 = ap (λ (x : Triple). x.object) i.2 in
        let same : i.0.subject ≡ n.0 = numbering i.0.subject n.0 in_range.0 (nodes.named n.0 n.1) (subject ∙ sym n.2) in (
          n.0,
          n.1,
          (
            (i.0.predicate, i.0.object),
            subst (λ (s : ℕ). Contains ids (record { subject = s; predicate = i.0.predicate; object = i.0.object })) same i.1,
            (
              (λ c. t.5 (subst (λ (p : Term). HasNode terms allowed p) predicate (mapped_to (term_at terms) allowed i.0.predicate c))),
              t.6 ∙ (λ j. row (found_with (sym n.2 j) (sym object j) (sym predicate j))),
            ),
          ),
        )

    pub all_closed : (q : Term) → q ≡ true_literal → (rows : List ResultRow) → Collects (ForbiddenOfSome terms ids row allowed values) rows → Collects (ClosedRow q) rows
    all_closed q is rows = collects_same (ForbiddenOfSome terms ids row allowed values) (ClosedRow q) rows (λ r. (from_numbers q is r, to_numbers q r))

    -- where the parameter isn't true there are none
    pub none_closed : (q : Term) → (q ≡ true_literal → ⊥) → Lists (ClosedRow q) []
    none_closed q not = lists_none (ClosedRow q) (λ r h. not h.0)
