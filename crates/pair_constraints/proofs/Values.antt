-- The values of a property at the focus node, by numbers and by terms.
use Rattle.std.proofs.Common.{◌≡◌, ◌∙◌, ℕ, ◌+◌, ◌<◌, ◌≤◌, Bool, true, false, cond, List, [], ◌∷◌, ◌++◌, length, take, get_or, refl, sym, ap, arith, subst, inl, inr}
use Rattle.std.specs.Prelude.{◌↔◌, ◌⊎◌}
use Rattle.std.specs.List.{Contains}
use Rattle.std.specs.Ordering.{nat_cmp}
use Rattle.std.proofs.lemmas.List.{take_more, take_all}
use Rattle.std.proofs.lemmas.List.Elements.{Contains-append_left, Contains-append_right, Contains-append_cases}
use Rattle.collections.specs.Listings.{IsListing}
use Rattle.collections.proofs.Members.{has_cases, has_equal}
use Rattle.rdf_model.specs.declared.term.Term.{Term}
use Rattle.rdf_model.specs.declared.triple.Triple.{Triple}
use Rattle.rdf_model.specs.declared.ids.Ids.{Ids}
use Rattle.rdf_model.specs.declared.look.Look.TheVariants.{Out}
use Rattle.rdf_model.specs.Numbers.{term_at, triple_at, graph_of, AreNumbered, IsFound}
use Rattle.shape_model.specs.declared.component.Component.TheVariants as components
use Rattle.shape_model.specs.declared.result_row.ResultRow.{ResultRow}
use Rattle.shape_model.specs.Components.{Finding, RowsOf, found_at, found_beside}
use Rattle.shape_model.specs.TermTests.{IsLess, IsAtMost}
use Rattle.shape_model.specs.Triples.{Has}
use Rattle.component_rows.specs.Listed.{Collects, Lists, untold}
use Rattle.component_rows.specs.Nodes.{HasNode}
use Rattle.component_rows.proofs.Collecting.{lists_same, mapped_from, mapped_to}
use Rattle.pair_constraints.specs.declared.order.Comparison.TheVariants.{Less, AtMost}
use Rattle.component_rows.specs.Sites.{IsSpot, Spot}
use Rattle.pair_constraints.specs.Focus.{at_focus, IsKept, Pairs}

-- one number more is kept, or isn't
module _ (numbers others : List ℕ) (wanted : Bool) where
  abbrev pub Kept : ℕ → List ℕ → Type 0
  Kept i found = (n : ℕ) → Contains found n ↔ (Contains (take i numbers) n × IsKept wanted others n)

  more_numbers : (i n : ℕ) → i < length numbers → Contains (take (i + 1) numbers) n → Contains (take i numbers) n ⊎ (get_or numbers i 0 ≡ n)
  more_numbers i n lt c = elim (Contains-append_cases (take i numbers) (get_or numbers i 0 ∷ []) n (subst (λ (ns : List ℕ). Contains ns n) (take_more numbers i 0 lt) c)) [
    | inl d ↦ inl d
    | inr d ↦ elim (has_cases (get_or numbers i 0) [] n d) [ inl e ↦ inr e | inr never ↦ absurd (omega arith) ]
  ]

  old_numbers : (i n : ℕ) → i < length numbers → Contains (take i numbers) n → Contains (take (i + 1) numbers) n
  old_numbers i n lt c = subst (λ (ns : List ℕ). Contains ns n) (sym (take_more numbers i 0 lt)) (Contains-append_left (take i numbers) (get_or numbers i 0 ∷ []) n c)

  new_number : (i : ℕ) → i < length numbers → Contains (take (i + 1) numbers) (get_or numbers i 0)
  new_number i lt = subst (λ (ns : List ℕ). Contains ns (get_or numbers i 0)) (sym (take_more numbers i 0 lt)) (Contains-append_right (take i numbers) (get_or numbers i 0 ∷ []) (get_or numbers i 0) (has_equal (get_or numbers i 0) [] (get_or numbers i 0) refl))

  pub keeps : (i : ℕ) (found new : List ℕ) → i < length numbers → new ≡ found ++ get_or numbers i 0 ∷ [] → IsKept wanted others (get_or numbers i 0) → Kept i found → Kept (i + 1) new
  keeps i found new lt is kept h = subst (λ (all : List ℕ). Kept (i + 1) all) (sym is) (λ n. (
    λ c. elim (Contains-append_cases found (get_or numbers i 0 ∷ []) n c) [
      | inl d ↦ let old = (h n).0 d in (old_numbers i n lt old.0, old.1)
      | inr d ↦ elim (has_cases (get_or numbers i 0) [] n d) [
        | inl e ↦ subst (λ (m : ℕ). Contains (take (i + 1) numbers) m × IsKept wanted others m) e (new_number i lt, kept)
        | inr never ↦ absurd (omega arith)
      ]
    ],
    λ p. elim (more_numbers i n lt p.0) [
      | inl d ↦ Contains-append_left found (get_or numbers i 0 ∷ []) n ((h n).1 (d, p.1))
      | inr e ↦ Contains-append_right found (get_or numbers i 0 ∷ []) n (has_equal (get_or numbers i 0) [] n e)
    ],
  ))

  pub passes : (i : ℕ) (found : List ℕ) → i < length numbers → (IsKept wanted others (get_or numbers i 0) → ⊥) → Kept i found → Kept (i + 1) found
  passes i found lt other h n = (
    λ c. let old = (h n).0 c in (old_numbers i n lt old.0, old.1),
    λ p. elim (more_numbers i n lt p.0) [
      | inl d ↦ (h n).1 (d, p.1)
      | inr e ↦ absurd (other (subst (λ (m : ℕ). IsKept wanted others m) (sym e) p.1))
    ],
  )

  pub one_step : (i : ℕ) (b : Bool) (found new : List ℕ) → i < length numbers → new ≡ cond b (found ++ get_or numbers i 0 ∷ []) found → (b ≡ true) ↔ IsKept wanted others (get_or numbers i 0) → Kept i found → Kept (i + 1) new
  one_step i true found new lt is h k = keeps i found new lt is (h.0 refl) k
  one_step i false found new lt is h k = subst (λ (all : List ℕ). Kept (i + 1) all) (sym is) (passes i found lt (λ p. let yes : false ≡ true = h.1 p in cc) k)

  pub all_kept : (i : ℕ) (found : List ℕ) → length numbers ≤ i → Kept i found → (n : ℕ) → Contains found n ↔ (Contains numbers n × IsKept wanted others n)
  all_kept i found le h = subst (λ (ns : List ℕ). (n : ℕ) → Contains found n ↔ (Contains ns n × IsKept wanted others n)) (take_all i numbers le) h

module _ (s : Spot) (known : IsSpot s) (ids : List Ids) (numbered : AreNumbered s.terms ids) (others : List ℕ) (listing : IsListing nat_cmp (IsFound (Out s.focus s.parameter) ids) others) where
  all_in : (is : List Ids) → AreNumbered s.terms is → (i : Ids) → Contains is i → (i.subject < length s.terms) × (i.predicate < length s.terms) × (i.object < length s.terms)
  all_in [] a i c = absurd (omega arith)
  all_in (j ∷ js) a i c = elim (has_cases j js i c) [
    | inl e ↦ subst (λ (k : Ids). (k.subject < length s.terms) × (k.predicate < length s.terms) × (k.object < length s.terms)) e a.0
    | inr d ↦ all_in js a.1 i d
  ]

  pub value_bound : (n : ℕ) → Contains others n → n < length s.terms
  value_bound n c = (all_in ids numbered (record { subject = s.focus; predicate = s.parameter; object = n }) ((listing.members n).0 c)).2

  -- a value by its number is one by its term
  value_to : (n : ℕ) → Contains others n → Has (graph_of s.terms ids) (term_at s.terms s.focus) (term_at s.terms s.parameter) (term_at s.terms n)
  value_to n c = mapped_to (triple_at s.terms) ids (record { subject = s.focus; predicate = s.parameter; object = n }) ((listing.members n).0 c)

  value_from : (w : Term) → Has (graph_of s.terms ids) (term_at s.terms s.focus) (term_at s.terms s.parameter) w → (n : ℕ) × Contains others n × (term_at s.terms n ≡ w)
  value_from w h =
      let k = mapped_from (triple_at s.terms) ids (record { subject = term_at s.terms s.focus; predicate = term_at s.terms s.parameter; object = w }) h in
      let in_range = all_in ids numbered k.0 k.1 in
      let subject : k.0.subject ≡ s.focus = known.numbering k.0.subject s.focus in_range.0 known.focus_named (ap (λ (t : Triple). t.subject) k.2) in
      let predicate : k.0.predicate ≡ s.parameter = known.numbering k.0.predicate s.parameter in_range.1 known.parameter_named (ap (λ (t : Triple). t.predicate) k.2) in
      let is : k.0 ≡ record { subject = s.focus; predicate = s.parameter; object = k.0.object } = λ i. record { subject = subject i; predicate = predicate i; object = k.0.object } in
      (k.0.object, (listing.members k.0.object).1 (subst (λ (x : Ids). Contains ids x) is k.1), ap (λ (t : Triple). t.object) k.2)

  module _ (row : Finding → ResultRow) where
    -- two numbers of one term are one
    one : (n m : ℕ) (v : Term) → n < length s.terms → m < length s.terms → term_at s.terms n ≡ v → term_at s.terms m ≡ v → n ≡ m
    one n m v a b d e = known.numbering n m a b (d ∙ sym e)

    abbrev AboutEach : List ℕ → ResultRow → Type 0
    AboutEach ns r = (n : ℕ) × Contains ns n × (r ≡ row (found_at (term_at s.terms n)))

    pub disjoint_rows : (common : List ℕ) → ((n : ℕ) → Contains common n ↔ (Contains s.values n × IsKept true others n)) → (rows : List ResultRow) → Lists (AboutEach common) rows
        → Lists (RowsOf components.Disjoint (at_focus s.terms ids s.values (term_at s.terms s.focus)) untold (term_at s.terms s.parameter) row) rows
    disjoint_rows common both rows = lists_same (AboutEach common) (RowsOf components.Disjoint (at_focus s.terms ids s.values (term_at s.terms s.focus)) untold (term_at s.terms s.parameter) row) rows (λ r. (
      λ h. let p = (both h.0).0 h.1 in (term_at s.terms h.0, mapped_to (term_at s.terms) s.values h.0 p.0, value_to h.0 p.1, h.2),
      λ h. let m = mapped_from (term_at s.terms) s.values h.0 h.1 in let w = value_from h.0 h.2 in
          let same : w.0 ≡ m.0 = one w.0 m.0 h.0 (value_bound w.0 w.1) (known.nodes.named m.0 m.1) w.2 m.2 in
          (m.0, (both m.0).1 (m.1, subst (λ (k : ℕ). Contains others k) same w.1), h.3 ∙ ap (λ v. row (found_at v)) (sym m.2)),
    ))

    pub equals_rows : (alone missing : List ℕ) → ((n : ℕ) → Contains alone n ↔ (Contains s.values n × IsKept false others n)) → ((n : ℕ) → Contains missing n ↔ (Contains others n × IsKept false s.values n))
        → (first second : List ResultRow) → Collects (AboutEach alone) first → Collects (AboutEach missing) second
        → Collects (RowsOf components.Equals (at_focus s.terms ids s.values (term_at s.terms s.focus)) untold (term_at s.terms s.parameter) row) (first ++ second)
    equals_rows alone missing a b first second h k r = (
      λ c. elim (Contains-append_cases first second r c) [
        | inl d ↦ let p = (h r).0 d in let n = p.0 in let in_alone = (a n).0 p.1 in
            inl (
              term_at s.terms n,
              mapped_to (term_at s.terms) s.values n in_alone.0,
              (λ has. let w = value_from (term_at s.terms n) has in in_alone.1 (subst (λ (m : ℕ). Contains others m) (one w.0 n (term_at s.terms n) (value_bound w.0 w.1) (known.nodes.named n in_alone.0) w.2 refl) w.1)),
              p.2,
            )
        | inr d ↦ let p = (k r).0 d in let n = p.0 in let in_missing = (b n).0 p.1 in
            inr (
              term_at s.terms n,
              value_to n in_missing.0,
              (λ node. let m = mapped_from (term_at s.terms) s.values (term_at s.terms n) node in in_missing.1 (subst (λ (j : ℕ). Contains s.values j) (one m.0 n (term_at s.terms n) (known.nodes.named m.0 m.1) (value_bound n in_missing.0) m.2 refl) m.1)),
              p.2,
            )
      ],
      λ p. elim p [
        | inl x ↦ let m = mapped_from (term_at s.terms) s.values x.0 x.1 in
            Contains-append_left first second r ((h r).1 (m.0, (a m.0).1 (m.1, λ c. x.2 (subst (λ (v : Term). Has (graph_of s.terms ids) (term_at s.terms s.focus) (term_at s.terms s.parameter) v) m.2 (value_to m.0 c))), x.3 ∙ ap (λ v. row (found_at v)) (sym m.2)))
        | inr x ↦ let w = value_from x.0 x.1 in
            Contains-append_right first second r ((k r).1 (w.0, (b w.0).1 (w.1, λ c. x.2 (subst (λ (v : Term). HasNode s.terms s.values v) w.2 (mapped_to (term_at s.terms) s.values w.0 c))), x.3 ∙ ap (λ v. row (found_at v)) (sym w.2)))
      ],
    )

    pub less_rows : (rows : List ResultRow) → Lists (Pairs s.terms row Less s.values others) rows
        → Lists (RowsOf components.LessThan (at_focus s.terms ids s.values (term_at s.terms s.focus)) untold (term_at s.terms s.parameter) row) rows
    less_rows rows = lists_same (Pairs s.terms row Less s.values others) (RowsOf components.LessThan (at_focus s.terms ids s.values (term_at s.terms s.focus)) untold (term_at s.terms s.parameter) row) rows (λ r. (
      λ h. (term_at s.terms h.0, term_at s.terms h.2.0, mapped_to (term_at s.terms) s.values h.0 h.1, value_to h.2.0 h.2.1, h.2.2.0, h.2.2.1),
      λ h. let m = mapped_from (term_at s.terms) s.values h.0 h.2 in let w = value_from h.1 h.3 in
          (m.0, m.1, (w.0, w.1, ((λ less. h.4 (subst (λ (p : Term × Term). IsLess p.0 p.1) (λ j. (m.2 j, w.2 j)) less)), h.5 ∙ (λ j. row (found_beside (sym m.2 j) (sym w.2 j)))))),
    ))

    pub at_most_rows : (rows : List ResultRow) → Lists (Pairs s.terms row AtMost s.values others) rows
        → Lists (RowsOf components.LessThanOrEquals (at_focus s.terms ids s.values (term_at s.terms s.focus)) untold (term_at s.terms s.parameter) row) rows
    at_most_rows rows = lists_same (Pairs s.terms row AtMost s.values others) (RowsOf components.LessThanOrEquals (at_focus s.terms ids s.values (term_at s.terms s.focus)) untold (term_at s.terms s.parameter) row) rows (λ r. (
      λ h. (term_at s.terms h.0, term_at s.terms h.2.0, mapped_to (term_at s.terms) s.values h.0 h.1, value_to h.2.0 h.2.1, h.2.2.0, h.2.2.1),
      λ h. let m = mapped_from (term_at s.terms) s.values h.0 h.2 in let w = value_from h.1 h.3 in
          (m.0, m.1, (w.0, w.1, ((λ less. h.4 (subst (λ (p : Term × Term). IsAtMost p.0 p.1) (λ j. (m.2 j, w.2 j)) less)), h.5 ∙ (λ j. row (found_beside (sym m.2 j) (sym w.2 j)))))),
    ))
