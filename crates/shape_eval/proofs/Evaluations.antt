-- The results and the answers that are collected item by item while a shape is evaluated.
use Rattle.std.proofs.Common.{◌≡◌, ◌∙◌, ℕ, ◌+◌, ◌<◌, ◌≤◌, Bool, List, [], ◌∷◌, ◌++◌, length, map, take, get_or, refl, sym, ap, arith, subst, inl, inr}
use Rattle.std.specs.Prelude.{◌⊎◌, ◌↔◌, ◌==◌, IsTrue, MatchOption, None, Option, Some, slice_get}
use Rattle.std.specs.List.{All, Contains}
use Rattle.std.proofs.Math.ListN.{get_or-append}
use Rattle.std.proofs.Math.Nat.{eq-or-lt_of_le}
use Rattle.std.proofs.lemmas.List.{get_or_push, get_or-map, length-map, length_push, map-append, take_all}
use Rattle.std.proofs.lemmas.List.Elements.{All-contains, All-contains_itself, All-weaker, Contains-append_cases, Contains-append_left, Contains-append_right}
use Rattle.collections.proofs.Members.{has_cases, has_equal}
use Rattle.rdf_model.specs.declared.term.Term.{Term}
use Rattle.rdf_model.specs.declared.triple.Triple.{Triple}
use Rattle.rdf_model.specs.declared.ids.Ids.{Ids}
use Rattle.rdf_model.specs.Numbers.{AreNumbered, IsNumbering, term_at, graph_of}
use Rattle.shape_model.specs.declared.result_row.ResultRow.{ResultRow}
use Rattle.shape_model.specs.Components.{PropertyRow}
use Rattle.shape_model.specs.Readings.{reading}
use Rattle.shape_model.specs.Validation.{AtDepth}
use Rattle.component_rows.specs.Answers.{AreAnswersTo, Tells}
use Rattle.component_rows.specs.Listed.{Collects}
use Rattle.component_rows.specs.Nodes.{HasNode}
use Rattle.component_rows.proofs.Collecting.{collects_same}
use Rattle.component_rows.proofs.Told.{tells_all, tells_more}
use Rattle.logic_constraints.specs.Properties.{told_rows, with_property}
use Rattle.shape_ast.specs.declared.component.TermComponent.{TermComponent}
use Rattle.shape_ast.specs.declared.component.TermComponent.TheVariants as by_term
use Rattle.shape_ast.specs.declared.constraint.Constraint.{Constraint}
use Rattle.shape_ast.specs.declared.constraint.Constraint.TheVariants.{ByTerm, ByList, ByShape, ByShapes}
use Rattle.shape_ast.specs.declared.shape.Shape.{Shape}
use Rattle.shape_ast.specs.Readings.{AreBound, HoldsOfConstraint, HoldsOfShape, ReadShape, named_shapes, read_shape}
use Rattle.shape_ast.specs.Standing.{StandFor}
use Rattle.shape_eval.specs.declared.told.Told.{Told}
use Rattle.shape_eval.specs.Around.{around}
use Rattle.shape_eval.specs.Results.{AtPlace, CollectsAt, CollectsAtEach}
use Rattle.shape_eval.specs.ShapeRows.{PropertyAt}
use Rattle.shape_eval.specs.Told.{AreRight, Asks, AsksSome, ConformsAt, CountAsks, HaveAnswers, answers_of, node_at, node_number, places_in}
use Rattle.shape_eval.specs.ValueNodes.{AreValueNodes, AtNumbers}
use Rattle.shape_eval.proofs.Depths.{none_where}
use Rattle.shape_eval.proofs.Growing.{joined}
use Rattle.shape_eval.proofs.Lookups.{at_place, entry_for, named_place, of_place, only_some}

-- a list without items is empty
pub empty_when : (b : Bool) (n : ℕ) (rows : List ResultRow) → b ≡ (n == 0) → n ≡ length rows → IsTrue b ↔ (rows ≡ [])
empty_when b n [] e many = (λ t. refl, λ k. grind arith)
empty_when b n (row ∷ rows) e many = (λ t. absurd (grind arith), λ k. cc)

module _ (terms : List Term) (ids : List Ids) (shapes : List (Shape ℕ)) (levels place : ℕ) where
  -- so far each answer says whether the value node conforms to the shape at the place
  abbrev pub AnsweredUpTo : List ℕ → ℕ → List Bool → Type 0
  AnsweredUpTo values i answers = AtPlace terms shapes place (λ s c. Tells (λ k. ConformsAt (graph_of terms ids) s levels c.node (term_at terms (get_or values k 0))) i answers)

  -- a value node conforms where it has no results
  pub answered_more : (values : List ℕ) (i : ℕ) (answers new : List Bool) (b : Bool) (rows : List ResultRow) → new ≡ answers ++ b ∷ [] → AnsweredUpTo values i answers
      → CollectsAt terms ids shapes levels place (get_or values i 0) rows → IsTrue b ↔ (rows ≡ []) → AnsweredUpTo values (i + 1) new
  answered_more values i answers new b rows is before h empty s c stand at =
      let none = none_where (AtDepth levels (graph_of terms ids) (reading s) c.node (term_at terms (get_or values i 0))) rows (h s c stand at) in
      tells_more (λ k. ConformsAt (graph_of terms ids) s levels c.node (term_at terms (get_or values k 0))) answers new i b is (before s c stand at) ((λ t. none.0 (empty.0 t)), (λ n. empty.1 (none.1 n)))

  pub answered_all : (values : List ℕ) (i : ℕ) (answers : List Bool) → length values ≤ i → i ≤ length values → AnsweredUpTo values i answers
      → AtPlace terms shapes place (λ s c. AreAnswersTo (ConformsAt (graph_of terms ids) s levels c.node) terms values answers)
  answered_all values i answers le ge h s c stand at =
      tells_all (λ k. ConformsAt (graph_of terms ids) s levels c.node (term_at terms (get_or values k 0))) answers i (length values) le ge (h s c stand at)

  -- a list of the results at each value node so far
  abbrev pub ListedUpTo : List ℕ → ℕ → List (List ResultRow) → Type 0
  ListedUpTo values i lists = (length lists ≡ i)
      × AtPlace terms shapes place (λ s c. (k : ℕ) → k < i → Collects (AtDepth levels (graph_of terms ids) (reading s) c.node (term_at terms (get_or values k 0))) (get_or lists k []))

  pub listed_more : (values : List ℕ) (i : ℕ) (lists new : List (List ResultRow)) (rows : List ResultRow) → new ≡ lists ++ rows ∷ [] → ListedUpTo values i lists
      → CollectsAt terms ids shapes levels place (get_or values i 0) rows → ListedUpTo values (i + 1) new
  listed_more values i lists new rows is before h = (
    ap (λ (ls : List (List ResultRow)). length ls) is ∙ length_push lists rows ∙ ap (λ (n : ℕ). n + 1) before.0,
    λ s c stand at k lt. subst (λ (list : List ResultRow). Collects (AtDepth levels (graph_of terms ids) (reading s) c.node (term_at terms (get_or values k 0))) list) (ap (λ (ls : List (List ResultRow)). get_or ls k []) (sym is))
        (elim (eq-or-lt_of_le {n = k} {m = i} (omega (arith, lt))) [
          | inl e ↦ subst (λ (list : List ResultRow). Collects (AtDepth levels (graph_of terms ids) (reading s) c.node (term_at terms (get_or values k 0))) list) (sym (get_or_push lists rows [] k (before.0 ∙ sym e)))
              (subst (λ (n : ℕ). Collects (AtDepth levels (graph_of terms ids) (reading s) c.node (term_at terms (get_or values n 0))) rows) (sym e) (h s c stand at))
          | inr less ↦ subst (λ (list : List ResultRow). Collects (AtDepth levels (graph_of terms ids) (reading s) c.node (term_at terms (get_or values k 0))) list)
              (sym (get_or-append lists (rows ∷ []) [] k (subst (λ (n : ℕ). k < n) (sym before.0) less))) (before.1 s c stand at k less)
        ]),
  )

  -- as the results of the property shape at all of them
  pub listed_all : (values : List ℕ) (i : ℕ) (lists : List (List ResultRow)) (all : List ResultRow) → length values ≤ i → i ≤ length values → ListedUpTo values i lists
      → ((within : List Term) (shape : Term) → Collects (PropertyRow (told_rows within values lists) (with_property shape)) all) → CollectsAtEach terms ids shapes levels place values all
  listed_all values i lists all le ge h given s c stand at =
      let Gives : Term → ResultRow → Type 0 = λ v r. AtDepth levels (graph_of terms ids) (reading s) c.node v r in
      collects_same (PropertyRow (told_rows terms values lists) (with_property c.node)) (λ r. (v : Term) × HasNode terms values v × Gives v r) all (λ r. (
        λ p. (p.2.0, p.2.1, subst (λ (v : Term). Gives v r) p.2.2.2 ((h.1 s c stand at p.2.2.0 (omega (arith, le, p.2.2.1)) r).0 p.2.2.3)),
        λ q.
            let k = q.1.0 in
            let lt : k < length values = subst (λ (n : ℕ). k < n) (length-map values (term_at terms)) q.1.1 in
            let is : term_at terms (get_or values k 0) ≡ q.0 = sym (get_or-map (term_at terms) values k 0 q.0 lt) ∙ q.1.2 in
            (c.node, (refl, refl), (q.0, q.1, (k, lt, is, (h.1 s c stand at k (omega (arith, ge, le, lt)) r).1 (subst (λ (v : Term). Gives v r) (sym is) q.2)))),
      )) (given terms c.node)

  -- as results of a property shape
  pub property_at : (values : List ℕ) (f : ℕ) (rows : List ResultRow) → place < length shapes → CollectsAtEach terms ids shapes levels place values rows
      → (s : List Triple) → StandFor (named_shapes terms shapes) s → Collects (PropertyAt (around terms ids s levels values f) (named_shapes terms shapes) place) rows
  property_at values f rows lt h s stand =
      let named = named_shapes terms shapes in
      let k = at_place shapes place lt in
      let c = read_shape (term_at terms) k.0 in
      let at = named_place terms shapes place k.0 k.1 in
      let Gives : ReadShape → ResultRow → Type 0 = λ m r. (v : Term) × HasNode terms values v × AtDepth levels (graph_of terms ids) (reading s) m.node v r in
      collects_same (Gives c) (PropertyAt (around terms ids s levels values f) named place) rows (λ r. (
        λ i. (c, at, i),
        λ i. subst (λ (m : ReadShape). Gives m r) (only_some (slice_get named place) i.0 c i.1 at) i.2,
      )) (h s c stand at)

-- entries so far
module _ (terms : List Term) (ids : List Ids) (shapes : List (Shape ℕ)) (levels : ℕ) (values : List ℕ) where
  abbrev pub IsRightFor : List Triple → Told → Type 0
  IsRightFor s t = AreAnswersTo (ConformsAt (graph_of terms ids) s levels (term_at terms t.node)) terms values t.answers

  -- there is an entry for each of the places, and each entry is right
  abbrev pub AreEntries : List ℕ → List Told → Type 0
  AreEntries places told =
      ((p : ℕ) → Contains places p → Contains (map (λ t. t.node) told) (node_at shapes p))
      × ((t : Told) → Contains told t → length t.answers ≡ length values)
      × ((s : List Triple) → StandFor (named_shapes terms shapes) s → (t : Told) → Contains told t → IsRightFor s t)

  pub entries_more : (places : List ℕ) (i : ℕ) (told new : List Told) (t : Told) → i < length places → new ≡ told ++ t ∷ [] → AreEntries (take i places) told → t.node ≡ node_at shapes (get_or places i 0)
      → length t.answers ≡ length values → ((s : List Triple) → StandFor (named_shapes terms shapes) s → IsRightFor s t) → AreEntries (take (i + 1) places) new
  entries_more places i told new t lt is before node many right = subst (λ (all : List Told). AreEntries (take (i + 1) places) all) (sym is) (
    λ p c. subst (λ (ns : List ℕ). Contains ns (node_at shapes p)) (sym (map-append (λ (t : Told). t.node) told (t ∷ []))) (elim ((joined places i 0 lt p).0 c) [
      | inl d ↦ Contains-append_left (map (λ (t : Told). t.node) told) (t.node ∷ []) (node_at shapes p) (before.0 p d)
      | inr e ↦ Contains-append_right (map (λ (t : Told). t.node) told) (t.node ∷ []) (node_at shapes p) (has_equal t.node [] (node_at shapes p) (node ∙ ap (node_at shapes) e))
    ]),
    λ u c. elim (either u c) [ inl d ↦ before.1 u d | inr e ↦ subst (λ (v : Told). length v.answers ≡ length values) e many ],
    λ s stand u c. elim (either u c) [ inl d ↦ before.2 s stand u d | inr e ↦ subst (λ (v : Told). IsRightFor s v) e (right s stand) ],
  )
    where
      either : (u : Told) → Contains (told ++ t ∷ []) u → Contains told u ⊎ (t ≡ u)
      either u c = elim (Contains-append_cases told (t ∷ []) u c) [ inl d ↦ inl d | inr d ↦ elim (has_cases t [] u d) [ inl e ↦ inr e | inr never ↦ absurd (omega arith) ] ]

  -- an entry that answers for the shape at the place
  pub entry_right : (place : ℕ) (t : Told) → t.node ≡ node_at shapes place → place < length shapes → AtPlace terms shapes place (λ s c. AreAnswersTo (ConformsAt (graph_of terms ids) s levels c.node) terms values t.answers)
      → (s : List Triple) → StandFor (named_shapes terms shapes) s → IsRightFor s t
  entry_right place t is lt h s stand =
      let k = at_place shapes place lt in
      subst (λ (n : ℕ). AreAnswersTo (ConformsAt (graph_of terms ids) s levels (term_at terms n)) terms values t.answers) (sym (is ∙ ap node_number k.1))
      (h s (read_shape (term_at terms) k.0) stand (named_place terms shapes place k.0 k.1))

  module _ (places : List ℕ) (i : ℕ) (le : length places ≤ i) (told : List Told) (entries : AreEntries (take i places) told) where
    entry_at : (p : ℕ) → Contains places p → (t : Told) × Contains told t × (t.node ≡ node_at shapes p) × (answers_of told (node_at shapes p) ≡ t.answers)
    entry_at p c = entry_for told (node_at shapes p) (entries.0 p (subst (λ (ps : List ℕ). Contains ps p) (sym (take_all i places le)) c))

    pub entries_have : HaveAnswers shapes values told (Contains places)
    entries_have p c = let k = entry_at p c in ap (λ (l : List Bool). length l) k.3 ∙ entries.1 k.0 k.1

    pub entries_right : (s : List Triple) → StandFor (named_shapes terms shapes) s → AreRight terms ids s levels shapes values told (Contains places)
    entries_right s stand p c =
        let k = entry_at p c in
        subst (λ (l : List Bool). AreAnswersTo (ConformsAt (graph_of terms ids) s levels (term_at terms (node_at shapes p))) terms values l) (sym k.3)
        (subst (λ (n : ℕ). AreAnswersTo (ConformsAt (graph_of terms ids) s levels (term_at terms n)) terms values k.0.answers) k.2 (entries.2 s stand k.0 k.1))

-- the shapes that a shape refers to are among them
optional_within : (o : Option ℕ) (count : ℕ) → MatchOption o (Unit {0}) (λ n. n < count) → (n : ℕ) → Contains (places_in o) n → n < count
optional_within None count h n c = absurd (omega arith)
optional_within (Some m) count h n c = elim (has_cases m [] n c) [ inl e ↦ subst (λ (k : ℕ). k < count) e h | inr never ↦ absurd (omega arith) ]

module _ (Q : ℕ → Type 0) (count : ℕ) (x : Shape ℕ) (holds : HoldsOfShape Q count x) where
  qualified_within : (n : ℕ) → Contains (places_in x.qualified) n ⊎ Contains x.siblings n → n < count
  qualified_within n = elim [ inl c ↦ optional_within x.qualified count holds.qualified n c | inr c ↦ All-contains (λ n. n < count) x.siblings n holds.siblings c ]

  counted_within : (k : TermComponent) (n : ℕ) → CountAsks x k n → n < count
  counted_within by_term.QualifiedMinCount n a = qualified_within n a
  counted_within by_term.QualifiedMaxCount n a = qualified_within n a
  counted_within k n a = absurd a

  one_within : (k : Constraint ℕ) → HoldsOfConstraint Q count k → (n : ℕ) → Asks x k n → n < count
  one_within (ByTerm component q) h n a = counted_within component n a
  one_within (ByList component q members) h n a = absurd a
  one_within (ByShape component q place) h n a = subst (λ (k : ℕ). k < count) a h.1
  one_within (ByShapes component q places) h n a = All-contains (λ n. n < count) places n h.1 a

  pub asked_within : (places : List ℕ) → ((n : ℕ) → Contains places n ↔ AsksSome x x.constraints n) → All (λ n. n < count) places
  asked_within places are = All-weaker (Contains places) (λ n. n < count) (λ n c. let a = (are n).0 c in one_within a.0 (All-contains (HoldsOfConstraint Q count) x.constraints a.0 holds.constraints a.1) n a.2) places (All-contains_itself places)

-- the shape that was looked up, of shapes that are bound
module _ (terms : List Term) (shapes : List (Shape ℕ)) (bound : AreBound terms shapes) (place : ℕ) (x : Shape ℕ) (taken : slice_get shapes place ≡ Some x) where
  pub bound_at : HoldsOfShape (λ n. n < length terms) (length shapes) x
  bound_at = All-contains (HoldsOfShape (λ n. n < length terms) (length shapes)) shapes x bound (of_place shapes place x taken)

  pub values_at : {is : List Ids} → (ids : List Ids) → is ≡ ids → (f : ℕ) (values : List ℕ) → IsNumbering terms → AreNumbered terms ids → f < length terms
      → AtNumbers is x.path f (λ ns. AreValueNodes ns is x.path f values) → AreValueNodes terms ids x.path f values
  values_at ids same f values numbering numbered lt h = subst (λ (js : List Ids). AtNumbers js x.path f (λ ns. AreValueNodes ns js x.path f values)) same h terms numbering numbered bound_at.path lt

  pub places_at : (ks : List (Constraint ℕ)) (places : List ℕ) → ks ≡ x.constraints → ((n : ℕ) → Contains places n ↔ AsksSome x ks n) → All (λ n. n < length shapes) places
  places_at ks places same are = asked_within (λ n. n < length terms) (length shapes) x bound_at places (subst (λ (js : List (Constraint ℕ)). (n : ℕ) → Contains places n ↔ AsksSome x js n) same are)
