-- The answers for the shapes at some places.
use Rattle.std.proofs.Common.{◌≡◌, ◌∙◌, ℕ, zero, suc, ◌<◌, Bool, List, [], ◌∷◌, length, map, get_or, refl, sym, ap, arith, subst, inl, inr}
use Rattle.std.specs.Prelude.{◌⊎◌}
use Rattle.std.specs.List.{All, Contains}
use Rattle.std.proofs.lemmas.List.Elements.{All-contains, Contains-get_or}
use Rattle.collections.proofs.Members.{has_cases, has_equal}
use Rattle.rdf_model.specs.declared.term.Term.{Term}
use Rattle.rdf_model.specs.declared.triple.Triple.{Triple}
use Rattle.rdf_model.specs.declared.ids.Ids.{Ids}
use Rattle.rdf_model.specs.Numbers.{term_at, graph_of}
use Rattle.component_rows.specs.Answers.{AreAnswersTo}
use Rattle.component_rows.specs.Conformance.{AreTold}
use Rattle.component_rows.proofs.Collecting.{mapped_from}
use Rattle.shape_ast.specs.declared.shape.Shape.{Shape}
use Rattle.shape_ast.specs.Readings.{AreBound, HoldsOfShape}
use Rattle.shape_eval.specs.declared.told.Told.{Told}
use Rattle.shape_eval.specs.Told.{AreRight, ConformsAt, HaveAnswers, answers_of, node_at, node_number}
use Rattle.shape_eval.proofs.Lookups.{are_told, at_place, listed_at, of_place}

number_at : (h : ℕ → ℕ) (ns : List ℕ) (k : ℕ) → k < length ns → get_or (map h ns) k 0 ≡ h (get_or ns k 0)
number_at h [] k lt = absurd (omega (arith, lt))
number_at h (n ∷ ns) zero lt = refl
number_at h (n ∷ ns) (suc k) lt = number_at h ns k (omega (arith, lt))

many_numbers : (h : ℕ → ℕ) (ns : List ℕ) → length (map h ns) ≡ length ns
many_numbers h [] = refl
many_numbers h (n ∷ ns) = ap suc (many_numbers h ns)

-- the node of each shape has a term
pub node_bound : (terms : List Term) (shapes : List (Shape ℕ)) → AreBound terms shapes → (n : ℕ) → n < length shapes → node_at shapes n < length terms
node_bound terms shapes bound n lt =
    let k = at_place shapes n lt in
    let holds : HoldsOfShape (λ n. n < length terms) (length shapes) k.0 = All-contains (HoldsOfShape (λ n. n < length terms) (length shapes)) shapes k.0 bound (of_place shapes n k.0 k.1) in
    subst (λ (m : ℕ). m < length terms) (sym (ap node_number k.1)) holds.node

pub nodes_bound : (terms : List Term) (shapes : List (Shape ℕ)) → AreBound terms shapes → (places nodes : List ℕ) → nodes ≡ map (node_at shapes) places → All (λ n. n < length shapes) places → (m : ℕ) → Contains nodes m → m < length terms
nodes_bound terms shapes bound places nodes are all m c =
    let k = mapped_from (node_at shapes) places m (subst (λ (ns : List ℕ). Contains ns m) are c) in
    subst (λ (x : ℕ). x < length terms) k.2 (node_bound terms shapes bound k.0 (All-contains (λ n. n < length shapes) places k.0 all k.1))

-- for places and their nodes
module _ (shapes : List (Shape ℕ)) (told : List Told) (values places nodes : List ℕ) (are : nodes ≡ map (node_at shapes) places) (lists : List (List Bool)) (looked : lists ≡ map (answers_of told) nodes) where
  node_of : (k : ℕ) → k < length nodes → (k < length places) × (get_or nodes k 0 ≡ node_at shapes (get_or places k 0))
  node_of k lt =
      let many = ap (λ (ns : List ℕ). length ns) are ∙ many_numbers (node_at shapes) places in
      let within : k < length places = omega (arith, many, lt) in
      (within, ap (λ (ns : List ℕ). get_or ns k 0) are ∙ number_at (node_at shapes) places k within)

  pub all_told : HaveAnswers shapes values told (Contains places) → AreTold nodes values lists
  all_told have = are_told told values nodes lists looked nodes refl (λ j k a b e. e) (λ k lt.
      let n = node_of k lt in ap (λ (m : ℕ). length (answers_of told m)) n.1 ∙ have (get_or places k 0) (Contains-get_or places k 0 n.0))

  pub all_right : (terms : List Term) (ids : List Ids) (s : List Triple) (n : ℕ) → AreRight terms ids s n shapes values told (Contains places)
      → (k : ℕ) → k < length nodes → AreAnswersTo (ConformsAt (graph_of terms ids) s n (term_at terms (get_or nodes k 0))) terms values (get_or lists k [])
  all_right terms ids s n right k lt =
      let place = node_of k lt in
      subst (λ (l : List Bool). AreAnswersTo (ConformsAt (graph_of terms ids) s n (term_at terms (get_or nodes k 0))) terms values l) (sym (listed_at told values nodes lists looked k lt))
      (subst (λ (m : ℕ). AreAnswersTo (ConformsAt (graph_of terms ids) s n (term_at terms m)) terms values (answers_of told m)) (sym place.1)
      (right (get_or places k 0) (Contains-get_or places k 0 place.0)))

-- for one shape, which is the parameter
module _ (shapes : List (Shape ℕ)) (told : List Told) (values : List ℕ) (place shape : ℕ) (lists : List (List Bool)) (looked : lists ≡ answers_of told (node_at shapes place) ∷ []) where
  pub one_told : HaveAnswers shapes values told (λ n. place ≡ n) → AreTold (shape ∷ []) values lists
  one_told have = subst (λ (ls : List (List Bool)). AreTold (shape ∷ []) values ls) (sym looked) (record {
    as_many = refl;
    each = by_place;
    same = λ j k a b e. (let first : j ≡ 0 = omega (arith, a) in let other : k ≡ 0 = omega (arith, b) in
        ap (λ (i : ℕ). get_or (answers_of told (node_at shapes place) ∷ []) i []) (first ∙ sym other));
  })
    where
      by_place : (k : ℕ) → k < 1 → length (get_or (answers_of told (node_at shapes place) ∷ []) k []) ≡ length values
      by_place zero lt = have place refl
      by_place (suc k) lt = absurd (omega (arith, lt))

  pub one_right : (terms : List Term) (ids : List Ids) (s : List Triple) (n : ℕ) → term_at terms (node_at shapes place) ≡ term_at terms shape → AreRight terms ids s n shapes values told (λ n. place ≡ n)
      → (k : ℕ) → k < length (shape ∷ []) → AreAnswersTo (ConformsAt (graph_of terms ids) s n (term_at terms (get_or (shape ∷ []) k 0))) terms values (get_or lists k [])
  one_right terms ids s n is right zero lt =
      subst (λ (ls : List (List Bool)). AreAnswersTo (ConformsAt (graph_of terms ids) s n (term_at terms shape)) terms values (get_or ls 0 [])) (sym looked)
      (subst (λ (t : Term). AreAnswersTo (ConformsAt (graph_of terms ids) s n t) terms values (answers_of told (node_at shapes place))) is (right place refl))
  one_right terms ids s n is right (suc k) lt = absurd (omega (arith, lt))

-- for a shape and others beside it
pub beside_right : (terms : List Term) (ids : List Ids) (s : List Triple) (n : ℕ) (shapes : List (Shape ℕ)) (told : List Told) (values places nodes : List ℕ) (lists : List (List Bool))
    → nodes ≡ map (node_at shapes) places → lists ≡ map (answers_of told) nodes → AreRight terms ids s n shapes values told (Contains places)
    → (k : ℕ) → k < length nodes → AreAnswersTo (ConformsAt (graph_of terms ids) s n (term_at terms (get_or nodes k 0))) terms values (get_or lists k [])
beside_right terms ids s n shapes told values places nodes lists are looked right = all_right shapes told values places nodes are lists looked terms ids s n right

-- the places of a qualified value shape and of its siblings
pub qualified_places : (place : ℕ) (siblings : List ℕ) (P : ℕ → Type 0) → ((n : ℕ) → Contains (place ∷ []) n ⊎ Contains siblings n → P n) → (n : ℕ) → Contains (place ∷ siblings) n → P n
qualified_places place siblings P h n c = elim (has_cases place siblings n c) [ inl e ↦ h n (inl (has_equal place [] n e)) | inr d ↦ h n (inr d) ]

pub beside_named : (terms : List Term) (node : ℕ) (others : List ℕ) → node < length terms → ((m : ℕ) → Contains others m → m < length terms) → (m : ℕ) → Contains (node ∷ others) m → m < length terms
beside_named terms node others bound rest m c = elim (has_cases node others m c) [ inl e ↦ subst (λ (k : ℕ). k < length terms) e bound | inr d ↦ rest m d ]
