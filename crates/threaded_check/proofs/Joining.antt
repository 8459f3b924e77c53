-- What is known of some pairs and of others is known of all of them.
use Rattle.std.proofs.Common.{◌≡◌, ◌∙◌, ℕ, ◌<◌, List, [], ◌∷◌, ◌++◌, length, map, refl, ap, sym, subst, arith, inl, inr}
use Rattle.std.specs.Prelude.{◌⊎◌, ◌↔◌}
use Rattle.std.specs.List.{Contains}
use Rattle.std.proofs.lemmas.List.{map-append}
use Rattle.std.proofs.lemmas.List.Elements.{Contains-append_cases, Contains-append_left, Contains-append_right}
use Rattle.collections.proofs.Members.{has_cases, has_head}
use Rattle.rdf_model.specs.declared.term.Term.{Term}
use Rattle.rdf_model.specs.declared.triple.Triple.{Triple}
use Rattle.rdf_model.specs.declared.ids.Ids.{Ids}
use Rattle.rdf_model.specs.declared.look.Look.{Look}
use Rattle.rdf_model.specs.Numbers.{graph_of, term_at}
use Rattle.shape_model.specs.Limits.{levels_limit}
use Rattle.shape_model.specs.Readings.{IsAcyclic, IsShallow}
use Rattle.path_eval.specs.Naming.{AddsLooks, look_of}
use Rattle.path_eval.proofs.Footprints.{looks_more, looks_none, looks_same, none_before}
use Rattle.path_eval.proofs.Mirrors.{mapped_from, mapped_to}
use Rattle.shape_ast.specs.declared.shape.Shape.{Shape}
use Rattle.shape_eval.specs.Results.{AtPlace}
use Rattle.shape_eval.proofs.Lookups.{is_at}
use Rattle.parallel_validate.specs.declared.pairs.CheckedRows.{CheckedRows}
use Rattle.parallel_validate.specs.PairResults.{CountsTarget, ListsPair, PairLook, StepsOfPair}
use Rattle.parallel_validate.specs.PairsResults.{AddsLooksOfPairs, CountsPairs, HaveRows, StepsOfPairs, pair_of, shape_at}
use Rattle.threaded_check.specs.Findings.{AddsAimLooks, AddsOfPairs, AddsRowLooks, AimLook, RowLook}
use Rattle.threaded_check.specs.PermittedPairs.{ArePermitted, IsPermitted, pair_in}
use Rattle.threaded_check.specs.declared.pairs.PermittedPair.{PermittedPair}

-- what one of some items gives, or of others, one of all gives
of_both : {X Y : Type 0} → (P : X → Y → Type 0) (xs ys : List X) (y : Y) → (((x : X) × Contains xs x × P x y) ⊎ ((x : X) × Contains ys x × P x y)) ↔ ((x : X) × Contains (xs ++ ys) x × P x y)
of_both P xs ys y = (
  elim [ inl h ↦ (h.0, Contains-append_left xs ys h.0 h.1, h.2) | inr h ↦ (h.0, Contains-append_right xs ys h.0 h.1, h.2) ],
  λ h. elim (Contains-append_cases xs ys h.0 h.1) [ inl c ↦ inl (h.0, c, h.2) | inr c ↦ inr (h.0, c, h.2) ],
)

-- the only item of a list
pub only : {X : Type 0} → (x y : X) → Contains (x ∷ []) y → x ≡ y
only x y c = elim (has_cases x [] y c) [ inl e ↦ e | inr none ↦ absurd (omega (arith, none.1)) ]

of_one : {X Y : Type 0} → (P : X → Y → Type 0) (x : X) (y : Y) → P x y ↔ ((z : X) × Contains (x ∷ []) z × P z y)
of_one {X} P x y = (λ p. (x, has_head x [], p), λ h. subst (λ (z : X). P z y) (sym (only x h.0 h.1)) h.2)

-- looks that were added where none stood are added likewise behind others
added_later : (terms : List Term) (P : Look Term → Type 0) (old own : List (Look ℕ)) → AddsLooks terms P [] own → AddsLooks terms P old (old ++ own)
added_later terms P old own a = record {
  added = λ y. (
    λ c. elim (Contains-append_cases old own y c) [
      | inl d ↦ inl d
      | inr d ↦ elim ((a.added y).0 d) [ inl none ↦ absurd (omega (arith, none.1)) | inr p ↦ inr p ]
    ],
    elim [ inl d ↦ Contains-append_left old own y d | inr p ↦ Contains-append_right old own y ((a.added y).1 (inr p)) ],
  );
  every = λ l p.
      let k = mapped_from (look_of terms) own l (a.every l p) in
      subst (λ (m : Look Term). Contains (map (look_of terms) (old ++ own)) m) k.2 (mapped_to (look_of terms) (old ++ own) k.0 (Contains-append_right old own k.0 k.1));
}

module _ (Looks : List Triple → Term → Term → Look Term → Type 0) (terms : List Term) (shapes : List (Shape ℕ)) where
  abbrev Of : List Triple → ℕ × ℕ → Look Term → Type 0
  Of s e l = Looks s (shape_at terms shapes e) (term_at terms e.1) l

  pub no_looks : (old : List (Look ℕ)) → AddsOfPairs Looks terms shapes [] old old
  no_looks old s stand acyclic shallow = looks_none terms (λ l. (e : ℕ × ℕ) × Contains [] e × Of s e l) (λ l. none_before (λ (e : ℕ × ℕ). Of s e l)) old

  pub both_looks : (xs ys : List (ℕ × ℕ)) (old mid new : List (Look ℕ)) → AddsOfPairs Looks terms shapes xs old mid → AddsOfPairs Looks terms shapes ys mid new → AddsOfPairs Looks terms shapes (xs ++ ys) old new
  both_looks xs ys old mid new a b s stand acyclic shallow =
      let P : Look Term → Type 0 = λ l. (e : ℕ × ℕ) × Contains xs e × Of s e l in
      let Q : Look Term → Type 0 = λ l. (e : ℕ × ℕ) × Contains ys e × Of s e l in
      looks_same terms (λ l. P l ⊎ Q l) (λ l. (e : ℕ × ℕ) × Contains (xs ++ ys) e × Of s e l) (λ l. of_both (Of s) xs ys l) old new
      (looks_more terms P Q old mid new (a s stand acyclic shallow) (b s stand acyclic shallow))

  pub one_looks : (e : ℕ × ℕ) (old new : List (Look ℕ)) → e.0 < length shapes
      → AtPlace terms shapes e.0 (λ s c. IsAcyclic s → IsShallow levels_limit s → AddsLooks terms (Looks s c.node (term_at terms e.1)) old new) → AddsOfPairs Looks terms shapes (e ∷ []) old new
  one_looks e old new place here s stand acyclic shallow =
      let m = is_at terms shapes e.0 place in
      looks_same terms (Of s e) (λ l. (z : ℕ × ℕ) × Contains (e ∷ []) z × Of s z l) (λ l. of_one (Of s) e l) old new
      (subst (λ (shape : Term). AddsLooks terms (Looks s shape (term_at terms e.1)) old new) m.2 (here s m.0 stand m.1 acyclic shallow))

  pub later_looks : (es : List (ℕ × ℕ)) (old own : List (Look ℕ)) → AddsOfPairs Looks terms shapes es [] own → AddsOfPairs Looks terms shapes es old (old ++ own)
  later_looks es old own a s stand acyclic shallow = added_later terms (λ l. (e : ℕ × ℕ) × Contains es e × Of s e l) old own (a s stand acyclic shallow)

-- the steps of some pairs and of others
both_counts : (Counts : ℕ × ℕ → ℕ → ℕ → Type 0) (xs ys : List (ℕ × ℕ)) (old mid new : ℕ) → CountsPairs Counts xs old mid → CountsPairs Counts ys mid new → CountsPairs Counts (xs ++ ys) old new
both_counts Counts [] ys old mid new c k = subst (λ (n : ℕ). CountsPairs Counts ys n new) c k
both_counts Counts (x ∷ xs) ys old mid new c k = (c.0, c.1, both_counts Counts xs ys c.0 mid new c.2 k)

module _ (terms : List Term) (ids : List Ids) (shapes : List (Shape ℕ)) where
  pub no_steps : (old : ℕ) → StepsOfPairs terms ids shapes [] old old
  no_steps old s stand = refl

  pub both_steps : (xs ys : List (ℕ × ℕ)) (old mid new : ℕ) → StepsOfPairs terms ids shapes xs old mid → StepsOfPairs terms ids shapes ys mid new → StepsOfPairs terms ids shapes (xs ++ ys) old new
  both_steps xs ys old mid new a b s stand = both_counts (λ e. CountsTarget (graph_of terms ids) s (shape_at terms shapes e) (term_at terms e.1)) xs ys old mid new (a s stand) (b s stand)

  pub one_steps : (e : ℕ × ℕ) (old new : ℕ) → e.0 < length shapes → StepsOfPair terms ids shapes e.0 e.1 old new → StepsOfPairs terms ids shapes (e ∷ []) old new
  one_steps e old new place here s stand =
      let m = is_at terms shapes e.0 place in
      (new, subst (λ (shape : Term). CountsTarget (graph_of terms ids) s shape (term_at terms e.1) old new) m.2 (here s m.0 stand m.1), refl)

  -- the results
  pub no_rows : HaveRows terms ids shapes [] []
  no_rows = record { same = refl; rows = λ c i. absurd (omega (arith, i.1)) }

  pub both_rows : (xs ys : List (ℕ × ℕ)) (cs ds : List CheckedRows) → HaveRows terms ids shapes xs cs → HaveRows terms ids shapes ys ds → HaveRows terms ids shapes (xs ++ ys) (cs ++ ds)
  both_rows xs ys cs ds a b = record {
    same = map-append pair_of cs ds ∙ (ap (λ (l : List (ℕ × ℕ)). l ++ map pair_of ds) a.same ∙ ap (λ (l : List (ℕ × ℕ)). xs ++ l) b.same);
    rows = λ c i. elim (Contains-append_cases cs ds c i) [ inl j ↦ a.rows c j | inr j ↦ b.rows c j ];
  }

  pub one_rows : (e : ℕ × ℕ) (c : CheckedRows) → pair_of c ≡ e → ListsPair terms ids shapes c.shape c.focus c.rows → HaveRows terms ids shapes (e ∷ []) (c ∷ [])
  one_rows e c is lists = record {
    same = ap (λ (x : ℕ × ℕ). x ∷ []) is;
    rows = λ d i. subst (λ (x : CheckedRows). ListsPair terms ids shapes x.shape x.focus x.rows) (only c d i) lists;
  }

  -- the permits
  pub none_permitted : ArePermitted terms ids shapes [] []
  none_permitted = record { same = refl; allowed = λ p i. absurd (omega (arith, i.1)) }

  pub both_permitted : (xs ys : List (ℕ × ℕ)) (ps qs : List PermittedPair) → ArePermitted terms ids shapes xs ps → ArePermitted terms ids shapes ys qs → ArePermitted terms ids shapes (xs ++ ys) (ps ++ qs)
  both_permitted xs ys ps qs a b = record {
    same = map-append pair_in ps qs ∙ (ap (λ (l : List (ℕ × ℕ)). l ++ map pair_in qs) a.same ∙ ap (λ (l : List (ℕ × ℕ)). xs ++ l) b.same);
    allowed = λ p i. elim (Contains-append_cases ps qs p i) [ inl j ↦ a.allowed p j | inr j ↦ b.allowed p j ];
  }

  pub one_permitted : (e : ℕ × ℕ) (p : PermittedPair) → pair_in p ≡ e → IsPermitted terms ids shapes p → ArePermitted terms ids shapes (e ∷ []) (p ∷ [])
  one_permitted e p is allowed = record {
    same = ap (λ (x : ℕ × ℕ). x ∷ []) is;
    allowed = λ q i. subst (λ (x : PermittedPair). IsPermitted terms ids shapes x) (only p q i) allowed;
  }

  -- the looks by which targets are found, and those of results
  pub all_looks : (es : List (ℕ × ℕ)) (old mid new : List (Look ℕ)) → AddsAimLooks terms ids shapes es old mid → AddsRowLooks terms ids shapes es mid new → AddsLooksOfPairs terms ids shapes es old new
  all_looks es old mid new a b s stand acyclic shallow =
      let h = graph_of terms ids in
      let P : Look Term → Type 0 = λ l. (e : ℕ × ℕ) × Contains es e × AimLook h s (shape_at terms shapes e) (term_at terms e.1) l in
      let Q : Look Term → Type 0 = λ l. (e : ℕ × ℕ) × Contains es e × RowLook h s (shape_at terms shapes e) (term_at terms e.1) l in
      looks_same terms (λ l. P l ⊎ Q l) (λ l. (e : ℕ × ℕ) × Contains es e × PairLook h s (shape_at terms shapes e) (term_at terms e.1) l)
      (λ l. (elim [ inl i ↦ (i.0, i.1, inl i.2) | inr i ↦ (i.0, i.1, inr i.2) ], λ i. elim i.2 [ inl j ↦ inl (i.0, i.1, j) | inr j ↦ inr (i.0, i.1, j) ])) old new
      (looks_more terms P Q old mid new (a s stand acyclic shallow) (b s stand acyclic shallow))
