-- The results and looks of pairs, one after another.
use Rattle.std.proofs.Common.{◌≡◌, ◌∙◌, ℕ, ◌+◌, ◌<◌, ◌≤◌, List, [], ◌∷◌, ◌++◌, length, map, take, get_or, refl, sym, ap, subst, arith, inl, inr}
use Rattle.std.specs.List.{Contains}
use Rattle.std.proofs.lemmas.List.{get_or_default, map-append, take_more}
use Rattle.std.proofs.lemmas.List.Elements.{Contains-push_cases}
use Rattle.rdf_model.specs.declared.term.Term.{Term}
use Rattle.rdf_model.specs.declared.ids.Ids.{Ids}
use Rattle.rdf_model.specs.declared.look.Look.{Look}
use Rattle.rdf_model.specs.Numbers.{graph_of, term_at}
use Rattle.path_eval.specs.Naming.{AddsLooks}
use Rattle.path_eval.proofs.Footprints.{looks_none, next_looks, none_before}
use Rattle.shape_ast.specs.declared.shape.Shape.{Shape}
use Rattle.shape_eval.proofs.Lookups.{is_at}
use Rattle.parallel_validate.specs.declared.pairs.CheckedRows.{CheckedRows}
use Rattle.parallel_validate.specs.PairResults.{AddsPairLooks, CountsTarget, ListsPair, PairLook, StepsOfPair}
use Rattle.parallel_validate.specs.PairsResults.{AddsLooksOfPairs, CountsPairs, HaveRows, StepsOfPairs, pair_of, shape_at}

-- one pair more
count_last : (Counts : ℕ × ℕ → ℕ → ℕ → Type 0) (es : List (ℕ × ℕ)) (e : ℕ × ℕ) (old mid new : ℕ) → CountsPairs Counts es old mid → Counts e mid new → CountsPairs Counts (es ++ e ∷ []) old new
count_last Counts [] e old mid new c k = (new, subst (λ (n : ℕ). Counts e n new) c k, refl)
count_last Counts (x ∷ xs) e old mid new c k = (c.0, c.1, count_last Counts xs e c.0 mid new c.2 k)

module _ (terms : List Term) (ids : List Ids) (shapes : List (Shape ℕ)) (pairs : List (ℕ × ℕ)) where
  pub no_rows_yet : (checked : List CheckedRows) → checked ≡ [] → HaveRows terms ids shapes [] checked
  no_rows_yet checked e = subst (λ (cs : List CheckedRows). HaveRows terms ids shapes [] cs) (sym e) (record { same = refl; rows = λ c i. absurd (omega (arith, i.1)) })

  pub next_rows : (i : ℕ) (e : ℕ × ℕ) (checked later : List CheckedRows) (new : CheckedRows) → i < length pairs → e ≡ get_or pairs i e → later ≡ checked ++ new ∷ []
      → HaveRows terms ids shapes (take i pairs) checked → pair_of new ≡ e → ListsPair terms ids shapes e.0 e.1 new.rows → HaveRows terms ids shapes (take (i + 1) pairs) later
  next_rows i e checked later new lt is joined before own lists =
      let grown : HaveRows terms ids shapes (take (i + 1) pairs) (checked ++ new ∷ []) = record {
        same = map-append pair_of checked (new ∷ []) ∙ (ap (λ (l : List (ℕ × ℕ)). l ++ pair_of new ∷ []) before.same ∙ ap (λ (x : ℕ × ℕ). take i pairs ++ x ∷ []) own ∙ (ap (λ (x : ℕ × ℕ). take i pairs ++ x ∷ []) is ∙ sym (take_more pairs i e lt)));
        rows = λ c k. elim (Contains-push_cases checked new c k) [
          | inl d ↦ before.rows c d
          | inr q ↦ subst (λ (x : CheckedRows). ListsPair terms ids shapes x.shape x.focus x.rows) q (subst (λ (x : ℕ × ℕ). ListsPair terms ids shapes x.0 x.1 new.rows) (sym own) lists)
        ];
      } in
      subst (λ (cs : List CheckedRows). HaveRows terms ids shapes (take (i + 1) pairs) cs) (sym joined) grown

  pub no_looks_yet : (old : List (Look ℕ)) → AddsLooksOfPairs terms ids shapes [] old old
  no_looks_yet old s stand acyclic shallow =
      looks_none terms (λ l. (e : ℕ × ℕ) × Contains [] e × PairLook (graph_of terms ids) s (shape_at terms shapes e) (term_at terms e.1) l)
      (λ l. none_before (λ (e : ℕ × ℕ). PairLook (graph_of terms ids) s (shape_at terms shapes e) (term_at terms e.1) l)) old

  pub next_pair_looks : (i : ℕ) (e : ℕ × ℕ) (old mid new : List (Look ℕ)) → i < length pairs → e ≡ get_or pairs i e → e.0 < length shapes
      → AddsLooksOfPairs terms ids shapes (take i pairs) old mid → AddsPairLooks terms ids shapes e.0 e.1 mid new → AddsLooksOfPairs terms ids shapes (take (i + 1) pairs) old new
  next_pair_looks i e old mid new lt is place before here s stand acyclic shallow =
      let g = graph_of terms ids in
      let m = is_at terms shapes e.0 place in
      let own : AddsLooks terms (PairLook g s (shape_at terms shapes e) (term_at terms e.1)) mid new =
      subst (λ (shape : Term). AddsLooks terms (PairLook g s shape (term_at terms e.1)) mid new) m.2 (here s m.0 stand m.1 acyclic shallow) in
      next_looks terms (λ (x : ℕ × ℕ) l. PairLook g s (shape_at terms shapes x) (term_at terms x.1) l) pairs i e lt is old mid new (before s stand acyclic shallow) own

  pub no_steps_yet : (old : ℕ) → StepsOfPairs terms ids shapes [] old old
  no_steps_yet old s stand = refl

  pub next_steps : (i : ℕ) (e : ℕ × ℕ) (old mid new : ℕ) → i < length pairs → e ≡ get_or pairs i e → e.0 < length shapes
      → StepsOfPairs terms ids shapes (take i pairs) old mid → StepsOfPair terms ids shapes e.0 e.1 mid new → StepsOfPairs terms ids shapes (take (i + 1) pairs) old new
  next_steps i e old mid new lt is place before here s stand =
      let g = graph_of terms ids in
      let Counts : ℕ × ℕ → ℕ → ℕ → Type 0 = λ x. CountsTarget g s (shape_at terms shapes x) (term_at terms x.1) in
      let m = is_at terms shapes e.0 place in
      let own : Counts e mid new = subst (λ (shape : Term). CountsTarget g s shape (term_at terms e.1) mid new) m.2 (here s m.0 stand m.1) in
      let joined : take i pairs ++ e ∷ [] ≡ take (i + 1) pairs = ap (λ (x : ℕ × ℕ). take i pairs ++ x ∷ []) is ∙ sym (take_more pairs i e lt) in
      subst (λ (l : List (ℕ × ℕ)). CountsPairs Counts l old new) joined (count_last Counts (take i pairs) e old mid new (before s stand) own)
