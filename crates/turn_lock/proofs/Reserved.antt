-- What only the first caller may add, and that it still may once others have added entries.
use Rattle.std.proofs.Common.{◌≡◌, ◌≢◌, ℕ, Bool, true, false, not, List, [], ◌∷◌, ◌++◌, refl, ap, sym, ◌∙◌, inl, inr, cond, eq-eqb, ne_eqb}
use mathlib.Core.Logic.{dite}
use native.Mathlib.Decide.{ℕ_discrete}
use Rattle.turn_lock.specs.declared.view.Known.{Known}
use Rattle.turn_lock.specs.History.{is_empty, under, is_reserved, reserved_after, OthersAdded, MayAdd}
use Rattle.turn_lock.proofs.Added.{under_other}

module _ {E : Type 0} (number : E → ℕ) (shared : Bool) where
  under_skips : (n : ℕ) (e : E) (es : List E) → number e ≢ n → (b : Bool) → under number n (cond b (e ∷ es) es) ≡ under number n es
  under_skips n e es other true = ap (λ b. cond b (e ∷ under number n es) (under number n es)) (ne_eqb (number e) n other)
  under_skips n e es other false = refl

  under_head : (n : ℕ) (e : E) (es : List E) → number e ≡ n → is_empty (under number n (e ∷ es)) ≡ false
  under_head n e es same = ap (λ b. is_empty (cond b (e ∷ under number n es) (under number n es))) (eq-eqb (number e) n same)

  reserved_some : (f : List E) (e : E) → number e ≢ 0 → is_reserved number shared f e ≡ is_empty (under number (number e) f)
  reserved_some f e some = ap (λ b. cond b (not shared) (is_empty (under number (number e) f))) (ne_eqb (number e) 0 some)

  reserved_zero : (f : List E) (e : E) → number e ≡ 0 → is_reserved number shared f e ≡ not shared
  reserved_zero f e zero = ap (λ b. cond b (not shared) (is_empty (under number (number e) f))) (eq-eqb (number e) 0 zero)

  -- a number that nothing before stands under is made by a reserved entry, or by none
  makes_as_reserved : (n : ℕ) → n ≢ 0 → (before es : List E) → is_empty (under number n before) ≡ true → is_empty (under number n (reserved_after number shared before es)) ≡ is_empty (under number n es)
  makes_as_reserved n some before [] none = refl
  makes_as_reserved n some before (e ∷ es) none =
      let rest : List E = reserved_after number shared (before ++ e ∷ []) es in
      dite (ℕ_discrete (number e) n)
      (λ same. let is : is_reserved number shared before e ≡ true = reserved_some before e (λ zero. some (sym same ∙ zero)) ∙ (ap (λ k. is_empty (under number k before)) same ∙ none) in
      ap (λ b. is_empty (under number n (cond b (e ∷ rest) rest))) is ∙ (under_head n e rest same ∙ sym (under_head n e es same)))
      (λ other. ap is_empty (under_skips n e rest other (is_reserved number shared before e))
      ∙ (makes_as_reserved n some (before ++ e ∷ []) es (ap is_empty (under_other number n before e other) ∙ none) ∙ ap is_empty (sym (under_skips n e es other true))))

  pub still_reserved : (k : Known E) (h : List E) (e : E) → OthersAdded number shared k h → k.first ≡ true → is_reserved number shared k.front e ≡ true → is_reserved number shared h e ≡ true
  still_reserved k h e q first is = dite (ℕ_discrete (number e) 0)
      (λ zero. reserved_zero h e zero ∙ (sym (reserved_zero k.front e zero) ∙ is))
      (λ some. reserved_some h e some ∙ (sym (makes_as_reserved (number e) some [] h refl) ∙ (ap (λ es. is_empty (under number (number e) es)) (q.first first)
      ∙ (makes_as_reserved (number e) some [] k.front refl ∙ (sym (reserved_some k.front e some) ∙ is)))))

  pub may_still_add : (k : Known E) (h : List E) (e : E) → OthersAdded number shared k h → MayAdd number shared k e → MayAdd number shared (record k { front = h }) e
  may_still_add k h e q (inl own) = inl own
  may_still_add k h e q (inr (inl first)) = inr (inl (first.0, still_reserved k h e q first.0 first.1))
  may_still_add k h e q (inr (inr zero)) = inr (inr zero)
