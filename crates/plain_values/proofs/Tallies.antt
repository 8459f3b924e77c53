-- How many members of a list something holds of.
use Rattle.std.proofs.Common.{◌≡◌, ◌∙◌, ◌==◌, ℕ, ◌+◌, ◌<◌, not, List, [], ◌∷◌, ◌++◌, length, take, get_or, refl, sym, subst, ap, arith, inl, inr, length-append, IsTrue}
use Rattle.std.proofs.lemmas.Bool.Decides.{nat_tests}
use Rattle.std.proofs.lemmas.List.{take_more}
use Rattle.shape_syntax.proofs.Equals.{negated, negation}
use Rattle.plain_values.specs.declared.site.ToldRow.{ToldRow}
use Rattle.plain_values.specs.declared.logic.Demand.TheVariants.{All, Any, One}
use Rattle.std.specs.Prelude.{◌↔◌}
use Rattle.rdf_model.specs.declared.term.Term.{Term}
use Rattle.shape_model.specs.Components.{NoneOf, OneOf}
use Rattle.shape_syntax.proofs.Scans.{member_cases, member_front, member_push}
use Rattle.plain_values.specs.Tests.{Conforming, IsUnmet, Tallied}

module _ (P : Term → Type 0) where
  none_push : (xs : List Term) (x : Term) → (P x → ⊥) → NoneOf P xs → NoneOf P (xs ++ x ∷ [])
  none_push xs x apart h m i p = elim (member_cases xs x m i) [ inl j ↦ h m j p | inr e ↦ apart (subst (λ (y : Term). P y) (sym e) p) ]

  none_front : (xs : List Term) (x : Term) → NoneOf P (xs ++ x ∷ []) → NoneOf P xs
  none_front xs x h m i p = h m (member_front xs (x ∷ []) m i) p

  one_first : (xs : List Term) (x : Term) → P x → NoneOf P xs → OneOf P (xs ++ x ∷ [])
  one_first [] x p h = inl (p, λ m i q. i)
  one_first (y ∷ ys) x p h = inr ((λ q. h y (inl refl) q), one_first ys x p (λ m i q. h m (inr i) q))

  first_one : (xs : List Term) (x : Term) → P x → OneOf P (xs ++ x ∷ []) → NoneOf P xs
  first_one [] x p h m i q = absurd i
  first_one (y ∷ ys) x p h m i q = elim h [
    | inl w ↦ absurd (w.1 x (member_push ys x) p)
    | inr w ↦ elim i [ inl e ↦ w.0 (subst (λ (z : Term). P z) (sym e) q) | inr j ↦ first_one ys x p w.1 m j q ]
  ]

  one_more : (xs : List Term) (x : Term) → (P x → ⊥) → OneOf P xs → OneOf P (xs ++ x ∷ [])
  one_more [] x apart h = absurd h
  one_more (y ∷ ys) x apart h = elim h [ inl w ↦ inl (w.0, none_push ys x apart w.1) | inr w ↦ inr (w.0, one_more ys x apart w.1) ]

  one_fewer : (xs : List Term) (x : Term) → (P x → ⊥) → OneOf P (xs ++ x ∷ []) → OneOf P xs
  one_fewer [] x apart h = elim h [ inl w ↦ absurd (apart w.0) | inr w ↦ absurd w.1 ]
  one_fewer (y ∷ ys) x apart h = elim h [ inl w ↦ inl (w.0, none_front ys x w.1) | inr w ↦ inr (w.0, one_fewer ys x apart w.1) ]

  pub tallied_none : Tallied P [] 0
  tallied_none = record { none = (λ e m i p. i, λ h. refl); one = (λ e. absurd (omega (arith, e)), λ h. absurd h); all = (λ e m i. absurd i, λ h. refl); most = omega arith }

  pub tallied_yes : (xs : List Term) (x : Term) (n : ℕ) → P x → Tallied P xs n → Tallied P (xs ++ x ∷ []) (n + 1)
  tallied_yes xs x n p h = record {
    none = (λ e. absurd (omega (arith, e)), λ none. absurd (none x (member_push xs x) p));
    one = (λ e. let z : n ≡ 0 = omega (arith, e) in one_first xs x p (h.none.0 z), λ one. let z = h.none.1 (first_one xs x p one) in omega (arith, z));
    all = (
      λ e m i. let z : n ≡ length xs = omega (arith, e, length-append xs (x ∷ [])) in elim (member_cases xs x m i) [ inl j ↦ h.all.0 z m j | inr d ↦ subst (λ (y : Term). P y) d p ],
      λ all. let z = h.all.1 (λ m i. all m (member_front xs (x ∷ []) m i)) in omega (arith, z, length-append xs (x ∷ [])),
    );
    most = let le = h.most in omega (arith, le, length-append xs (x ∷ []));
  }

  pub tallied_no : (xs : List Term) (x : Term) (n : ℕ) → (P x → ⊥) → Tallied P xs n → Tallied P (xs ++ x ∷ []) n
  tallied_no xs x n apart h = record {
    none = (λ e. none_push xs x apart (h.none.0 e), λ none. h.none.1 (none_front xs x none));
    one = (λ e. one_more xs x apart (h.one.0 e), λ one. h.one.1 (one_fewer xs x apart one));
    all = (λ e. let le = h.most in absurd (omega (arith, e, le, length-append xs (x ∷ []))), λ all. absurd (apart (all x (member_push xs x))));
    most = let le = h.most in omega (arith, le, length-append xs (x ∷ []));
  }

  -- the same for the first items of a list
  pub tallied_next : (xs : List Term) (i : ℕ) (x : Term) (n : ℕ) → i < length xs → x ≡ get_or xs i x → P x → Tallied P (take i xs) n → Tallied P (take (i + 1) xs) (n + 1)
  tallied_next xs i x n l e p h = subst (λ (ys : List Term). Tallied P ys (n + 1)) (sym (take_more xs i x l ∙ ap (λ (y : Term). take i xs ++ y ∷ []) (sym e))) (tallied_yes (take i xs) x n p h)

  pub tallied_pass : (xs : List Term) (i : ℕ) (x : Term) (n : ℕ) → i < length xs → x ≡ get_or xs i x → (P x → ⊥) → Tallied P (take i xs) n → Tallied P (take (i + 1) xs) n
  tallied_pass xs i x n l e p h = subst (λ (ys : List Term). Tallied P ys n) (sym (take_more xs i x l ∙ ap (λ (y : Term). take i xs ++ y ∷ []) (sym e))) (tallied_no (take i xs) x n p h)

equal_is : (n k : ℕ) → IsTrue (n == k) ↔ (n ≡ k)
equal_is n k = (λ t. grind (arith, nat_tests), λ e. grind (arith, nat_tests))

unequal_is : (n k : ℕ) → IsTrue (not (n == k)) ↔ (n ≡ k → ⊥)
unequal_is n k = (λ t e. negated (n == k) t ((equal_is n k).1 e), λ apart. negation (n == k) (λ t. apart ((equal_is n k).0 t)))

module _ (told : List ToldRow) (members : List Term) (v : Term) (n : ℕ) (h : Tallied (λ m. Conforming told m v) members n) where
  pub unmet_all : IsTrue (not (n == length members)) ↔ IsUnmet All told members v
  unmet_all = (λ t all. (unequal_is n (length members)).0 t (h.all.1 all), λ unmet. (unequal_is n (length members)).1 (λ e. unmet (h.all.0 e)))

  pub unmet_any : IsTrue (n == 0) ↔ IsUnmet Any told members v
  unmet_any = (λ t. h.none.0 ((equal_is n 0).0 t), λ none. (equal_is n 0).1 (h.none.1 none))

  pub unmet_one : IsTrue (not (n == 1)) ↔ IsUnmet One told members v
  unmet_one = (λ t one. (unequal_is n 1).0 t (h.one.1 one), λ unmet. (unequal_is n 1).1 (λ e. unmet (h.one.0 e)))
