-- Histories to which others add entries.
use Rattle.std.proofs.Common.{◌≡◌, ◌≢◌, ℕ, ◌==◌, Bool, true, false, not, List, [], ◌∷◌, ◌++◌, refl, ap, sym, subst, ◌∙◌, cond, eq-eqb, ne_eqb, append_assoc}
use mathlib.Core.List.{IsPrefix}
use Rattle.std.proofs.lemmas.List.{append-nil}
use Rattle.turn_lock.specs.declared.view.Known.{Known}
use Rattle.turn_lock.specs.History.{has_number, is_empty, under, IsMade, is_reserved, reserved, reserved_after, OthersAdded}
use Rattle.turn_lock.proofs.Numbers.{yes_no}
use Rattle.turn_lock.proofs.Prefixes.{prefix_self, prefix_trans, same_between}

module _ {E : Type 0} (number : E → ℕ) where
  picked_append : (x : E) (b : Bool) (xs ys zs : List E) → zs ≡ xs ++ ys → cond b (x ∷ zs) zs ≡ cond b (x ∷ xs) xs ++ ys
  picked_append x true xs ys zs e = ap (λ ws. x ∷ ws) e
  picked_append x false xs ys zs e = e

  pub under_append : (n : ℕ) (xs ys : List E) → under number n (xs ++ ys) ≡ under number n xs ++ under number n ys
  under_append n [] ys = refl
  under_append n (x ∷ xs) ys = picked_append x (number x == n) (under number n xs) (under number n ys) (under number n (xs ++ ys)) (under_append n xs ys)

  under_grows : (n : ℕ) (xs ys : List E) → IsPrefix (under number n xs) (under number n (xs ++ ys))
  under_grows n xs ys = (under number n ys, sym (under_append n xs ys))

  -- an entry under another number
  pub under_other : (n : ℕ) (xs : List E) (e : E) → number e ≢ n → under number n (xs ++ e ∷ []) ≡ under number n xs
  under_other n xs e other = under_append n xs (e ∷ []) ∙ (ap (λ b. under number n xs ++ cond b (e ∷ []) []) (ne_eqb (number e) n other) ∙ append-nil (under number n xs))

  -- an entry under its own number
  pub under_own : (xs : List E) (e : E) → under number (number e) (xs ++ e ∷ []) ≡ under number (number e) xs ++ e ∷ []
  under_own xs e = under_append (number e) xs (e ∷ []) ∙ ap (λ b. under number (number e) xs ++ cond b (e ∷ []) []) (eq-eqb (number e) (number e) refl)

  -- a number that is made stays made, and the entry under it makes it
  append_some : (xs ys : List E) → xs ≢ [] → xs ++ ys ≢ []
  append_some [] ys some e = some refl
  append_some (x ∷ xs) ys some e = cc e

  append_last : (xs : List E) (y : E) → xs ++ y ∷ [] ≢ []
  append_last [] y e = cc e
  append_last (x ∷ xs) y e = cc e

  pub made_more : (h : List E) (e : E) (n : ℕ) → IsMade number h n → IsMade number (h ++ e ∷ []) n
  made_more h e n made = (made.0, λ none. append_some (under number n h) (under number n (e ∷ [])) made.1 (sym (under_append n h (e ∷ [])) ∙ none))

  pub made_here : (h : List E) (e : E) → number e ≢ 0 → IsMade number (h ++ e ∷ []) (number e)
  made_here h e some = (
    some,
    λ none. append_last (under number (number e) h) e
        (sym (under_own h e) ∙ none),
  )

  pub made_before : (h : List E) (e : E) (n : ℕ) → number e ≢ n → IsMade number (h ++ e ∷ []) n → IsMade number h n
  made_before h e n other made = (made.0, λ none. made.1 (under_other n h e other ∙ none))

  module _ (shared : Bool) where
    pub reserved_append : (before xs ys : List E) → reserved_after number shared before (xs ++ ys) ≡ reserved_after number shared before xs ++ reserved_after number shared (before ++ xs) ys
    reserved_append before [] ys = ap (λ (z : List E). reserved_after number shared z ys) (sym (append-nil before))
    reserved_append before (x ∷ xs) ys =
        picked_append x (is_reserved number shared before x) (reserved_after number shared (before ++ x ∷ []) xs) (reserved_after number shared (before ++ x ∷ xs) ys)
        (reserved_after number shared (before ++ x ∷ []) (xs ++ ys))
        (reserved_append (before ++ x ∷ []) xs ys ∙ ap (λ (z : List E). reserved_after number shared (before ++ x ∷ []) xs ++ reserved_after number shared z ys) (append_assoc before (x ∷ []) xs))

    pub reserved_grows : (xs ys : List E) → IsPrefix (reserved number shared xs) (reserved number shared (xs ++ ys))
    reserved_grows xs ys = (reserved_after number shared xs ys, sym (reserved_append [] xs ys))

    -- an entry that isn't reserved
    pub reserved_other : (h : List E) (e : E) → is_reserved number shared h e ≡ false → reserved number shared (h ++ e ∷ []) ≡ reserved number shared h
    reserved_other h e is = reserved_append [] h (e ∷ []) ∙ (ap (λ b. reserved number shared h ++ cond b (e ∷ []) []) is ∙ append-nil (reserved number shared h))

    -- an entry that is
    pub reserved_own : (h : List E) (e : E) → is_reserved number shared h e ≡ true → reserved number shared (h ++ e ∷ []) ≡ reserved number shared h ++ e ∷ []
    reserved_own h e is = reserved_append [] h (e ∷ []) ∙ ap (λ b. reserved number shared h ++ cond b (e ∷ []) []) is

    pub added_self : (k : Known E) → OthersAdded number shared k k.front
    added_self k = record { begins = prefix_self k.front; own = λ n h. refl; first = λ h. refl }

    -- a front that is the history
    pub added_whole : (k : Known E) (h : List E) → k.front ≡ h → OthersAdded number shared k h
    added_whole k h e = subst (λ (z : List E). OthersAdded number shared k z) e (added_self k)

    -- a list between the front and the history
    pub added_between : (k : Known E) (l h : List E) → OthersAdded number shared k h → IsPrefix k.front l → IsPrefix l h → OthersAdded number shared k l
    added_between k l h q p r = record {
      begins = p;
      own = λ n has. same_between (under number n) (under_grows n) k.front l h p r (q.own n has);
      first = λ is. same_between (reserved number shared) reserved_grows k.front l h p r (q.first is);
    }

    -- another's entry
    pub added_more : (k : Known E) (h : List E) (e : E) → OthersAdded number shared k h → ((n : ℕ) → has_number k.numbers n ≡ true → number e ≢ n)
        → (k.first ≡ true → is_reserved number shared h e ≡ false) → OthersAdded number shared k (h ++ e ∷ [])
    added_more k h e q others unreserved = record {
      begins = prefix_trans k.front h (h ++ e ∷ []) q.begins (e ∷ [], refl);
      own = λ n has. under_other n h e (others n has) ∙ q.own n has;
      first = λ is. reserved_other h e (unreserved is) ∙ q.first is;
    }

    -- an entry under a number that is made isn't reserved, nor is one under a 0 that is everybody's
    pub some_is_not_empty : {A : Type 0} (xs : List A) → xs ≢ [] → is_empty xs ≡ false
    some_is_not_empty [] some = absurd (some refl)
    some_is_not_empty (x ∷ xs) some = refl

    pub empty_is_none : {A : Type 0} (xs : List A) → is_empty xs ≡ true → xs ≡ []
    empty_is_none [] is = refl
    empty_is_none (x ∷ xs) is = absurd (let z : false ≡ true = is in cc)

    pub made_unreserved : (h : List E) (e : E) → IsMade number h (number e) → is_reserved number shared h e ≡ false
    made_unreserved h e made = ap (λ b. cond b (not shared) (is_empty (under number (number e) h))) (ne_eqb (number e) 0 made.0) ∙ some_is_not_empty (under number (number e) h) made.1

    pub zero_unreserved : (h : List E) (e : E) → number e ≡ 0 → shared ≡ true → is_reserved number shared h e ≡ false
    zero_unreserved h e zero is = ap (λ b. cond b (not shared) (is_empty (under number (number e) h))) (eq-eqb (number e) 0 zero) ∙ ap not is

    -- a reserved entry stands under no number that is made
    pub reserved_unmade : (h : List E) (e : E) (n : ℕ) → is_reserved number shared h e ≡ true → IsMade number h n → number e ≢ n
    reserved_unmade h e n is made same =
        yes_no (is_reserved number shared h e) is (made_unreserved h e (subst (λ (k : ℕ). IsMade number h k) (sym same) made))
