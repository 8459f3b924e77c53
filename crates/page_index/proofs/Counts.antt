-- How many keys there are, with one more or less.
use Rattle.std.proofs.Common.{◌≡◌, ◌∙◌, ℕ, ◌+◌, ◌-◌, Bool, List, [], ◌∷◌, length, refl, sym, subst, ap, arith, true, false}
use Rattle.std.specs.Prelude.{Option, not, ◌||◌}
use Rattle.std.specs.declared.cmp.Ordering.{Ordering}
use Rattle.std.specs.declared.cmp.Ordering.TheVariants.{Less, Equal, Greater}
use Rattle.std.specs.Ordering.{match_ordering, is_eq}
use Rattle.std.specs.Cmp.{IsTotalOrder, tied_back}
use Rattle.collections.specs.Ordered.{IsAscending, with_item, without_item, has_item}
use Rattle.collections.proofs.Ascending.{IsAscending-with_item, IsAscending-without_item}
use Rattle.page_tree.specs.Blocks.{Image}
use Rattle.page_index.specs.Root.{root_keys, IsRoot}
use Rattle.page_tree.proofs.Keys.{turned, above_lower, has-none}

module _ {X : Type 0} (R : X → X → Ordering) (o : IsTotalOrder R) (x : X) where
  tied_has : (k : X) (ks : List X) → R x k ≡ Equal → has_item R x (k ∷ ks) ≡ true
  tied_has k ks e = ap (λ c. is_eq c || has_item R x ks) (tied_back o x k e)

  over_has : (k : X) (ks : List X) → R x k ≡ Greater → has_item R x (k ∷ ks) ≡ has_item R x ks
  over_has k ks e = ap (λ c. is_eq c || has_item R x ks) (turned R o x k e)

  under_has : (k : X) (ks : List X) → IsAscending R (k ∷ ks) → R x k ≡ Less → has_item R x (k ∷ ks) ≡ false
  under_has k ks s e = has-none R o x (k ∷ ks) (e, above_lower R o x k ks e s.0)

  pub length-new : (ks : List X) → has_item R x ks ≡ false → length (with_item R x ks) ≡ length ks + 1
  length-new [] n = omega arith
  length-new (k ∷ ks) n = elim (R x k) as (λ c. R x k ≡ c → length (match_ordering c (x ∷ k ∷ ks) (k ∷ ks) (k ∷ with_item R x ks)) ≡ length (k ∷ ks) + 1) [
    | Less ↦ λ e. omega arith
    | Equal ↦ λ e. let t = tied_has k ks e in absurd (cc (t, n))
    | Greater ↦ λ e. let ih = length-new ks (sym (over_has k ks e) ∙ n) in omega arith
  ] refl

  pub length-there : (ks : List X) → IsAscending R ks → has_item R x ks ≡ true → length (with_item R x ks) ≡ length ks
  length-there [] s n = cc
  length-there (k ∷ ks) s n = elim (R x k) as (λ c. R x k ≡ c → length (match_ordering c (x ∷ k ∷ ks) (k ∷ ks) (k ∷ with_item R x ks)) ≡ length (k ∷ ks)) [
    | Less ↦ λ e. let t = under_has k ks s e in absurd (cc (t, n))
    | Equal ↦ λ e. refl
    | Greater ↦ λ e. let ih = length-there ks s.1 (sym (over_has k ks e) ∙ n) in omega arith
  ] refl

  pub length-gone : (ks : List X) → IsAscending R ks → has_item R x ks ≡ true → length (without_item R x ks) + 1 ≡ length ks
  length-gone [] s n = cc
  length-gone (k ∷ ks) s n = elim (R x k) as (λ c. R x k ≡ c → length (match_ordering c (k ∷ ks) ks (k ∷ without_item R x ks)) + 1 ≡ length (k ∷ ks)) [
    | Less ↦ λ e. let t = under_has k ks s e in absurd (cc (t, n))
    | Equal ↦ λ e. omega arith
    | Greater ↦ λ e. let ih = length-gone ks s.1 (sym (over_has k ks e) ∙ n) in omega arith
  ] refl

  pub length-absent : (ks : List X) → has_item R x ks ≡ false → length (without_item R x ks) ≡ length ks
  length-absent [] n = refl
  length-absent (k ∷ ks) n = elim (R x k) as (λ c. R x k ≡ c → length (match_ordering c (k ∷ ks) ks (k ∷ without_item R x ks)) ≡ length (k ∷ ks)) [
    | Less ↦ λ e. refl
    | Equal ↦ λ e. let t = tied_has k ks e in absurd (cc (t, n))
    | Greater ↦ λ e. let ih = length-absent ks (sym (over_has k ks e) ∙ n) in omega arith
  ] refl

  -- the root after an insertion or a removal
  module _ (len : ℕ) (old new : Option (Image X)) (root : IsRoot R len old) where
    pub root-new : root_keys new ≡ with_item R x (root_keys old) → true ≡ not (has_item R x (root_keys old)) → IsRoot R (len + 1) new
    root-new is n =
        let absent : has_item R x (root_keys old) ≡ false = not_true (has_item R x (root_keys old)) n in
        let l = length-new (root_keys old) absent in let c = root.counted in let e = ap length is in
        record { counted = omega arith; ascending = subst (λ (ks : List X). IsAscending R ks) (sym is) (IsAscending-with_item o x (root_keys old) root.ascending) }
      where
        not_true : (b : Bool) → true ≡ not b → b ≡ false
        not_true true n = cc
        not_true false n = refl

    pub root-there : root_keys new ≡ with_item R x (root_keys old) → false ≡ not (has_item R x (root_keys old)) → IsRoot R len new
    root-there is n =
        let there : has_item R x (root_keys old) ≡ true = not_false (has_item R x (root_keys old)) n in
        let l = length-there (root_keys old) root.ascending there in let c = root.counted in let e = ap length is in
        record { counted = omega arith; ascending = subst (λ (ks : List X). IsAscending R ks) (sym is) (IsAscending-with_item o x (root_keys old) root.ascending) }
      where
        not_false : (b : Bool) → false ≡ not b → b ≡ true
        not_false true n = refl
        not_false false n = cc

    pub root-gone : root_keys new ≡ without_item R x (root_keys old) → true ≡ has_item R x (root_keys old) → IsRoot R (len - 1) new
    root-gone is t =
        let l = length-gone (root_keys old) root.ascending (sym t) in let c = root.counted in let e = ap length is in
        record { counted = omega arith; ascending = subst (λ (ks : List X). IsAscending R ks) (sym is) (IsAscending-without_item o x (root_keys old) root.ascending) }

    pub root-absent : root_keys new ≡ without_item R x (root_keys old) → false ≡ has_item R x (root_keys old) → IsRoot R len new
    root-absent is t =
        let l = length-absent (root_keys old) (sym t) in let c = root.counted in let e = ap length is in
        record { counted = omega arith; ascending = subst (λ (ks : List X). IsAscending R ks) (sym is) (IsAscending-without_item o x (root_keys old) root.ascending) }
