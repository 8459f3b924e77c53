-- How many of the pairs are targets.
use Rattle.std.proofs.Common.{◌≡◌, ◌∙◌, ℕ, ◌+◌, List, [], ◌∷◌, refl, sym, ap, subst, arith, inl, inr}
use Rattle.std.specs.Prelude.{◌↔◌}
use Rattle.std.specs.List.{Contains}
use Rattle.std.specs.declared.cmp.Ordering.TheVariants.{Less, Equal}
use Rattle.std.specs.Ordering.{nat_cmp, ordering_then}
use Rattle.std.specs.Cmp.{tied_itself}
use Rattle.std.proofs.lemmas.Cmp.{nat_cmp_total}
use Rattle.collections.specs.Ordered.{IsAscending}
use Rattle.collections.specs.Pairs.{pair_cmp}
use Rattle.collections.proofs.Members.{below, has_cases, has_equal, has_head, has_tail}
use Rattle.rdf_model.specs.declared.term.Term.{Term}
use Rattle.rdf_model.specs.declared.triple.Triple.{Triple}
use Rattle.shape_model.specs.Targets.{Target}
use Rattle.parallel_validate.specs.Counting.{GrowsByCount, IsApart, IsCount}
use Rattle.parallel_validate.specs.PairResults.{CountsTarget}
use Rattle.parallel_validate.specs.PairsResults.{CountsPairs}

pub apart_pairs : (ps : List (ℕ × ℕ)) → IsAscending pair_cmp ps → IsApart ps
apart_pairs [] a = tt
apart_pairs (p ∷ ps) a = (
  λ c.
      let less : pair_cmp p p ≡ Less = below pair_cmp p ps p a.0 c in
      let tied : pair_cmp p p ≡ Equal = ap (λ o. ordering_then o (nat_cmp p.1 p.1)) (tied_itself nat_cmp_total p.0) ∙ tied_itself nat_cmp_total p.1 in
      cc (less, tied),
  apart_pairs ps a.1,
)

pub count_same : {X : Type 0} → (P Q : X → Type 0) (n : ℕ) → ((x : X) → P x ↔ Q x) → IsCount P n → IsCount Q n
count_same P Q n e c = record { items = c.items; apart = c.apart; members = λ x. (λ i. (e x).0 ((c.members x).0 i), λ q. (c.members x).1 ((e x).1 q)); count = c.count }

module _ (h s : List Triple) (T : ℕ × ℕ → Term × Term) where
  -- a target that a pair of the list stands for
  abbrev pub IsAim : List (ℕ × ℕ) → Term × Term → Type 0
  IsAim es x = ((e : ℕ × ℕ) × Contains es e × (T e ≡ x)) × Target h s x.0 x.1

  pub counted : (es : List (ℕ × ℕ)) (old new : ℕ) → IsApart es → ((x y : ℕ × ℕ) → Contains es x → Contains es y → T x ≡ T y → x ≡ y)
      → CountsPairs (λ e. CountsTarget h s (T e).0 (T e).1) es old new → GrowsByCount (IsAim es) old new
  counted [] old new a one c = (0, record { items = []; apart = tt; members = λ x. (λ i. absurd (omega (arith, i.1)), λ p. absurd (omega (arith, p.0.1.1))); count = refl }, omega (arith, c))
  counted (e ∷ es) old new a one c =
      let k = counted es c.0 new a.1 (λ x y i j. one x y (has_tail e es x i) (has_tail e es y j)) c.2 in
      let items : List (Term × Term) = k.1.items in
      elim c.1 [
        | inl t ↦ (
          k.0 + 1,
          record {
            items = T e ∷ items;
            apart = (
              λ i. let p = (k.1.members (T e)).0 i in a.0 (subst (λ (x : ℕ × ℕ). Contains es x) (one p.0.0 e (has_tail e es p.0.0 p.0.1) (has_head e es) p.0.2) p.0.1),
              k.1.apart,
            );
            members = λ x. (
              λ i. elim (has_cases (T e) items x i) [
                | inl q ↦ ((e, has_head e es, q), subst (λ (y : Term × Term). Target h s y.0 y.1) q t.0)
                | inr j ↦ let p = (k.1.members x).0 j in ((p.0.0, has_tail e es p.0.0 p.0.1, p.0.2), p.1)
              ],
              λ p. elim (has_cases e es p.0.0 p.0.1) [
                | inl q ↦ has_equal (T e) items x (ap T q ∙ p.0.2)
                | inr j ↦ has_tail (T e) items x ((k.1.members x).1 ((p.0.0, j, p.0.2), p.1))
              ],
            );
            count = let n = k.1.count in omega (arith, n);
          },
          let n = k.2 in let m = t.1 in omega (arith, m, n),
        )
        | inr t ↦ (
          k.0,
          record {
            items = items;
            apart = k.1.apart;
            members = λ x. (
              λ i. let p = (k.1.members x).0 i in ((p.0.0, has_tail e es p.0.0 p.0.1, p.0.2), p.1),
              λ p. elim (has_cases e es p.0.0 p.0.1) [
                | inl q ↦ absurd (t.0 (subst (λ (y : Term × Term). Target h s y.0 y.1) (sym (ap T q ∙ p.0.2)) p.1))
                | inr j ↦ (k.1.members x).1 ((p.0.0, j, p.0.2), p.1)
              ],
            );
            count = k.1.count;
          },
          let n = k.2 in let m = t.1 in omega (arith, m, n),
        )
      ]
