-- Sums of totals, and that a node has one total.
use Rattle.std.proofs.Common.{◌≡◌, ◌∙◌, ℕ, zero, suc, ◌+◌, ◌≤◌, min, List, [], ◌∷◌, ◌++◌, refl, sym, ap, subst, arith, Option, Some}
use Rattle.std.specs.List.{Contains}
use Rattle.std.specs.BTreeMap.{BTreeMap}
use Rattle.rdf_model.specs.declared.term.Term.{Term}
use Rattle.reference_totals.specs.declared.place.WeightedPlace.{WeightedPlace}
use Rattle.reference_totals.specs.Totals.{HasTotal, HaveOnePlace, OneTotalLaw, SumBy, TotalBy, capped}
use Rattle.reference_totals.specs.Rounds.{AreSound, total_known}

pub sum_map : {X : Type 0} → (T U : X → ℕ → Type 0) (xs : List X) (k : ℕ) → ((x : X) (a : ℕ) → T x a → U x a) → SumBy T xs k → SumBy U xs k
sum_map T U [] k f h = h
sum_map T U (x ∷ xs) k f h = (h.0, h.1, f x h.0 h.2, sum_map T U xs h.1 f h.3, h.4)

-- a sum with a number more
pub sum_push : {X : Type 0} → (T : X → ℕ → Type 0) (xs : List X) (x : X) (k a : ℕ) → SumBy T xs k → T x a → SumBy T (xs ++ x ∷ []) (k + a)
sum_push T [] x k a h t = (a, 0, t, refl, omega arith)
sum_push T (y ∷ ys) x k a h t = (h.0, h.1 + a, h.2, sum_push T ys x h.1 a h.3 t, (let e = h.4 in omega arith))

-- each item has a number of the sum
pub sum_has : {X : Type 0} → (T : X → ℕ → Type 0) (xs : List X) (k : ℕ) → SumBy T xs k → (x : X) → Contains xs x → (a : ℕ) × T x a
sum_has T [] k h x c = absurd (omega arith)
sum_has T (y ∷ ys) k h x (zero, l, e) = (h.0, subst (λ z. T z h.0) e h.2)
sum_has T (y ∷ ys) k h x (suc i, l, e) = sum_has T ys h.1 h.3 x (i, omega arith, e)

-- one sum, where there is one number of each item
pub one_sum : {X : Type 0} → (T U : X → ℕ → Type 0) (xs : List X) (j k : ℕ) → ((x : X) (a b : ℕ) → T x a → U x b → a ≡ b) → SumBy T xs j → SumBy U xs k → j ≡ k
one_sum T U [] j k one h i = h ∙ sym i
one_sum T U (x ∷ xs) j k one h i =
    let first : h.0 ≡ i.0 = one x h.0 i.0 h.2 i.2 in
    let others : h.1 ≡ i.1 = one_sum T U xs h.1 i.1 one h.3 i.3 in
    let e = h.4 in
    let f = i.4 in
    omega arith

-- what is shown by shorter chains is shown by longer ones
pub deeper : (places : List WeightedPlace) (d e : ℕ) (n : Term) (k : ℕ) → d ≤ e → TotalBy places d n k → TotalBy places e n k
deeper places zero e n k l h = absurd h
deeper places (suc d) zero n k l h = absurd (omega arith)
deeper places (suc d) (suc e) n k l h =
    (h.0, h.1, h.2, (h.3.0, sum_map (TotalBy places d) (TotalBy places e) h.0.to h.3.0 (λ m a t. deeper places d e m a (omega arith) t) h.3.1, h.3.2))

gathered : (places : List WeightedPlace) (ns : List Term) (k : ℕ) → SumBy (HasTotal places) ns k → (d : ℕ) × SumBy (TotalBy places d) ns k
gathered places [] k h = (0, h)
gathered places (n ∷ ns) k h =
    let rest = gathered places ns h.1 h.3 in
    let d : ℕ = h.2.0 + rest.0 in (
      d,
      (h.0, h.1, deeper places h.2.0 d n h.0 (omega arith) h.2.1, sum_map (TotalBy places rest.0) (TotalBy places d) ns h.1 (λ m a t. deeper places rest.0 d m a (omega arith) t) rest.1, h.4),
    )

-- the totals of the nodes to which a place refers give its own
pub total_from : (places : List WeightedPlace) (p : WeightedPlace) (sum : ℕ) → Contains places p → SumBy (HasTotal places) p.to sum → HasTotal places p.node (p.own + sum)
total_from places p sum c h = let all = gathered places p.to sum h in (suc all.0, (p, c, refl, (sum, all.1, refl)))

capped_step : (most w a b c : ℕ) → capped most (w + capped most a + b) ≡ capped most (w + capped most a + c) → capped most (w + (a + c)) ≡ capped most (w + (capped most a + b))
capped_step most w a b c e = omega arith

-- sums of totals that are counted so far are the sums of totals, as far as they are counted
pub sum_counted : (places : List WeightedPlace) (most : ℕ) (numbers : BTreeMap Term ℕ) (known : List (Option ℕ)) → AreSound places most numbers known → (ns : List Term) (k : ℕ)
    → SumBy (λ m a. total_known numbers known m ≡ Some a) ns k → (j : ℕ) × SumBy (HasTotal places) ns j × ((w : ℕ) → capped most (w + k) ≡ capped most (w + j))
sum_counted places most numbers known sound [] k h = (0, refl, λ w. ap (λ z. capped most (w + z)) h)
sum_counted places most numbers known sound (n ∷ ns) k h =
    let first = sound n h.0 h.2 in
    let rest = sum_counted places most numbers known sound ns h.1 h.3 in (
      first.0 + rest.0,
      (first.0, rest.0, first.1, rest.1, refl),
      λ w.
          let e : k ≡ h.0 + h.1 = h.4 in
          let v : h.0 ≡ min first.0 (most + 1) = first.2 in
          let more : min (w + h.0 + h.1) (most + 1) ≡ min (w + h.0 + rest.0) (most + 1) = rest.2 (w + h.0) in
          omega arith,
    )

one_by : (places : List WeightedPlace) → HaveOnePlace places → (d e : ℕ) (n : Term) (j k : ℕ) → TotalBy places d n j → TotalBy places e n k → j ≡ k
one_by places one zero e n j k h i = absurd h
one_by places one (suc d) zero n j k h i = absurd i
one_by places one (suc d) (suc e) n j k h i =
    let same = one h.0 i.0 h.1 i.1 (h.2 ∙ sym i.2) in
    let sums : h.3.0 ≡ i.3.0 = one_sum (TotalBy places d) (TotalBy places e) i.0.to h.3.0 i.3.0 (λ m a b t u. one_by places one d e m a b t u)
    (subst (λ (ns : List Term). SumBy (TotalBy places d) ns h.3.0) same.1 h.3.1) i.3.1 in
    let own : h.0.own ≡ i.0.own = same.0 in
    let f : j ≡ h.0.own + h.3.0 = h.3.2 in
    let g : k ≡ i.0.own + i.3.0 = i.3.2 in
    omega arith

pub one_total : OneTotalLaw
one_total places one n j k h i = one_by places one h.0 i.0 n j k h.1 i.1
