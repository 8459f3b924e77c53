use Rattle.std.proofs.Common.{◌≡◌, ◌∙◌, ◌<◌, ◌+◌, ℕ, List, Option, None, Some, length, take, get_or, refl, sym, subst, arith}
use Rattle.std.proofs.lemmas.List.{take_more}
use Rattle.reference_totals.specs.Totals.{SumBy, capped}
use Rattle.reference_totals.specs.Rounds.{total_in}
use Rattle.reference_totals.proofs.TotalSums.{sum_push}
use Rattle.reference_totals.proofs.sums.shown_total.Goals as goal

counted_next : (own most k a b c : ℕ) → b ≡ capped most (own + k) → c ≡ capped most (b + a) → c ≡ capped most (own + (k + a))
counted_next own most k a b c e f = omega arith

sum_more : (known : List (Option ℕ)) (own most : ℕ) (ns : List (Option ℕ)) (i : ℕ) (n : Option ℕ) (a b c : ℕ) → i < length ns → n ≡ get_or ns i None → total_in known n ≡ Some a → c ≡ capped most (b + a)
    → (k : ℕ) × SumBy (λ j v. total_in known j ≡ Some v) (take i ns) k × (b ≡ capped most (own + k))
    → (k : ℕ) × SumBy (λ j v. total_in known j ≡ Some v) (take (i + 1) ns) k × (c ≡ capped most (own + k))
sum_more known own most ns i n a b c l e total f h =
    let here : total_in known (get_or ns i None) ≡ Some a = subst (λ (x : Option ℕ). total_in known x ≡ Some a) e total in (
      h.0 + a,
      subst (λ (xs : List (Option ℕ)). SumBy (λ j v. total_in known j ≡ Some v) xs (h.0 + a)) (sym (take_more ns i None l)) (sum_push (λ j v. total_in known j ≡ Some v) (take i ns) (get_or ns i None) h.0 a h.1 here),
      counted_next own most h.0 a b c h.2 f,
    )

pub loop-number-preserved : goal.loop-number-preserved
loop-number-preserved c =
    let same = c.as_slice-number-items.ensures in
    let within : c.loop-number.number-index < length c.args.place.now.to = subst (λ (xs : List (Option ℕ)). c.loop-number.number-index < length xs) same (omega arith) in
    let read : total_in c.args.known.now (get_or c.args.place.now.to c.loop-number.number-index None) ≡ Some c.in-Some.total =
    subst (λ (xs : List (Option ℕ)). total_in c.args.known.now (get_or xs c.loop-number.number-index None) ≡ Some c.in-Some.total) same (sym c.total_at.ensures ∙ c.in-Some.is) in
    sum_more c.args.known.now c.args.place.now.own c.args.most c.args.place.now.to c.loop-number.number-index (get_or c.args.place.now.to c.loop-number.number-index None) c.in-Some.total c.loop-number.sum c.capped_sum-sum-in-loop-number.result
    within refl read c.capped_sum-sum-in-loop-number.ensures c.loop-number.invariant
