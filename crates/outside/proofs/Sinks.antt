-- Writes in turn.
use Rattle.std.proofs.Common.{◌≡◌, ℕ, ◌+◌, ◌-◌, ◌∙◌, sym, ◌≤◌, List, ◌++◌, Option, Some, None, length, take, drop, refl, ap, arith, append_assoc, length-drop}
use Rattle.std.proofs.lemmas.List.{take_all}
use Rattle.std.proofs.Math.Seq.{take-add}
use Rattle.outside.specs.Files.{grown}

pub grown-more : (taken : Option (List ℕ)) (a b : List ℕ) → grown (grown taken a) b ≡ grown taken (a ++ b)
grown-more None a b = refl
grown-more (Some t) a b = ap Some (append_assoc t a b)

-- one more write takes the next bytes of what is left
pub grown-next : (t u v : Option (List ℕ)) (xs : List ℕ) (at n : ℕ) → u ≡ grown t (take at xs) → n ≤ length xs - at → v ≡ grown u (take n (take (length xs - at) (drop at xs))) → v ≡ grown t (take (at + n) xs)
grown-next t u v xs at n i le e =
    let all : take (length xs - at) (drop at xs) ≡ drop at xs = take_all (length xs - at) (drop at xs) (simp length-drop (omega arith)) in
    e ∙ ap (λ ys. grown u (take n ys)) all ∙ ap (λ w. grown w (take n (drop at xs))) i ∙ grown-more t (take at xs) (take n (drop at xs)) ∙ ap (grown t) (sym (take-add at n xs))
