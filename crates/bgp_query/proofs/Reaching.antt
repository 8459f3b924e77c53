-- Which variables stand in patterns, and the number after them.
use Rattle.std.proofs.Common.{◌≡◌, ◌∙◌, ◌<◌, ◌≤◌, ◌+◌, ◌-◌, ◌==◌, ℕ, List, true, false, refl, sym, subst, arith, get_or, inl, inr, length, take}
use Rattle.std.proofs.lemmas.Bool.Decides.{nat_tests}
use Rattle.std.specs.Prelude.{◌⊎◌, ◌↔◌, max}
use Rattle.std.proofs.Math.Nat.{le-max_left, le-max_right, sub-add-eq-max}
use Rattle.std.proofs.lemmas.List.{take_all}
use Rattle.std.proofs.lemmas.List.Elements.{Contains-get_or}
use Rattle.bgp_query.specs.declared.pattern.JoinPattern.{JoinPattern}
use Rattle.bgp_query.specs.declared.pattern.Part.{Part}
use Rattle.bgp_query.specs.declared.pattern.Part.TheVariants.{Variable, Constant}
use Rattle.bgp_query.specs.Bindings.{HasVariable, IsVariable, Occurs}
use Rattle.bgp_query.specs.Trails.{IsReach}
use Rattle.bgp_query.proofs.Once.{upto_cases, upto_new, upto_old}

equal : (x y : ℕ) → (x == y) ≡ true → x ≡ y
equal x y e = grind (arith, nat_tests)

unequal : (x y : ℕ) → (x == y) ≡ false → x ≡ y → ⊥
unequal x y e f = grind (arith, nat_tests)

-- the reach of what holds by one or the other
last_of : (a b n : ℕ) → max a b ≡ n → (a ≡ n → ⊥) → b ≡ n
last_of a b n e f = elim (b == n) as (λ c. (b == n) ≡ c → b ≡ n) [
  | true ↦ λ h. equal b n h
  | false ↦ λ h. let g = unequal b n h in let k = sub-add-eq-max a b in absurd (neither a b n (k ∙ e) f g)
] refl
  where
    neither : (a b n : ℕ) → a - b + b ≡ n → (a ≡ n → ⊥) → (b ≡ n → ⊥) → ⊥
    neither a b n e f g = omega (arith, e, f, g)

module _ (P Q : ℕ → Type 0) (a b : ℕ) (p : IsReach P a) (q : IsReach Q b) where
  top : (v : ℕ) → max a b ≡ v + 1 → P v ⊎ Q v
  top v e = elim (a == v + 1) as (λ c. (a == v + 1) ≡ c → P v ⊎ Q v) [
    | true ↦ λ h. inl (p.top v (equal a (v + 1) h))
    | false ↦ λ h. inr (q.top v (last_of a b (v + 1) e (unequal a (v + 1) h)))
  ] refl

  under : (v : ℕ) → P v ⊎ Q v → v < max a b
  under v c = elim c [
    | inl d ↦ let l = p.below v d in let m = le-max_left a b in omega (arith, l, m)
    | inr d ↦ let l = q.below v d in let m = le-max_right a b in omega (arith, l, m)
  ]

  pub reach_either : IsReach (λ v. P v ⊎ Q v) (max a b)
  reach_either = record { below = under; top = top }

pub reach_as : (P Q : ℕ → Type 0) (a b : ℕ) → ((v : ℕ) → P v ↔ Q v) → a ≡ b → IsReach P a → IsReach Q b
reach_as P Q a b s e r = subst (λ (n : ℕ). IsReach Q n) e (record { below = λ v q. r.below v ((s v).1 q); top = λ v k. (s v).0 (r.top v k) })

pub variable_reach : (part : Part ℕ) (w n : ℕ) → part ≡ Variable w → n ≡ w + 1 → IsReach (λ v. IsVariable v part) n
variable_reach part w n e f = subst (λ (q : Part ℕ). IsReach (λ v. IsVariable v q) n) (sym e) (record {
  below = λ v i. omega (arith, i, f);
  top = λ v k. omega (arith, f, k);
})

pub constant_reach : (part : Part ℕ) (c n : ℕ) → part ≡ Constant c → n ≡ 0 → IsReach (λ v. IsVariable v part) n
constant_reach part c n e f = subst (λ (q : Part ℕ). IsReach (λ v. IsVariable v q) n) (sym e) (record {
  below = λ v i. absurd i;
  top = λ v k. absurd (omega (arith, f, k));
})

shuffled : (p : JoinPattern ℕ) (v : ℕ) → ((IsVariable v p.subject ⊎ IsVariable v p.predicate) ⊎ IsVariable v p.object) ↔ HasVariable p v
shuffled p v = (
  λ c. elim c [ inl d ↦ elim d [ inl x ↦ inl x | inr x ↦ inr (inl x) ] | inr x ↦ inr (inr x) ],
  λ c. elim c [ inl x ↦ inl (inl x) | inr d ↦ elim d [ inl x ↦ inl (inr x) | inr x ↦ inr x ] ],
)

pub pattern_reach : (p : JoinPattern ℕ) (a b c n : ℕ) → IsReach (λ v. IsVariable v p.subject) a → IsReach (λ v. IsVariable v p.predicate) b → IsReach (λ v. IsVariable v p.object) c → n ≡ max (max a b) c → IsReach (HasVariable p) n
pattern_reach p a b c n x y z e = reach_as (λ v. (IsVariable v p.subject ⊎ IsVariable v p.predicate) ⊎ IsVariable v p.object) (HasVariable p) (max (max a b) c) n (shuffled p) (sym e)
    (reach_either (λ v. IsVariable v p.subject ⊎ IsVariable v p.predicate) (λ v. IsVariable v p.object) (max a b) c (reach_either (λ v. IsVariable v p.subject) (λ v. IsVariable v p.predicate) a b x y) z)

-- patterns up to a place
occurs_either : (ps : List (JoinPattern ℕ)) (i : ℕ) (d : JoinPattern ℕ) → i < length ps → (v : ℕ) → (Occurs (take i ps) v ⊎ HasVariable (get_or ps i d) v) ↔ Occurs (take (i + 1) ps) v
occurs_either ps i d l v = (
  λ c. elim c [ inl o ↦ (o.0, upto_old ps i d o.0 l o.1, o.2) | inr h ↦ (get_or ps i d, upto_new ps i d l, h) ],
  λ o. elim (upto_cases ps i d o.0 l o.1) [ inl c ↦ inl (o.0, c, o.2) | inr e ↦ inr (subst (λ (q : JoinPattern ℕ). HasVariable q v) (sym e) o.2) ],
)

pub reach_none : (ps : List (JoinPattern ℕ)) (n : ℕ) → n ≡ 0 → IsReach (Occurs (take 0 ps)) n
reach_none ps n e = record { below = λ v o. let c = o.1 in absurd (omega arith); top = λ v k. absurd (omega (arith, e, k)) }

pub reach_more : (ps : List (JoinPattern ℕ)) (i : ℕ) (d : JoinPattern ℕ) (a b n : ℕ) → i < length ps → IsReach (Occurs (take i ps)) a → IsReach (HasVariable (get_or ps i d)) b → n ≡ max a b → IsReach (Occurs (take (i + 1) ps)) n
reach_more ps i d a b n l x y e = reach_as (λ v. Occurs (take i ps) v ⊎ HasVariable (get_or ps i d) v) (Occurs (take (i + 1) ps)) (max a b) n (occurs_either ps i d l) (sym e) (reach_either (Occurs (take i ps)) (HasVariable (get_or ps i d)) a b x y)

pub reach_all : (ps : List (JoinPattern ℕ)) (i n : ℕ) → length ps ≤ i → IsReach (Occurs (take i ps)) n → IsReach (Occurs ps) n
reach_all ps i n l r = subst (λ (qs : List (JoinPattern ℕ)). IsReach (Occurs qs) n) (take_all i ps l) r

-- whether a variable stands in patterns
pub occurs_more : (ps : List (JoinPattern ℕ)) (i : ℕ) (d : JoinPattern ℕ) (v : ℕ) → i < length ps → (Occurs (take i ps) v → ⊥) → (HasVariable (get_or ps i d) v → ⊥) → Occurs (take (i + 1) ps) v → ⊥
occurs_more ps i d v l n m o = elim ((occurs_either ps i d l v).1 o) [ inl k ↦ n k | inr k ↦ m k ]

pub occurs_here : (ps : List (JoinPattern ℕ)) (i : ℕ) (d : JoinPattern ℕ) (v : ℕ) → i < length ps → HasVariable (get_or ps i d) v → Occurs ps v
occurs_here ps i d v l h = (get_or ps i d, Contains-get_or ps i d l, h)

pub occurs_none : (ps : List (JoinPattern ℕ)) (i v : ℕ) → length ps ≤ i → (Occurs (take i ps) v → ⊥) → Occurs ps v → ⊥
occurs_none ps i v l n o = n (subst (λ (qs : List (JoinPattern ℕ)). Occurs qs v) (sym (take_all i ps l)) o)
