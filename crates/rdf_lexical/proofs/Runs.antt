-- How far runs of a class go.
use Rattle.std.proofs.Common.{◌≡◌, ◌∙◌, ℕ, suc, ◌+◌, ◌≤◌, Bool, true, false, cond, ◌==◌, List, [], ◌∷◌, ◌++◌, length, take, refl, sym, ap, arith}
use Rattle.std.proofs.lemmas.Bool.{eqb-true}
use Rattle.rdf_lexical.specs.declared.classes.Class.{Class}
use Rattle.rdf_lexical.specs.Classes.{holds, begins_with, run_length}
use Rattle.rdf_lexical.specs.Productions.{AllOf}

-- a character of which a test holds is none of which it doesn't
pub apart : (test : ℕ → Bool) (c n : ℕ) → test c ≡ true → test n ≡ false → (c == n) ≡ false
apart test c n here there = elim (c == n) as (λ b. (c == n) ≡ b → b ≡ false) [
  | true ↦ λ e. let same = eqb-true c n e in let both : true ≡ false = sym here ∙ ap test same ∙ there in cc
  | false ↦ λ e. refl
] refl

run_in : (k : Class) (c : ℕ) (cs : List ℕ) → holds k c ≡ true → run_length k (c ∷ cs) ≡ suc (run_length k cs)
run_in k c cs e = ap (λ b. cond b (suc (run_length k cs)) 0) e

pub run_stop : (k : Class) (cs : List ℕ) → begins_with k cs ≡ false → run_length k cs ≡ 0
run_stop k [] e = refl
run_stop k (c ∷ cs) e = ap (λ b. cond b (suc (run_length k cs)) 0) e

pub run_all : (k : Class) (t u : List ℕ) → AllOf k t → run_length k (t ++ u) ≡ length t + run_length k u
run_all k [] u h = omega arith
run_all k (c ∷ t) u h = let more = run_all k t u h.1 in run_in k c (t ++ u) h.0 ∙ ap suc more ∙ omega arith

pub run_exact : (k : Class) (t u : List ℕ) → AllOf k t → begins_with k u ≡ false → run_length k (t ++ u) ≡ length t
run_exact k t u h e = let all = run_all k t u h in let none = run_stop k u e in omega arith

pub run_taken : (k : Class) (cs : List ℕ) → AllOf k (take (run_length k cs) cs)
run_taken k [] = tt
run_taken k (c ∷ cs) = elim (holds k c) as (λ b. holds k c ≡ b → AllOf k (take (cond b (suc (run_length k cs)) 0) (c ∷ cs))) [
  | true ↦ λ e. (e, run_taken k cs)
  | false ↦ λ e. tt
] refl

pub run_bound : (k : Class) (cs : List ℕ) → run_length k cs ≤ length cs
run_bound k [] = omega arith
run_bound k (c ∷ cs) = let more = run_bound k cs in elim (holds k c) as (λ b. cond b (suc (run_length k cs)) 0 ≤ suc (length cs)) [
  | true ↦ omega arith
  | false ↦ omega arith
]

-- a run that isn't empty begins with one of the class
pub run_begins : (k : Class) (cs : List ℕ) (n : ℕ) → run_length k cs ≡ suc n → begins_with k (take (run_length k cs) cs) ≡ true
run_begins k [] n e = absurd (omega arith)
run_begins k (c ∷ cs) n e = elim (holds k c) as (λ b. holds k c ≡ b → cond b (suc (run_length k cs)) 0 ≡ suc n → begins_with k (take (cond b (suc (run_length k cs)) 0) (c ∷ cs)) ≡ true) [
  | true ↦ λ h f. h
  | false ↦ λ h f. absurd (omega arith)
] refl e
