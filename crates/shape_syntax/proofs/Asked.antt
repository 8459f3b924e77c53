-- What is known while claims are asked in turn.
use Rattle.std.proofs.Common.{◌≡◌, ℕ, ◌+◌, ◌<◌, ◌≤◌, List, [], ◌∷◌, ◌++◌, length, take, get_or, refl, sym, subst, ap, arith, inl, inr}
use Rattle.std.specs.Prelude.{◌↔◌, ◌⊎◌}
use Rattle.std.specs.List.{Contains}
use Rattle.std.proofs.lemmas.List.{length_push, take_all}
use Rattle.std.proofs.lemmas.List.Elements.{Contains-append_left, Contains-push}
use Rattle.rdf_model.specs.declared.term.Term.{Term}
use Rattle.rdf_model.specs.declared.triple.Triple.{Triple}
use Rattle.shape_syntax.proofs.Scans.{cases_more}
use Rattle.shape_syntax.specs.declared.claim.Claim.{Claim}
use Rattle.shape_syntax.specs.declared.claim.Claim.TheVariants as claims
use Rattle.shape_syntax.specs.PathNodes.{ArePathNodes}
use Rattle.shape_syntax.specs.PathSteps.{Adds, MayStand, Stands, Shows, Knows, AreSound, WasAsked, WereAsked}
use Rattle.shape_syntax.proofs.PathSteps.{shown_stands, shown_may, path_nodes}

-- a node that is put into one of the sets is what is known more
pub path_noted : (paths lists new : List Term) (n : Term) → Adds paths n new → (c : Claim) → Knows new lists c ↔ (Knows paths lists c ⊎ (claims.Path n ≡ c))
path_noted paths lists new n adds (claims.Path m) = (
  λ k. elim ((adds m).0 k) [ inl old ↦ inl old | inr e ↦ inr (ap claims.Path e) ],
  λ h. elim h [ inl old ↦ (adds m).1 (inl old) | inr e ↦ (adds m).1 (inr (cc e)) ],
)
path_noted paths lists new n adds (claims.List m) = (λ k. inl k, λ h. elim h [ inl old ↦ old | inr e ↦ cc ])

pub list_noted : (paths lists new : List Term) (n : Term) → Adds lists n new → (c : Claim) → Knows paths new c ↔ (Knows paths lists c ⊎ (claims.List n ≡ c))
list_noted paths lists new n adds (claims.List m) = (
  λ k. elim ((adds m).0 k) [ inl old ↦ inl old | inr e ↦ inr (ap claims.List e) ],
  λ h. elim h [ inl old ↦ (adds m).1 (inl old) | inr e ↦ (adds m).1 (inr (cc e)) ],
)
list_noted paths lists new n adds (claims.Path m) = (λ k. inl k, λ h. elim h [ inl old ↦ old | inr e ↦ cc ])

-- none so far
pub asked_none : (s : List Triple) (claims : List Claim) (paths lists : List Term) → WereAsked s 0 (take 0 claims) paths lists paths lists []
asked_none s claims paths lists = record {
  sound = λ h. h;
  kept = λ c k. k;
  each = λ c d. absurd (omega arith);
  fewer = omega arith;
  still = λ e. (refl, refl, λ c d h. omega arith);
}

asked_left : (s : List Triple) (cs : List Claim) (i : ℕ) (c : Claim) (paths lists now_paths now_lists : List Term) (left : List Claim) → i < length cs → c ≡ get_or cs i c
    → WereAsked s i (take i cs) paths lists now_paths now_lists left
    → (Shows s now_paths now_lists c → ⊥)
    → WereAsked s (i + 1) (take (i + 1) cs) paths lists now_paths now_lists (left ++ c ∷ [])
asked_left s cs i c paths lists now_paths now_lists left l e before unshown =
    let fewer : length left ≤ i = before.fewer in
    let long : length (left ++ c ∷ []) ≡ length left + 1 = length_push left c in
    record {
      sound = before.sound;
      kept = before.kept;
      each = λ d there. elim (cases_more cs i c l e d there) [
        | inl old ↦ elim (before.each d old) [ inl k ↦ inl k | inr w ↦ inr (Contains-append_left left (c ∷ []) d w) ]
        | inr same ↦ inr (subst (λ (x : Claim). Contains (left ++ c ∷ []) x) same (Contains-push left c))
      ];
      fewer = omega arith;
      still = λ all.
          let same = before.still (omega arith) in (
            same.0,
            same.1,
            λ d there h. elim (cases_more cs i c l e d there) [
              | inl old ↦ same.2 d old h
              | inr f ↦ unshown (subst (λ (x : Claim). Shows s now_paths now_lists x) (sym f) (subst (λ (ls : List Term). Shows s now_paths ls d) (sym same.1) (subst (λ (ps : List Term). Shows s ps lists d) (sym same.0) h)))
            ],
          );
    }

asked_shown : (s : List Triple) (cs : List Claim) (i : ℕ) (c : Claim) (paths lists now_paths now_lists new_paths new_lists : List Term) (left : List Claim) → i < length cs → c ≡ get_or cs i c
    → WereAsked s i (take i cs) paths lists now_paths now_lists left
    → Shows s now_paths now_lists c
    → ((d : Claim) → Knows new_paths new_lists d ↔ (Knows now_paths now_lists d ⊎ (c ≡ d)))
    → WereAsked s (i + 1) (take (i + 1) cs) paths lists new_paths new_lists left
asked_shown s cs i c paths lists now_paths now_lists new_paths new_lists left l e before shown more =
    let fewer : length left ≤ i = before.fewer in
    record {
      sound = λ h d k. elim ((more d).0 k) [
        | inl old ↦ before.sound h d old
        | inr same ↦ subst (λ (x : Claim). Stands s x) same (shown_stands s now_paths now_lists (before.sound h) c shown)
      ];
      kept = λ d k. (more d).1 (inl (before.kept d k));
      each = λ d there. elim (cases_more cs i c l e d there) [
        | inl old ↦ elim (before.each d old) [ inl k ↦ inl ((more d).1 (inl k)) | inr w ↦ inr w ]
        | inr same ↦ inl ((more d).1 (inr same))
      ];
      fewer = omega arith;
      still = λ all. absurd (omega arith);
    }

-- one more
pub asked_next : (s : List Triple) (cs : List Claim) (i : ℕ) (c : Claim) (paths lists now_paths now_lists new_paths new_lists : List Term) (left new_left : List Claim) → i < length cs → c ≡ get_or cs i c
    → WereAsked s i (take i cs) paths lists now_paths now_lists left
    → WasAsked s c now_paths now_lists new_paths new_lists left new_left
    → WereAsked s (i + 1) (take (i + 1) cs) paths lists new_paths new_lists new_left
asked_next s cs i c paths lists now_paths now_lists new_paths new_lists left new_left l e before asked = elim asked [
  | inl h ↦ subst (λ (xs : List Claim). WereAsked s (i + 1) (take (i + 1) cs) paths lists new_paths new_lists xs) (sym h.2)
      (asked_shown s cs i c paths lists now_paths now_lists new_paths new_lists left l e before h.0 h.1)
  | inr h ↦ subst (λ (xs : List Claim). WereAsked s (i + 1) (take (i + 1) cs) paths lists new_paths new_lists xs) (sym h.3)
      (subst (λ (ps : List Term). WereAsked s (i + 1) (take (i + 1) cs) paths lists ps new_lists (left ++ c ∷ [])) (sym h.1)
      (subst (λ (ls : List Term). WereAsked s (i + 1) (take (i + 1) cs) paths lists now_paths ls (left ++ c ∷ [])) (sym h.2)
      (asked_left s cs i c paths lists now_paths now_lists left l e before h.0)))
]

pub asked_all : (s : List Triple) (cs : List Claim) (i : ℕ) (paths lists new_paths new_lists : List Term) (left : List Claim) → length cs ≤ i → i ≤ length cs → WereAsked s i (take i cs) paths lists new_paths new_lists left → WereAsked s (length cs) cs paths lists new_paths new_lists left
asked_all s cs i paths lists new_paths new_lists left l m h =
    let e : i ≡ length cs = omega arith in
    subst (λ (n : ℕ). WereAsked s n cs paths lists new_paths new_lists left) e (subst (λ (xs : List Claim). WereAsked s i xs paths lists new_paths new_lists left) (take_all i cs l) h)

-- What holds between the rounds: what is known is so, and what may come to be known is known or is still to be asked.
pub record AreWaiting (s : List Triple) (paths lists : List Term) (waiting : List Claim) : Type 0 where
  pub sound : AreSound s paths lists
  pub each : (c : Claim) → MayStand s c → Knows paths lists c ⊎ Contains waiting c

pub all_waiting : (s : List Triple) (paths lists : List Term) (waiting : List Claim) → paths ≡ [] → lists ≡ [] → ((c : Claim) → MayStand s c → Contains waiting c) → AreWaiting s paths lists waiting
all_waiting s paths lists waiting e f all = record {
  sound = λ c. sound c;
  each = λ c i. inr (all c i);
}
  where
    sound : (c : Claim) → Knows paths lists c → Stands s c
    sound (claims.Path n) k = absurd (let none = subst (λ (xs : List Term). Contains xs n) e k in omega arith)
    sound (claims.List n) k = absurd (let none = subst (λ (xs : List Term). Contains xs n) f k in omega arith)

pub waiting_next : (s : List Triple) (paths lists new_paths new_lists : List Term) (waiting left : List Claim) → AreWaiting s paths lists waiting → WereAsked s (length waiting) waiting paths lists new_paths new_lists left → AreWaiting s new_paths new_lists left
waiting_next s paths lists new_paths new_lists waiting left before asked = record {
  sound = asked.sound before.sound;
  each = λ c i. elim (before.each c i) [ inl k ↦ inl (asked.kept c k) | inr w ↦ asked.each c w ];
}

-- where all are left, the paths that are known are all
pub waiting_done : (s : List Triple) (paths lists new_paths new_lists : List Term) (waiting left : List Claim) → AreWaiting s paths lists waiting → WereAsked s (length waiting) waiting paths lists new_paths new_lists left → length left ≡ length waiting → ArePathNodes s new_paths
waiting_done s paths lists new_paths new_lists waiting left before asked all =
    let same = asked.still all in
    subst (λ (ps : List Term). ArePathNodes s ps) (sym same.0) (path_nodes s paths lists (λ c h. elim (before.each c (shown_may s paths lists c h)) [
      | inl k ↦ k
      | inr w ↦ absurd (same.2 c w h)
    ]) before.sound)
