-- What is known of chains to a goal while nodes are asked in turn.
use Rattle.std.proofs.Common.{◌≡◌, ℕ, ◌+◌, ◌<◌, ◌≤◌, List, [], ◌∷◌, ◌++◌, length, take, get_or, refl, sym, subst, arith, inl, inr}
use Rattle.std.specs.Prelude.{◌↔◌, ◌⊎◌}
use Rattle.std.specs.List.{Contains}
use Rattle.std.proofs.lemmas.List.{length_push, take_all}
use Rattle.std.proofs.lemmas.List.Elements.{Contains-append_left, Contains-push}
use Rattle.rdf_model.specs.declared.term.Term.{Term}
use Rattle.rdf_model.specs.declared.triple.Triple.{Triple}
use Rattle.shape_syntax.proofs.Scans.{cases_more}
use Rattle.shape_syntax.specs.PathSteps.{Adds}
use Rattle.shape_syntax.specs.Subjects.{IsSubject}
use Rattle.shape_references.specs.Chains.{Chain, LeadsTo, HasLoopAt, IsJoined}
use Rattle.shape_references.specs.Asking.{AreLeading, ArePending, Shows, WasAsked, WereAsked}

pub joined_subject : (g : List Triple) (a b : Term) → IsJoined g a b → IsSubject g a
joined_subject g a b j = (record { subject = a; predicate = j.0; object = b }, j.1, refl)

-- the triples of the node show that a chain leads from it
pub shown_by : (g own : List Triple) (goal : Term) (known : List Term) (n : Term) → ((t : Triple) → Contains own t ↔ (Contains g t × (t.subject ≡ n)))
    → ((t : Triple) × Contains own t × ((t.object ≡ goal) ⊎ Contains known t.object)) ↔ Shows g goal known n
shown_by g own goal known n of = (
  λ h. let t = h.0 in let k = (of t).0 h.1 in (t.object, (t.predicate, subst (λ (x : Term). Contains g (record { subject = x; predicate = t.predicate; object = t.object })) k.1 k.0), h.2),
  λ h. (record { subject = n; predicate = h.1.0; object = h.0 }, (of (record { subject = n; predicate = h.1.0; object = h.0 })).1 (h.1.1, refl), h.2),
)

shown_leads : (g : List Triple) (goal : Term) (known : List Term) → AreLeading g goal known → (n : Term) → Shows g goal known n → LeadsTo (IsJoined g) n goal
shown_leads g goal known leading n h = elim h.2 [
  | inl e ↦ ([], subst (λ (x : Term). IsJoined g n x) e h.1)
  | inr c ↦ (let k = leading h.0 c in (h.0 ∷ k.0, (h.1, k.1)))
]

-- none so far
pub asked_none : (g : List Triple) (goal : Term) (nodes known : List Term) → WereAsked g goal 0 (take 0 nodes) known known []
asked_none g goal nodes known = record {
  sound = λ h. h;
  kept = λ a c. c;
  each = λ a c. absurd (omega arith);
  fewer = omega arith;
  still = λ e. (refl, λ a c h. omega arith);
}

asked_left : (g : List Triple) (goal : Term) (ns : List Term) (i : ℕ) (n : Term) (known now left : List Term) → i < length ns → n ≡ get_or ns i n
    → WereAsked g goal i (take i ns) known now left
    → (Shows g goal now n → ⊥)
    → WereAsked g goal (i + 1) (take (i + 1) ns) known now (left ++ n ∷ [])
asked_left g goal ns i n known now left l e before unshown =
    let fewer : length left ≤ i = before.fewer in
    let long : length (left ++ n ∷ []) ≡ length left + 1 = length_push left n in
    record {
      sound = before.sound;
      kept = before.kept;
      each = λ a there. elim (cases_more ns i n l e a there) [
        | inl old ↦ elim (before.each a old) [ inl k ↦ inl k | inr w ↦ inr (Contains-append_left left (n ∷ []) a w) ]
        | inr same ↦ inr (subst (λ (x : Term). Contains (left ++ n ∷ []) x) same (Contains-push left n))
      ];
      fewer = omega arith;
      still = λ all.
          let same = before.still (omega arith) in (
            same.0,
            λ a there h. elim (cases_more ns i n l e a there) [
              | inl old ↦ same.1 a old h
              | inr f ↦ unshown (subst (λ (x : Term). Shows g goal now x) (sym f) (subst (λ (ks : List Term). Shows g goal ks a) (sym same.0) h))
            ],
          );
    }

asked_shown : (g : List Triple) (goal : Term) (ns : List Term) (i : ℕ) (n : Term) (known now new left : List Term) → i < length ns → n ≡ get_or ns i n
    → WereAsked g goal i (take i ns) known now left
    → Shows g goal now n
    → Adds now n new
    → WereAsked g goal (i + 1) (take (i + 1) ns) known new left
asked_shown g goal ns i n known now new left l e before shown more =
    let fewer : length left ≤ i = before.fewer in
    record {
      sound = λ h a c. elim ((more a).0 c) [
        | inl old ↦ before.sound h a old
        | inr same ↦ subst (λ (x : Term). LeadsTo (IsJoined g) x goal) same (shown_leads g goal now (before.sound h) n shown)
      ];
      kept = λ a c. (more a).1 (inl (before.kept a c));
      each = λ a there. elim (cases_more ns i n l e a there) [
        | inl old ↦ elim (before.each a old) [ inl k ↦ inl ((more a).1 (inl k)) | inr w ↦ inr w ]
        | inr same ↦ inl ((more a).1 (inr same))
      ];
      fewer = omega arith;
      still = λ all. absurd (omega arith);
    }

-- one more
pub asked_next : (g : List Triple) (goal : Term) (ns : List Term) (i : ℕ) (n : Term) (known now new left new_left : List Term) → i < length ns → n ≡ get_or ns i n
    → WereAsked g goal i (take i ns) known now left
    → WasAsked g goal n now new left new_left
    → WereAsked g goal (i + 1) (take (i + 1) ns) known new new_left
asked_next g goal ns i n known now new left new_left l e before asked = elim asked [
  | inl h ↦ subst (λ (xs : List Term). WereAsked g goal (i + 1) (take (i + 1) ns) known new xs) (sym h.2)
      (asked_shown g goal ns i n known now new left l e before h.0 h.1)
  | inr h ↦ subst (λ (xs : List Term). WereAsked g goal (i + 1) (take (i + 1) ns) known new xs) (sym h.2)
      (subst (λ (ks : List Term). WereAsked g goal (i + 1) (take (i + 1) ns) known ks (left ++ n ∷ [])) (sym h.1)
      (asked_left g goal ns i n known now left l e before h.0))
]

pub asked_all : (g : List Triple) (goal : Term) (ns : List Term) (i : ℕ) (known new left : List Term) → length ns ≤ i → i ≤ length ns → WereAsked g goal i (take i ns) known new left → WereAsked g goal (length ns) ns known new left
asked_all g goal ns i known new left l m h =
    let e : i ≡ length ns = omega arith in
    subst (λ (k : ℕ). WereAsked g goal k ns known new left) e (subst (λ (xs : List Term). WereAsked g goal i xs known new left) (take_all i ns l) h)

-- What holds between the rounds: from what is known a chain leads to the goal, and each subject is known or still to be
-- asked.
pub record AreWaiting (g : List Triple) (goal : Term) (known waiting : List Term) : Type 0 where
  pub sound : AreLeading g goal known
  pub each : (a : Term) → IsSubject g a → Contains known a ⊎ Contains waiting a

pub all_waiting : (g : List Triple) (goal : Term) (known pending waiting : List Term) → known ≡ [] → waiting ≡ pending → ArePending g pending → AreWaiting g goal known waiting
all_waiting g goal known pending waiting e f all = record {
  sound = λ a c. absurd (let none = subst (λ (xs : List Term). Contains xs a) e c in omega arith);
  each = λ a i. inr (subst (λ (xs : List Term). Contains xs a) (sym f) (all a i));
}

pub waiting_next : (g : List Triple) (goal : Term) (known new waiting left : List Term) → AreWaiting g goal known waiting → WereAsked g goal (length waiting) waiting known new left → AreWaiting g goal new left
waiting_next g goal known new waiting left before asked = record {
  sound = asked.sound before.sound;
  each = λ a i. elim (before.each a i) [ inl k ↦ inl (asked.kept a k) | inr w ↦ asked.each a w ];
}

-- where nothing more is shown, all nodes from which a chain leads to the goal are known
all_known : (g : List Triple) (goal : Term) (known : List Term) → ((a : Term) → IsSubject g a → Shows g goal known a → Contains known a) → (a : Term) (ms : List Term) → Chain (IsJoined g) a ms goal → Contains known a
all_known g goal known all a [] h = all a (joined_subject g a goal h) (goal, h, inl refl)
all_known g goal known all a (m ∷ ms) h = all a (joined_subject g a m h.0) (m, h.0, inr (all_known g goal known all m ms h.1))

pub waiting_done : (g : List Triple) (goal : Term) (known new waiting left : List Term) → AreWaiting g goal known waiting → WereAsked g goal (length waiting) waiting known new left → length left ≡ length waiting → Contains new goal ↔ HasLoopAt g goal
waiting_done g goal known new waiting left before asked all =
    let same = asked.still all in
    subst (λ (ks : List Term). Contains ks goal ↔ HasLoopAt g goal) (sym same.0) (
      λ c. before.sound goal c,
      λ loop. all_known g goal known (λ a i h. elim (before.each a i) [
        | inl k ↦ k
        | inr w ↦ absurd (same.1 a w h)
      ]) goal loop.0 loop.1,
    )
