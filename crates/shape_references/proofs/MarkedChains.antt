-- Marks at numbers from which chains lead, and what they say of the nodes.
use Rattle.std.proofs.Common.{◌≡◌, ◌∙◌, ℕ, zero, suc, ◌+◌, ◌<◌, ◌≤◌, Bool, true, false, List, [], ◌∷◌, Option, Some, None, length, take, replicate, get_or, map, ap, subst, sym, refl, arith, inl, inr, add-one}
use Rattle.std.specs.Prelude.{◌⊎◌, ◌↔◌, slice_get}
use Rattle.std.specs.List.{Contains}
use Rattle.std.specs.BTreeMap.{BTreeMap}
use Rattle.std.proofs.lemmas.List.{length-map, take_all, take_more}
use Rattle.std.proofs.lemmas.List.Elements.{Contains-push_cases, Contains-push, Contains-append_left, Contains-get_or}
use Rattle.std.proofs.lemmas.Bool.{cases_eq}
use Rattle.std.proofs.lemmas.Option.{slice_get_within}
use Rattle.collections.proofs.Members.{has_head, has_tail}
use Rattle.rdf_model.specs.declared.term.Term.{Term}
use Rattle.rdf_model.specs.declared.triple.Triple.{Triple}
use Rattle.shape_references.specs.declared.steps.Step.{Step}
use Rattle.shape_references.specs.Chains.{AreWithChain, HasChain, IsJoined}
use Rattle.shape_references.specs.Steps.{AreIndices, AreInside, AreMarks, AreSteps, HasSteps, IsAtMark, marked_in, number_in, step_in}
use Rattle.shape_references.proofs.RankedNodes.{mapped_in}

mapped_has : {X Y : Type 0} → (f : X → Y) (xs : List X) (y : Y) → Contains (map f xs) y → (x : X) × Contains xs x × (f x ≡ y)
mapped_has f [] y c = absurd (omega arith)
mapped_has f (x ∷ xs) y (zero, l, e) = (x, has_head x xs, e)
mapped_has f (x ∷ xs) y (suc i, l, e) = let k = mapped_has f xs y (i, omega arith, e) in (k.0, has_tail x xs k.0 k.1, k.2)

-- ---- marks

pub none_marked : (n i : ℕ) → get_or (replicate n false) i false ≡ false
none_marked zero i = refl
none_marked (suc n) zero = refl
none_marked (suc n) (suc i) = none_marked n i

-- What a loop over steps has marked: where those of which P holds begin.
abbrev pub HasMarked : (Step → Type 0) → List Step → List Bool → Type 0
HasMarked P steps marks = (i : ℕ) → (get_or marks i false ≡ true) ↔ ((s : Step) × Contains steps s × (s.from ≡ Some i) × P s)

pub marked_none : (P : Step → Type 0) (steps : List Step) (marks : List Bool) → ((i : ℕ) → get_or marks i false ≡ false) → HasMarked P (take 0 steps) marks
marked_none P steps marks none i = (λ h. absurd (let k = none i in cc), λ h. absurd (let c = h.1 in omega arith))

pub marked_all : (P : Step → Type 0) (steps : List Step) (k : ℕ) (marks : List Bool) → length steps ≤ k → HasMarked P (take k steps) marks → HasMarked P steps marks
marked_all P steps k marks l has = subst (λ (ss : List Step). HasMarked P ss marks) (take_all k steps l) has

pub marked_next : (P : Step → Type 0) (steps : List Step) (k : ℕ) (d : Step) (marks new : List Bool) → k < length steps → HasMarked P (take k steps) marks
    → ((i : ℕ) → (get_or new i false ≡ true) ↔ ((get_or marks i false ≡ true) ⊎ (((get_or steps k d).from ≡ Some i) × P (get_or steps k d)))) → HasMarked P (take (k + 1) steps) new
marked_next P steps k d marks new l before here i =
    let all : take (k + 1) steps ≡ _ = take_more steps k d l in (
      λ h. elim ((here i).0 h) [
        | inl old ↦ (let s = (before i).0 old in (s.0, subst (λ (xs : List Step). Contains xs s.0) (sym all) (Contains-append_left (take k steps) (get_or steps k d ∷ []) s.0 s.1), s.2, s.3))
        | inr new ↦ (get_or steps k d, subst (λ (xs : List Step). Contains xs (get_or steps k d)) (sym all) (Contains-push (take k steps) (get_or steps k d)), new.0, new.1)
      ],
      λ h. (here i).1 (elim (Contains-push_cases (take k steps) (get_or steps k d) h.0 (subst (λ (xs : List Step). Contains xs h.0) all h.1)) [
        | inl old ↦ inl ((before i).1 (h.0, old, h.2, h.3))
        | inr same ↦ inr (subst (λ (x : Step). (x.from ≡ Some i) × P x) (sym same) (h.2, h.3))
      ]),
    )

pub marked_start : (steps : List Step) (k : ℕ) (d : Step) (marks new : List Bool) → k < length steps → HasMarked (λ s. Unit {0}) (take k steps) marks
    → ((i : ℕ) → (get_or new i false ≡ true) ↔ ((get_or marks i false ≡ true) ⊎ ((get_or steps k d).from ≡ Some i))) → HasMarked (λ s. Unit {0}) (take (k + 1) steps) new
marked_start steps k d marks new l before here = marked_next (λ s. Unit {0}) steps k d marks new l before (λ i. (
  λ h. elim ((here i).0 h) [ inl old ↦ inl old | inr e ↦ inr (e, tt) ],
  λ h. (here i).1 (elim h [ inl old ↦ inl old | inr e ↦ inr e.0 ]),
))

pub inside_at : (steps : List Step) (k : ℕ) (d : Step) (marks : List Bool) → AreInside steps → k < length steps → length marks ≡ length steps → (i : ℕ) → (get_or steps k d).from ≡ Some i → i < length marks
inside_at steps k d marks inside l room i e =
    let at = inside (get_or steps k d) (Contains-get_or steps k d l) in
    let f : Some at.0 ≡ Some i = sym at.1 ∙ e in
    let g : at.0 ≡ i = cc in
    let within : at.0 < length steps = at.2 in
    omega arith

pub marks_of_one : (steps : List Step) (marks : List Bool) → HasMarked (λ s. Unit {0}) steps marks → AreMarks steps 1 marks
marks_of_one steps marks has i = has i

no_steps : (steps : List Step) (k : ℕ) → AreInside steps → 0 < k → HasSteps steps k None → ⊥
no_steps steps zero inside l h = absurd (omega arith)
no_steps steps (suc k) inside l h =
    let at = inside h.0 h.1 in
    let e : Some at.0 ≡ None = sym at.1 ∙ h.2 in
    cc

goal_is : (steps : List Step) (k : ℕ) (goals : List Bool) → AreInside steps → 0 < k → AreMarks steps k goals → (o : Option ℕ) → (marked_in goals o ≡ true) ↔ HasSteps steps k o
goal_is steps k goals inside l are None = (λ h. cc, λ h. absurd (no_steps steps k inside l h))
goal_is steps k goals inside l are (Some i) = are i

more : (steps : List Step) (k : ℕ) (goals marks : List Bool) → AreInside steps → 0 < k → HasMarked (λ s. marked_in goals s.to ≡ true) steps marks → AreMarks steps k goals → AreMarks steps (suc k) marks
more steps k goals marks inside l has are i = (
  λ h. (let s = (has i).0 h in (s.0, s.1, s.2, (goal_is steps k goals inside l are s.0.to).0 s.3)),
  λ h. (has i).1 (h.0, h.1, h.2, (goal_is steps k goals inside l are h.0.to).1 h.3),
)

pub more_marks : (steps : List Step) (k : ℕ) (goals marks : List Bool) → AreInside steps → 0 < k → HasMarked (λ s. marked_in goals s.to ≡ true) steps marks → AreMarks steps k goals → AreMarks steps (k + 1) marks
more_marks steps k goals marks inside l has are = subst (λ (n : ℕ). AreMarks steps n marks) (sym (add-one k)) (more steps k goals marks inside l has are)

-- where a chain leads from a number, a shorter one does
shorter : (steps : List Step) (k n : ℕ) (o : Option ℕ) → k ≤ n → HasSteps steps n o → HasSteps steps k o
shorter steps zero n o l h = tt
shorter steps (suc k) zero o l h = absurd (omega arith)
shorter steps (suc k) (suc n) o l h = (h.0, h.1, h.2, shorter steps k n h.0.to (omega arith) h.3)

pub no_more_marks : (steps : List Step) (k n : ℕ) (marks : List Bool) → k ≤ n → ((i : ℕ) → get_or marks i false ≡ false) → AreMarks steps k marks → AreMarks steps n marks
no_more_marks steps k n marks l none are i = (
  λ h. absurd (let e = none i in cc),
  λ h. absurd (let e = none i in let f = (are i).1 (shorter steps k n (Some i) l h) in cc),
)

-- ---- chains of nodes

pub steps_inside : (g : List Triple) (steps : List Step) → AreSteps g steps → AreInside steps
steps_inside g steps by s c =
    let t = mapped_has (step_in by.0) g s (subst (λ (ss : List Step). Contains ss s) by.1 c) in
    let number = by.3 t.0 t.1 in
    let from : s.from ≡ Some number.0 = ap (λ (x : Step). x.from) (sym t.2) ∙ number.1 in
    let at = by.2 t.0.subject number.0 number.1 in
    let within : number.0 < length g = slice_get_within g number.0 at.0 at.1 in
    let long : length steps ≡ length g = ap length by.1 ∙ length-map g (step_in by.0) in
    (number.0, from, (omega arith))

one_node : (g : List Triple) (numbers : BTreeMap Term ℕ) → AreIndices g numbers → (n m : Term) (i : ℕ) → number_in numbers n ≡ Some i → number_in numbers m ≡ Some i → n ≡ m
one_node g numbers are n m i e f =
    let a = are n i e in
    let b = are m i f in
    let h : Some a.0 ≡ Some b.0 = sym a.1 ∙ b.1 in
    let k : a.0 ≡ b.0 = cc in
    sym a.2 ∙ ap (λ (x : Triple). x.subject) k ∙ b.2

steps_chain : (g : List Triple) (steps : List Step) (by : AreSteps g steps) (k : ℕ) (n : Term) → HasSteps steps k (number_in by.0 n) → HasChain (IsJoined g) k n
steps_chain g steps by zero n h = tt
steps_chain g steps by (suc k) n h =
    let t = mapped_has (step_in by.0) g h.0 (subst (λ (ss : List Step). Contains ss h.0) by.1 h.1) in
    let number = by.3 t.0 t.1 in
    let e : number_in by.0 t.0.subject ≡ number_in by.0 n = ap (λ (x : Step). x.from) t.2 ∙ h.2 in
    let same : t.0.subject ≡ n = one_node g by.0 by.2 t.0.subject n number.0 number.1 (sym e ∙ number.1) in
    let rest = subst (λ (x : Step). HasSteps steps k x.to) (sym t.2) h.3 in (
      t.0.object,
      (t.0.predicate, subst (λ (x : Term). Contains g (record { subject = x; predicate = t.0.predicate; object = t.0.object })) same t.1),
      steps_chain g steps by k t.0.object rest,
    )

chain_steps : (g : List Triple) (steps : List Step) (by : AreSteps g steps) (k : ℕ) (n : Term) → HasChain (IsJoined g) k n → HasSteps steps k (number_in by.0 n)
chain_steps g steps by zero n h = tt
chain_steps g steps by (suc k) n h =
    let t : Triple = record { subject = n; predicate = h.1.0; object = h.0 } in (
      step_in by.0 t,
      subst (λ (ss : List Step). Contains ss (step_in by.0 t)) (sym by.1) (mapped_in (step_in by.0) g t h.1.1),
      refl,
      chain_steps g steps by k h.0 h.2,
    )

pub marked_chains : (g : List Triple) (steps : List Step) (k : ℕ) (marks : List Bool) (nodes : List Term) → AreSteps g steps → 0 < k → AreMarks steps k marks
    → ((n : Term) → Contains nodes n ↔ IsAtMark g marks (length g) n) → AreWithChain g k nodes
marked_chains g steps zero marks nodes by l are all n = absurd (omega arith)
marked_chains g steps (suc k) marks nodes by l are all n = (
  λ c.
      let at = (all n).0 c in
      let has = (are at.0).0 at.2 in
      let t = mapped_has (step_in by.0) g has.0 (subst (λ (ss : List Step). Contains ss has.0) by.1 has.1) in
      let e : number_in by.0 t.0.subject ≡ Some at.0 = ap (λ (x : Step). x.from) t.2 ∙ has.2 in
      let there = by.2 t.0.subject at.0 e in
      let h : Some there.0 ≡ Some at.3.0 = sym there.1 ∙ at.3.1 in
      let f : there.0 ≡ at.3.0 = cc in
      let same : t.0.subject ≡ n = sym there.2 ∙ ap (λ (x : Triple). x.subject) f ∙ at.3.2 in
      steps_chain g steps by (suc k) n (subst (λ (o : Option ℕ). HasSteps steps (suc k) o) (sym e ∙ ap (λ x. number_in by.0 x) same) has),
  λ h.
      let number = by.3 (record { subject = n; predicate = h.1.0; object = h.0 }) h.1.1 in
      let there = by.2 n number.0 number.1 in
      let has = subst (λ (o : Option ℕ). HasSteps steps (suc k) o) number.1 (chain_steps g steps by (suc k) n h) in
      (all n).1 (number.0, slice_get_within g number.0 there.0 there.1, (are number.0).1 has, there),
)

-- the node of the next index
pub at_mark_next : (g : List Triple) (marks : List Bool) (k : ℕ) (t : Triple) (nodes new : List Term) → slice_get g k ≡ Some t → ((n : Term) → Contains nodes n ↔ IsAtMark g marks k n)
    → ((n : Term) → Contains new n ↔ (Contains nodes n ⊎ ((get_or marks k false ≡ true) × (t.subject ≡ n)))) → (n : Term) → Contains new n ↔ IsAtMark g marks (k + 1) n
at_mark_next g marks k t nodes new got before here n = (
  λ c. elim ((here n).0 c) [
    | inl old ↦ (let at = (before n).0 old in (at.0, (let l : at.0 < k = at.1 in omega arith), at.2, at.3))
    | inr now ↦ (k, (omega arith), now.0, (t, got, now.1))
  ],
  λ at. (here n).1 (elim (cases_eq at.0 k) [
    | inl e ↦
        let f : Some at.3.0 ≡ Some t = sym at.3.1 ∙ ap (λ x. slice_get g x) e ∙ got in
        let h : at.3.0 ≡ t = cc in
        inr (subst (λ x. get_or marks x false ≡ true) e at.2, sym (ap (λ (x : Triple). x.subject) h) ∙ at.3.2)
    | inr ne ↦ inl ((before n).1 (at.0, (let l : at.0 < k + 1 = at.1 in omega arith), at.2, at.3))
  ]),
)
