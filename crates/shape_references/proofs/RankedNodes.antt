-- What ranks show of chains.
use Rattle.std.proofs.Common.{◌≡◌, ℕ, ◌<◌, ◌≤◌, ◌+◌, ◌∙◌, Bool, true, false, List, [], ◌∷◌, Some, length, take, get_or, map, ap, subst, sym, refl, arith, inl, inr}
use Rattle.std.specs.Prelude.{◌↔◌, IsTrue, slice_get}
use Rattle.std.specs.Option.{option_map}
use Rattle.std.specs.List.{Contains}
use Rattle.std.specs.BTreeMap.{BTreeMap}
use Rattle.std.proofs.lemmas.List.{take_more}
use Rattle.std.proofs.lemmas.List.Elements.{Contains-push_cases}
use Rattle.std.proofs.lemmas.Option.{get_or_from_slice_get, slice_get-map}
use Rattle.collections.proofs.Members.{has_cases, has_equal, has_tail}
use Rattle.rdf_model.specs.declared.term.Term.{Term}
use Rattle.rdf_model.specs.declared.triple.Triple.{Triple}
use Rattle.shape_references.specs.declared.steps.Step.{Step}
use Rattle.shape_references.specs.Chains.{Chain, HasLoopAt, IsJoined, LeadsBack, TellsLoop}
use Rattle.shape_references.specs.Ranks.{AreLevel, Rises, rank_in}
use Rattle.shape_references.specs.Steps.{AreSteps, number_in, step_in}
use Rattle.shape_syntax.proofs.Items.{get_in}
use Rattle.shape_references.proofs.LeastLoop.{back_loop}

pub mapped_in : {X Y : Type 0} → (f : X → Y) (xs : List X) (x : X) → Contains xs x → Contains (map f xs) (f x)
mapped_in f [] x c = absurd (omega arith)
mapped_in f (y ∷ ys) x c = elim (has_cases y ys x c) [
  | inl e ↦ has_equal (f y) (map f ys) (f x) (ap f e)
  | inr d ↦ has_tail (f y) (map f ys) (f x) (mapped_in f ys x d)
]

never_falls : (g : List Triple) (r : Term → ℕ) → ((t : Triple) → Contains g t → r t.subject ≤ r t.object) → (a : Term) (ms : List Term) (b : Term) → Chain (IsJoined g) a ms b → r a ≤ r b
never_falls g r level a [] b h = level (record { subject = a; predicate = h.0; object = b }) h.1
never_falls g r level a (m ∷ ms) b h =
    let first : r a ≤ r m = level (record { subject = a; predicate = h.0.0; object = m }) h.0.1 in
    let others : r m ≤ r b = never_falls g r level m ms b h.1 in
    omega arith

never_back : (g : List Triple) (r : Term → ℕ) → ((t : Triple) → Contains g t → r t.subject ≤ r t.object) → (t : Triple) → r t.subject < r t.object → LeadsBack g t → ⊥
never_back g r level t rise back = elim back [
  | inl same ↦ (let e = ap r same in omega arith)
  | inr chain ↦ (let k = never_falls g r level t.object chain.0 t.subject chain.1 in omega arith)
]

-- no chain leads back over a triple that leads to a higher rank
rising_apart : (g : List Triple) (steps : List Step) (ranks : List ℕ) (t : Triple) → ((numbers : BTreeMap Term ℕ) × (steps ≡ map (step_in numbers) g) × Rises ranks (step_in numbers t)) → AreLevel steps ranks → LeadsBack g t → ⊥
rising_apart g steps ranks t by level =
    never_back g (λ n. rank_in ranks (number_in by.0 n))
    (λ u c. level (step_in by.0 u) (subst (λ (ss : List Step). Contains ss (step_in by.0 u)) (sym by.1) (mapped_in (step_in by.0) g u c))) t by.2

-- the step at the index of a triple
step_at : (g : List Triple) (steps : List Step) (i : ℕ) (t : Triple) (d : Step) (by : AreSteps g steps) → slice_get g i ≡ Some t → get_or steps i d ≡ step_in by.0 t
step_at g steps i t d by got =
    let there : slice_get (map (step_in by.0) g) i ≡ Some (step_in by.0 t) = slice_get-map (step_in by.0) g i ∙ ap (λ o. option_map (step_in by.0) o) got in
    ap (λ (ss : List Step). get_or ss i d) by.1 ∙ get_or_from_slice_get (map (step_in by.0) g) i (step_in by.0 t) d there

pub rising_step : (g : List Triple) (steps : List Step) (ranks : List ℕ) (i : ℕ) (t : Triple) (d : Step) → AreSteps g steps → slice_get g i ≡ Some t → Rises ranks (get_or steps i d) → AreLevel steps ranks
    → LeadsBack g t → ⊥
rising_step g steps ranks i t d by got rise level = rising_apart g steps ranks t (by.0, by.1, subst (λ (s : Step). Rises ranks s) (step_at g steps i t d by got) rise) level

-- one step more doesn't fall
pub level_more : (ranks : List ℕ) (steps : List Step) (i : ℕ) (d : Step) → i < length steps → rank_in ranks (get_or steps i d).from ≤ rank_in ranks (get_or steps i d).to
    → AreLevel (take i steps) ranks → AreLevel (take (i + 1) steps) ranks
level_more ranks steps i d l here before s there = elim (Contains-push_cases (take i steps) (get_or steps i d) s (subst (λ ss. Contains ss s) (take_more steps i d l) there)) [
  | inl old ↦ before s old
  | inr same ↦ subst (λ (x : Step). rank_in ranks x.from ≤ rank_in ranks x.to) same here
]

-- what is found of the subject tells of the triple
pub tells : (g : List Triple) (i : ℕ) (t d : Triple) (found : Bool) → slice_get g i ≡ Some t → IsTrue found ↔ HasLoopAt g (get_or g i d).subject → TellsLoop g t found
tells g i t d true got is = subst (λ (x : Triple). HasLoopAt g x.subject) (get_or_from_slice_get g i t d got) (is.0 refl)
tells g i t d false got is = λ back.
    let loop = subst (λ (x : Triple). HasLoopAt g x.subject) (sym (get_or_from_slice_get g i t d got)) (back_loop g t (get_in g i t got) back) in
    let k = is.1 loop in
    cc
