-- Numbers that are given to the subjects of triples in turn.
use Rattle.std.proofs.Common.{◌≡◌, ◌∙◌, ℕ, ◌+◌, ◌<◌, ◌≤◌, List, length, take, get_or, ap, subst, sym, refl, arith, inl, inr, Bool, true, false, Some}
use Rattle.std.specs.Prelude.{◌⊎◌, cond, slice_get}
use Rattle.std.specs.List.{Contains}
use Rattle.std.specs.BTreeMap.{BTreeMap}
use Rattle.std.specs.Ordering.{is_eq}
use Rattle.std.specs.declared.cmp.Ordering.{Ordering}
use Rattle.std.specs.declared.cmp.Ordering.TheVariants.{Less, Equal, Greater}
use Rattle.std.specs.Cmp.{tied_itself}
use Rattle.std.proofs.lemmas.List.{get_or-take, length-take-le}
use Rattle.std.proofs.lemmas.List.Elements.{Contains-get_or}
use Rattle.std.proofs.lemmas.Option.{get_or_from_slice_get, slice_get_cases}
use Rattle.rdf_model.specs.declared.term.Term.{Term}
use Rattle.rdf_model.specs.declared.triple.Triple.{Triple}
use Rattle.rdf_model.specs.Terms.{term_cmp}
use Rattle.rdf_model.specs.Orders.{term_exact, term_total}
use Rattle.shape_syntax.proofs.Scans.{cases_more}
use Rattle.shape_references.specs.Steps.{AreIndices, HaveNumbers, IsRepeated, Numbers, number_in}

tied : (o : Ordering) → is_eq o ≡ true → o ≡ Equal
tied Less e = cc
tied Equal e = refl
tied Greater e = cc

numbered_cases : (numbers new : BTreeMap Term ℕ) (n : Term) (i : ℕ) → Numbers numbers n i new → (m : Term) → ((n ≡ m) × (number_in new m ≡ Some i)) ⊎ (number_in new m ≡ number_in numbers m)
numbered_cases numbers new n i gives m = elim (is_eq (term_cmp n m)) as (λ (b : Bool). is_eq (term_cmp n m) ≡ b → ((n ≡ m) × (number_in new m ≡ Some i)) ⊎ (number_in new m ≡ number_in numbers m)) [
  | true ↦ λ e. inl (term_exact n m (tied (term_cmp n m) e), gives m ∙ ap (λ (b : Bool). cond b (Some i) (number_in numbers m)) e)
  | false ↦ λ e. inr (gives m ∙ ap (λ (b : Bool). cond b (Some i) (number_in numbers m)) e)
] refl

number_at : (numbers new : BTreeMap Term ℕ) (n : Term) (i : ℕ) → is_eq (term_cmp n n) ≡ true → Numbers numbers n i new → number_in new n ≡ Some i
number_at numbers new n i e gives = gives n ∙ ap (λ (b : Bool). cond b (Some i) (number_in numbers n)) e

number_itself : (numbers new : BTreeMap Term ℕ) (n : Term) (i : ℕ) → Numbers numbers n i new → number_in new n ≡ Some i
number_itself numbers new n i gives = number_at numbers new n i (let k = tied_itself term_total n in ap is_eq k) gives

number_stays : (numbers new : BTreeMap Term ℕ) (n : Term) (i : ℕ) → Numbers numbers n i new → (m : Term) (j : ℕ) → number_in numbers m ≡ Some j → (k : ℕ) × (number_in new m ≡ Some k)
number_stays numbers new n i gives m j e = elim (numbered_cases numbers new n i gives m) [
  | inl here ↦ (i, here.1)
  | inr other ↦ (j, other ∙ e)
]

-- What is known when the subjects of so many triples have numbers.
pub record AreNumbered (g : List Triple) (k : ℕ) (numbers : BTreeMap Term ℕ) : Type 0 where
  pub indices : AreIndices g numbers
  pub all : HaveNumbers (take k g) numbers

-- the next triple has a subject that has a number, or its subject gets one
numbered_next : (g : List Triple) (k : ℕ) (t : Triple) (numbers new : BTreeMap Term ℕ) → k < length g → t ≡ get_or g k t → slice_get g k ≡ Some t → AreNumbered g k numbers
    → (IsRepeated g k t × (new ≡ numbers)) ⊎ Numbers numbers t.subject k new → AreNumbered g (k + 1) new
numbered_next g k t numbers new l e got before gave = elim gave [
  | inl same ↦ subst (λ (m : BTreeMap Term ℕ). AreNumbered g (k + 1) m) (sym same.1) (record {
    indices = before.indices;
    all = λ u c. elim (cases_more g k t l e u c) [
      | inl old ↦ before.all u old
      | inr f ↦
          let has = before.all same.0.0 same.0.1 in
          (has.0, ap (λ x. number_in numbers x) (sym (same.0.2 ∙ ap (λ (x : Triple). x.subject) f)) ∙ has.1)
    ];
  })
  | inr gives ↦ record {
    indices = λ n i f. elim (numbered_cases numbers new t.subject k gives n) [
      | inl here ↦ (let h : Some k ≡ Some i = sym here.1 ∙ f in let j : k ≡ i = cc in (t, subst (λ x. slice_get g x ≡ Some t) j got, here.0))
      | inr other ↦ before.indices n i (sym other ∙ f)
    ];
    all = λ u c. elim (cases_more g k t l e u c) [
      | inl old ↦ (let has = before.all u old in number_stays numbers new t.subject k gives u.subject has.0 has.1)
      | inr f ↦ (k, subst (λ (x : Triple). number_in new x.subject ≡ Some k) f (number_itself numbers new t.subject k gives))
    ];
  }
]

pub numbered_step : (g : List Triple) (k : ℕ) (numbers new : BTreeMap Term ℕ) → k < length g → AreNumbered g k numbers
    → ((t : Triple) → slice_get g k ≡ Some t → (IsRepeated g k t × (new ≡ numbers)) ⊎ Numbers numbers t.subject k new) → AreNumbered g (k + 1) new
numbered_step g k numbers new l before gave = elim (slice_get_cases g k).1 [
  | inl here ↦ numbered_next g k here.0 numbers new l (sym here.3) here.2 before (gave here.0 here.2)
  | inr past ↦ absurd (let m : length g ≤ k = past.0 in omega arith)
]

item_before : (g : List Triple) (i j : ℕ) (d : Triple) → i < length g → j < i → Contains (take i g) (get_or g j d)
item_before g i j d l m =
    let long : length (take i g) ≡ i = length-take-le i g (omega arith) in
    subst (λ (x : Triple). Contains (take i g) x) (get_or-take i g j d m) (Contains-get_or (take i g) j d (omega arith))

-- the triple before has the same subject
pub repeated : (g : List Triple) (i j : ℕ) (t d e : Triple) → i < length g → j < i → slice_get g i ≡ Some t → (get_or g j d).subject ≡ (get_or g i e).subject → IsRepeated g i t
repeated g i j t d e l m got same = (get_or g j d, item_before g i j d l m, same ∙ ap (λ (x : Triple). x.subject) (get_or_from_slice_get g i t e got))
